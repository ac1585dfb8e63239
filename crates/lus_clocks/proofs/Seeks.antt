-- The occurrence that is found is the one with that number, by the definitions.
use Rattle.std.proofs.Common.{◌≡◌, Bool, true, false, cond, ◌==◌, List, [], ◌∷◌, ◌++◌, map, flat_map, refl, ap, sym, ◌∙◌, ℕ, suc, ◌+◌, ◌<◌, arith, drop, get_or, drop-cons, length, Option, Some, None}
use Rattle.std.specs.Prelude.{find, option_map}
use Rattle.std.specs.Option.{option_or}
use Rattle.lus_tree.specs.Tree.{text_of, Expression, Expressions, truth, number, name, negation, minus, pre, arrow, binary, choice, sampled, merged, call, condact, mode_name, no_more, more, ContractStatement, assume, guarantee, ghost_variable, constant, mode, «import», Component}
use Rattle.lus_meaning.specs.Scene.{Clock, base, Site, plain, while_true, as_import, sampled_by, clock_of, contract_statements}
use Rattle.lus_meaning.specs.Occurrences.{Text, texts, Standing, within, before, moved, Occurrence, occurs, occurrences, occurrences_among, all_occurrences, Memory, memory_in, Start, start_in, gathered}
use Rattle.lus_meaning.specs.Program.{listed, site_in, import_site}
use Rattle.lus_meaning.specs.ClockFaults.{or_else}
use Rattle.lus_clocks.specs.declared.occurrence.Occurrence.{Occurrence as Sought}
use Rattle.lus_clocks.specs.declared.occurrence.Occurrence.TheVariants.{Pre, Arrow, Call}
use Rattle.lus_clocks.specs.Sought.{is_pre, is_arrow, is_call, if_there, clock_at, clock_at_among, clock_at_texts, import_at, occurrence_clock}
use Rattle.lus_clocks.proofs.Elses.{or_else_none, or_else_of_three}
use Rattle.lus_clocks.proofs.Behind.{found_behind}

pub texts_append : (n : Component) (s : Sought) (xs ys : List Text) → clock_at_texts n s (xs ++ ys) ≡ or_else (clock_at_texts n s xs) (clock_at_texts n s ys)
texts_append n s [] ys = refl
texts_append n s (x ∷ xs) ys =
    ap (or_else (clock_at n s x.0.clock x.1)) (texts_append n s xs ys)
    ∙ sym (or_else_of_three (clock_at n s x.0.clock x.1) (clock_at_texts n s xs) (clock_at_texts n s ys))

-- what is kept of one more text, followed by what is to come, is what was kept, followed by that text too
pub one_more_text : (n : Component) (s : Sought) {X Y : Type 0} (f : Y → List Text) (v : X → Y) (xs : List X) (i : ℕ) (x : X) (k k' : Option Clock)
    → i < length xs → x ≡ get_or xs i x → k' ≡ or_else k (clock_at_texts n s (f (v x)))
    → or_else k' (clock_at_texts n s (flat_map f (map v (drop (i + 1) xs)))) ≡ or_else k (clock_at_texts n s (flat_map f (map v (drop i xs))))
one_more_text n s f v xs i x k k' h e d =
    let a : i + 1 ≡ suc i = omega arith in
    let l : drop i xs ≡ x ∷ drop (suc i) xs = drop-cons xs i x h ∙ ap (λ y. y ∷ drop (suc i) xs) (sym e) in
    let rest : List Text = flat_map f (map v (drop (suc i) xs)) in
    rw a
    (ap (λ z. or_else z (clock_at_texts n s rest)) d
    ∙ or_else_of_three k (clock_at_texts n s (f (v x))) (clock_at_texts n s rest)
    ∙ ap (or_else k) (sym (texts_append n s (f (v x)) rest))
    ∙ ap (λ ys. or_else k (clock_at_texts n s (flat_map f (map v ys)))) (sym l))

-- ---- among all occurrences

-- whether an expression is the occurrence
abbrev is_it : Sought → Expression → Bool
is_it s (pre p k a) = is_pre s k
is_it s (arrow p k a b) = is_arrow s k
is_it s (call p k f as_) = is_call s k
is_it s (condact p k a f as_ ds) = is_call s k
is_it s _ = false

module _ (n : Component) (s : Sought) where
  abbrev first : List Occurrence → Option Clock
  first [] = None
  first (o ∷ os) = or_else (if_there (is_it s o.expression) o.standing.clock) (first os)

  first_append : (xs ys : List Occurrence) → first (xs ++ ys) ≡ or_else (first xs) (first ys)
  first_append [] ys = refl
  first_append (x ∷ xs) ys =
      ap (or_else (if_there (is_it s x.expression) x.standing.clock)) (first_append xs ys)
      ∙ sym (or_else_of_three (if_there (is_it s x.expression) x.standing.clock) (first xs) (first ys))

  two_in : (a b : Option Clock) (xs ys : List Occurrence) → a ≡ first xs → b ≡ first ys → or_else a b ≡ first (xs ++ ys)
  two_in a b xs ys d e = ap (λ z. or_else z b) d ∙ ap (or_else (first xs)) e ∙ sym (first_append xs ys)

  mutual
    found_in : (t : Standing) (e : Expression) → clock_at n s t.clock e ≡ first (occurrences n t e)
    found_in t (truth q b) = refl
    found_in t (number q k) = refl
    found_in t (name q x) = refl
    found_in t (negation q a) = found_in (within t) a
    found_in t (minus q a) = found_in (within t) a
    found_in t (pre q k a) = ap (or_else (if_there (is_pre s k) t.clock)) (found_in (before t) a)
    found_in t (arrow q k a b) =
        two_in (clock_at n s t.clock a) (or_else (if_there (is_arrow s k) t.clock) (clock_at n s t.clock b)) (occurrences n (within t) a)
        (occurs t (arrow q k a b) ∷ occurrences n (within t) b) (found_in (within t) a)
        (ap (or_else (if_there (is_arrow s k) t.clock)) (found_in (within t) b))
    found_in t (binary q o a b) =
        two_in (clock_at n s t.clock a) (clock_at n s t.clock b) (occurrences n (within t) a)
        (occurs t (binary q o a b) ∷ occurrences n (within t) b) (found_in (within t) a) (found_in (within t) b)
    found_in t (choice q a b c) =
        two_in (clock_at n s t.clock a) (or_else (clock_at n s t.clock b) (clock_at n s t.clock c)) (occurrences n (within t) a)
        (occurrences n (within t) b ++ occurrences n (within t) c) (found_in (within t) a)
        (two_in (clock_at n s t.clock b) (clock_at n s t.clock c) (occurrences n (within t) b) (occurrences n (within t) c)
        (found_in (within t) b) (found_in (within t) c))
    found_in t (sampled q a b x) =
        let k : Standing = moved (clock_of n x.text) t in
        sym (or_else_none (clock_at n s k.clock a))
        ∙ two_in (clock_at n s k.clock a) None (occurrences n k a) (occurs t (sampled q a b x) ∷ []) (found_in k a) refl
    found_in t (merged q x a b) =
        let k : Standing = moved (sampled_by true x.text) t in
        let l : Standing = moved (sampled_by false x.text) t in
        two_in (clock_at n s k.clock a) (clock_at n s l.clock b) (occurrences n k a) (occurrences n l b) (found_in k a) (found_in l b)
    found_in t (call q k f as_) = ap (or_else (if_there (is_call s k) t.clock)) (found_among (within t) as_)
    found_in t (condact q k a f as_ ds) =
        ap (or_else (if_there (is_call s k) t.clock))
        (two_in (clock_at n s t.clock a) (or_else (clock_at_among n s t.clock as_) (clock_at_among n s t.clock ds)) (occurrences n (within t) a)
        (occurrences_among n (within t) as_ ++ occurrences_among n (within t) ds) (found_in (within t) a)
        (two_in (clock_at_among n s t.clock as_) (clock_at_among n s t.clock ds) (occurrences_among n (within t) as_)
        (occurrences_among n (within t) ds) (found_among (within t) as_) (found_among (within t) ds)))
    found_in t (mode_name q d m) = refl

    found_among : (t : Standing) (as_ : Expressions) → clock_at_among n s t.clock as_ ≡ first (occurrences_among n t as_)
    found_among t no_more = refl
    found_among t (more a as_) =
        two_in (clock_at n s t.clock a) (clock_at_among n s t.clock as_) (occurrences n t a) (occurrences_among n t as_) (found_in t a) (found_among t as_)

  found_in_texts : (xs : List Text) → clock_at_texts n s xs ≡ first (flat_map (λ x. occurrences n x.0 x.1) xs)
  found_in_texts [] = refl
  found_in_texts (x ∷ xs) =
      two_in (clock_at n s x.0.clock x.1) (clock_at_texts n s xs) (occurrences n x.0 x.1) (flat_map (λ z. occurrences n z.0 z.1) xs)
      (found_in x.0 x.1) (found_in_texts xs)

-- ---- by number

or_of : {A : Type 0} (clock : A → Clock) (x y : Option A) → option_map clock (option_or x y) ≡ or_else (option_map clock x) (option_map clock y)
or_of clock None y = refl
or_of clock (Some a) y = refl

one_there : {A : Type 0} (clock : A → Clock) (b : Bool) (a : A) → option_map clock (cond b (Some a) None) ≡ if_there b (clock a)
one_there clock true a = refl
one_there clock false a = refl

module _ {A : Type 0} (f : Standing → Expression → List A) (clock : A → Clock) (test : A → Bool) (s : Sought) where
  abbrev IsEach : Type 0
  IsEach = (t : Standing) (e : Expression) → option_map clock (find test (f t e)) ≡ if_there (is_it s e) t.clock

  by_number : (n : Component) → IsEach → (os : List Occurrence) → option_map clock (find test (flat_map (λ o. f o.standing o.expression) os)) ≡ first n s os
  by_number n i [] = refl
  by_number n i (o ∷ os) =
      let rest : List A = flat_map (λ z. f z.standing z.expression) os in
      ap (option_map clock) (found_behind test (f o.standing o.expression) rest)
      ∙ or_of clock (find test (f o.standing o.expression)) (find test rest)
      ∙ ap (λ z. or_else z (option_map clock (find test rest))) (i o.standing o.expression)
      ∙ ap (or_else (if_there (is_it s o.expression) o.standing.clock)) (by_number n i os)

each_memory : (k : ℕ) (t : Standing) (e : Expression)
    → option_map (λ (m : Memory). m.clock) (find (λ m. m.number == k) (memory_in t e)) ≡ if_there (is_it (Pre k) e) t.clock
each_memory k t (truth q b) = refl
each_memory k t (number q i) = refl
each_memory k t (name q x) = refl
each_memory k t (negation q a) = refl
each_memory k t (minus q a) = refl
each_memory k t (pre q i a) = let m : Memory = record { number = i; clock = t.clock; operand = a } in one_there (λ (z : Memory). z.clock) (i == k) m
each_memory k t (arrow q i a b) = refl
each_memory k t (binary q o a b) = refl
each_memory k t (choice q a b c) = refl
each_memory k t (sampled q a b x) = refl
each_memory k t (merged q x a b) = refl
each_memory k t (call q i f as_) = refl
each_memory k t (condact q i a f as_ ds) = refl
each_memory k t (mode_name q d m) = refl

each_start : (k : ℕ) (t : Standing) (e : Expression)
    → option_map (λ (m : Start). m.clock) (find (λ m. m.number == k) (start_in t e)) ≡ if_there (is_it (Arrow k) e) t.clock
each_start k t (truth q b) = refl
each_start k t (number q i) = refl
each_start k t (name q x) = refl
each_start k t (negation q a) = refl
each_start k t (minus q a) = refl
each_start k t (pre q i a) = refl
each_start k t (arrow q i a b) = let m : Start = record { number = i; clock = t.clock } in one_there (λ (z : Start). z.clock) (i == k) m
each_start k t (binary q o a b) = refl
each_start k t (choice q a b c) = refl
each_start k t (sampled q a b x) = refl
each_start k t (merged q x a b) = refl
each_start k t (call q i f as_) = refl
each_start k t (condact q i a f as_ ds) = refl
each_start k t (mode_name q d m) = refl

each_site : (k : ℕ) (t : Standing) (e : Expression)
    → option_map (λ (m : Site). m.clock) (find (λ m. m.number == k) (site_in t e)) ≡ if_there (is_it (Call k) e) t.clock
each_site k t (truth q b) = refl
each_site k t (number q i) = refl
each_site k t (name q x) = refl
each_site k t (negation q a) = refl
each_site k t (minus q a) = refl
each_site k t (pre q i a) = refl
each_site k t (arrow q i a b) = refl
each_site k t (binary q o a b) = refl
each_site k t (choice q a b c) = refl
each_site k t (sampled q a b x) = refl
each_site k t (merged q x a b) = refl
each_site k t (call q i f as_) =
    let r : Site = record { number = i; callee = f.text; clock = t.clock; arguments = listed as_; defaults = []; manner = plain } in
    one_there (λ (z : Site). z.clock) (i == k) r
each_site k t (condact q i a f as_ ds) =
    let r : Site = record { number = i; callee = f.text; clock = t.clock; arguments = listed as_; defaults = listed ds; manner = while_true a } in
    one_there (λ (z : Site). z.clock) (i == k) r
each_site k t (mode_name q d m) = refl

-- ---- imports

import_there : (b : Bool) (r : Site) (rest : Option Site) (o : Option Clock) → option_map (λ (m : Site). m.clock) rest ≡ o
    → option_map (λ (m : Site). m.clock) (cond b (Some r) rest) ≡ or_else (if_there b r.clock) o
import_there true r rest o h = refl
import_there false r rest o h = h

import_call : (k : ℕ) (cs : List ContractStatement)
    → option_map (λ (m : Site). m.clock) (find (λ m. m.number == k) (flat_map import_site cs)) ≡ import_at (Call k) cs
import_call k [] = refl
import_call k (assume l ∷ cs) = import_call k cs
import_call k (guarantee l ∷ cs) = import_call k cs
import_call k (ghost_variable v e ∷ cs) = import_call k cs
import_call k (constant c ∷ cs) = import_call k cs
import_call k (mode m rs es ∷ cs) = import_call k cs
import_call k («import» i c as_ xs ∷ cs) =
    let r : Site = record { number = i; callee = c.text; clock = base; arguments = as_; defaults = []; manner = as_import (map text_of xs) } in
    import_there (i == k) r (find (λ m. m.number == k) (flat_map import_site cs)) (import_at (Call k) cs) (import_call k cs)

no_import : (s : Sought) → ((i : ℕ) → is_call s i ≡ false) → (cs : List ContractStatement) → import_at s cs ≡ None
no_import s h [] = refl
no_import s h (assume l ∷ cs) = no_import s h cs
no_import s h (guarantee l ∷ cs) = no_import s h cs
no_import s h (ghost_variable v e ∷ cs) = no_import s h cs
no_import s h (constant c ∷ cs) = no_import s h cs
no_import s h (mode m rs es ∷ cs) = no_import s h cs
no_import s h («import» i c as_ xs ∷ cs) = ap (λ b. or_else (if_there b base) (import_at s cs)) (h i) ∙ no_import s h cs

-- ---- all of them

without_imports : (n : Component) (s : Sought) → ((i : ℕ) → is_call s i ≡ false) → occurrence_clock n s ≡ first n s (all_occurrences n)
    → occurrence_clock n s ≡ or_else (clock_at_texts n s (texts n)) (import_at s (contract_statements n))
without_imports n s h e =
    e ∙ sym (found_in_texts n s (texts n)) ∙ sym (or_else_none (clock_at_texts n s (texts n)))
    ∙ ap (or_else (clock_at_texts n s (texts n))) (sym (no_import s h (contract_statements n)))

pub occurrence_is : (n : Component) (s : Sought) → occurrence_clock n s ≡ or_else (clock_at_texts n s (texts n)) (import_at s (contract_statements n))
occurrence_is n (Pre k) =
    without_imports n (Pre k) (λ i. refl) (by_number memory_in (λ m. m.clock) (λ m. m.number == k) (Pre k) n (each_memory k) (all_occurrences n))
occurrence_is n (Arrow k) =
    without_imports n (Arrow k) (λ i. refl) (by_number start_in (λ m. m.clock) (λ m. m.number == k) (Arrow k) n (each_start k) (all_occurrences n))
occurrence_is n (Call k) =
    ap (option_map (λ (m : Site). m.clock)) (found_behind (λ m. m.number == k) (gathered site_in n) (flat_map import_site (contract_statements n)))
    ∙ or_of (λ (m : Site). m.clock) (find (λ m. m.number == k) (gathered site_in n)) (find (λ m. m.number == k) (flat_map import_site (contract_statements n)))
    ∙ ap (λ z. or_else z (option_map (λ (m : Site). m.clock) (find (λ m. m.number == k) (flat_map import_site (contract_statements n)))))
    (by_number site_in (λ m. m.clock) (λ m. m.number == k) (Call k) n (each_site k) (all_occurrences n) ∙ sym (found_in_texts n (Call k) (texts n)))
    ∙ ap (or_else (clock_at_texts n (Call k) (texts n))) (import_call k (contract_statements n))
