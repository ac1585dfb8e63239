-- What is read is a text, and the only one of its marks that ends where it can't go on.
use Rattle.std.proofs.Common.{◌≡◌, ℕ, ◌+◌, ◌<◌, ◌≤◌, inl, inr, subst, arith, true, List}
use Rattle.lus_lexer.specs.declared.token.Class.{Class}
use Rattle.lus_grammar.specs.Stream.{Stream, Mark, Agree}
use Rattle.lus_grammar.specs.Phrase.{Part, Counter, Phrase, one_of, counted, part, limited, fresh, ◌⨾◌, ◌∣◌, optional, repeated}
use Rattle.lus_grammar.specs.Grammar.{body}
use Rattle.lus_grammar.specs.Syntax.{Counts, none_before, number_of, counted_on, Syntax, leaf, numbered, node, ◌·◌, this, that, absent, present, none, some}
use Rattle.lus_grammar.specs.Text.{Text, token, occurrence, line, line_within, line_anew, both, this_one, that_one, not_once, once, no_more, again}
use Rattle.lus_grammar.specs.Starts.{code, starts, Enters, Passes}
use Rattle.lus_grammar.specs.Run.{Run, read, token, occurrence, line, within, anew, both, this_one, that_one, not_once, once, no_more, again}
use Rattle.lus_grammar.proofs.Listed.{apart_left}
use Rattle.lus_grammar.proofs.Fits.{fits, FitBoth, FitEither, FitOptional, FitRepeated, fit_both, fit_either, fit_optional, fit_repeated, Ends, body_fits}
use Rattle.lus_grammar.proofs.Texts.{ordered, forward, begins_with, before_or_not, agree_to}
use Rattle.lus_grammar.proofs.Runs.{run_forward}
use Rattle.lus_grammar.proofs.Promise.{Parts, After, same, parts, Reads, not_parted, body_ends, first_ends, second_ends, one_ends, other_ends, optional_ends, optional_passes, repeated_passes, next_ends, enters_not, passes_not}

carried : {s t : Stream} {j : ℕ} {m : Counts} {x : Syntax} {j' : ℕ} {m' : Counts} {x' : Syntax} (c : Counts → Counts) (f : Syntax → Syntax)
    → After s t j m x j' m' x' → After s t j (c m) (f x) j' (c m') (f x')
carried c f same = same
carried c f (parts p) = parts p

mapped : {s t : Stream} {j : ℕ} {m : Counts} {x : Syntax} {j' : ℕ} {m' : Counts} {x' : Syntax} (f : Syntax → Syntax)
    → After s t j m x j' m' x' → After s t j m (f x) j' m' (f x')
mapped f same = same
mapped f (parts p) = parts p

-- what parts at an earlier end parts at this one, or not at all
pub later : {s t : Stream} {k k' : ℕ} (j j' : ℕ) → Parts s t k k' → Agree s t j → k ≤ j → k' ≤ j' → Parts s t j j'
later {s} {t} {k} {k'} j j' p h le le' =
    elim (before_or_not k j le) as (λ _. Parts s t j j') [
      | inl u ↦ absurd (not_parted p h u)
      | inr u ↦ record { further = omega (arith, p.further); other = λ q. p.other (subst (λ (z : ℕ). t z ≡ s z) u q) }
    ]

-- one and then another, put together by f
then : {limit bound : ℕ} {s : Stream} {b : Phrase} {k j : ℕ} {m o : Counts} {x y : Syntax} (f : Syntax → Syntax → Syntax)
    (t : Stream) {k' : ℕ} {m' : Counts} {x' : Syntax} {j' : ℕ} {o' : Counts} {y' : Syntax} →
    After s t k m x k' m' x' → Text limit bound t b k' j' m' o' y' → Reads limit s b k m j o y → k ≤ j → Agree s t j → Ends t b j'
    → After s t j o (f x y) j' o' (f x' y')
then {bound = bound} {x = x} f t {j' = j'} {o' = o'} {y' = y'} same e r le h st = mapped (f x) (r.only t bound j' o' y' h e st)
then {j = j} f t {j' = j'} (parts p) e r le h st = parts (later j j' p h le (ordered e))

module _ {limit : ℕ} {s : Stream} where
  token_only : {cs : List Class} {i : ℕ} {n : Counts} (t : Stream) (bound j' : ℕ) (m' : Counts) (x' : Syntax) → t i ≡ s i
      → Text limit bound t (one_of cs) i j' n m' x' → After s t (i + 1) n (leaf (s i)) j' m' x'
  token_only {i = i} {n = n} t bound j' m' x' e (token h) = subst (λ (z : Mark). After s t (i + 1) n (leaf z) (i + 1) n (leaf (t i))) e same

  counted_only : {k : Counter} {c : Class} {i : ℕ} {n : Counts} (t : Stream) (bound j' : ℕ) (m' : Counts) (x' : Syntax) → t i ≡ s i
      → Text limit bound t (counted k c) i j' n m' x' → After s t (i + 1) (counted_on k n) (numbered (s i) (number_of k n)) j' m' x'
  counted_only {k = k} {i = i} {n = n} t bound j' m' x' e (occurrence h) = subst
      (λ (z : Mark). After s t (i + 1) (counted_on k n) (numbered z (number_of k n)) (i + 1) (counted_on k n)
      (numbered (t i) (number_of k n))) e same

  module _ {p : Part} {i j : ℕ} {n m : Counts} {x : Syntax} where
    line_only : Reads limit s (body p) i n j m x → (t : Stream) (bound j' : ℕ) (m' : Counts) (x' : Syntax) → Agree s t j
        → Text limit bound t (part p) i j' n m' x' → Ends t (part p) j' → After s t j m (node p x) j' m' x'
    line_only r t bound j' m' x' h (line {x = y} d) st = mapped (node p) (r.only t bound j' m' y h d (body_ends t p j' st.over))

    within_only : Reads limit s (body p) i n j m x → (t : Stream) (bound j' : ℕ) (m' : Counts) (x' : Syntax) → Agree s t j
        → Text limit bound t (limited p) i j' n m' x' → Ends t (limited p) j' → After s t j m (node p x) j' m' x'
    within_only r t bound j' m' x' h (line_within {x = y} d w) st = mapped (node p) (r.only t bound j' m' y h d (body_ends t p j' st.over))

    anew_only : Reads limit s (body p) i none_before j m x → (t : Stream) (bound j' : ℕ) (m' : Counts) (x' : Syntax) → Agree s t j
        → Text limit bound t (fresh p) i j' n m' x' → Ends t (fresh p) j' → After s t j n (node p x) j' m' x'
    anew_only r t bound j' m' x' h (line_anew {m = o} {x = y} d) st = carried (λ _. n) (node p) (r.only t bound j' o y h d (body_ends t p j' st.over))

  module _ {a b : Phrase} where
    both_only : {i k j : ℕ} {n m o : Counts} {x y : Syntax} → FitBoth a b → Reads limit s a i n k m x → Reads limit s b k m j o y →
        (t : Stream) (bound j' : ℕ) (m' : Counts) (x' : Syntax) → Agree s t j → Text limit bound t (a ⨾ b) i j' n m' x' → Ends t (a ⨾ b) j'
        → After s t j o (x · y) j' m' x'
    both_only f r q t bound j' m' x' h (both {k = k'} {m = o'} {x = y'} {y = z'} d e) st =
        let le = ordered (q.text 0) in
        then (λ u v. u · v) t (r.only t bound k' o' y' (agree_to _ h le) d (first_ends a b f t k' j' e st)) e q le h (second_ends a b f t j' st)

    this_only : {i j : ℕ} {n m : Counts} {x : Syntax} → FitEither a b → Enters s i a → Reads limit s a i n j m x → i < j → (t : Stream)
        (bound j' : ℕ) (m' : Counts) (x' : Syntax) → Agree s t j → Text limit bound t (a ∣ b) i j' n m' x' → Ends t (a ∣ b) j'
        → After s t j m (this x) j' m' x'
    this_only f g r lt t bound j' m' x' h (this_one {x = y} d) st = mapped this (r.only t bound j' m' y h d (one_ends a b t j' st))
    this_only {i = i} f g r lt t bound j' m' x' h (that_one d) st = absurd
        (passes_not s t i a (apart_left (starts a) (starts b) (code (t i).class) f.parted (begins_with d (forward d f.other_some))) g
        (h i lt))

    that_only : {i j : ℕ} {n m : Counts} {x : Syntax} → FitEither a b → Passes s i a → Reads limit s b i n j m x → i < j → (t : Stream)
        (bound j' : ℕ) (m' : Counts) (x' : Syntax) → Agree s t j → Text limit bound t (a ∣ b) i j' n m' x' → Ends t (a ∣ b) j'
        → After s t j m (that x) j' m' x'
    that_only {i = i} f g r lt t bound j' m' x' h (this_one d) st = absurd (enters_not s t i a (begins_with d (forward d f.one_some)) g (h i lt))
    that_only f g r lt t bound j' m' x' h (that_one {x = y} d) st = mapped that (r.only t bound j' m' y h d (other_ends a b t j' st))

  module _ {a : Phrase} {i : ℕ} {n : Counts} where
    absent_only : FitOptional a → Passes s i a → (t : Stream) (bound j' : ℕ) (m' : Counts) (x' : Syntax) → Text limit bound t
        (optional a) i j' n m' x' → After s t i n absent j' m' x'
    absent_only f g t bound j' m' x' not_once = same
    absent_only f g t bound j' m' x' (once d) = let lt = forward d f.it_some in parts (record { further = lt; other = enters_not s t i a (begins_with d lt) g })

    present_only : {j : ℕ} {m : Counts} {x : Syntax} → FitOptional a → Enters s i a → Reads limit s a i n j m x → i < j → (t : Stream)
        (bound j' : ℕ) (m' : Counts) (x' : Syntax) → Agree s t j → Text limit bound t (optional a) i j' n m' x' → Ends t (optional a) j'
        → After s t j m (present x) j' m' x'
    present_only f g r lt t bound j' m' x' h not_once st = absurd (passes_not s t i a (optional_passes a t i st) g (h i lt))
    present_only f g r lt t bound j' m' x' h (once {x = y} d) st = mapped present (r.only t bound j' m' y h d (optional_ends a t j' st))

    none_only : FitRepeated a → Passes s i a → (t : Stream) (bound j' : ℕ) (m' : Counts) (x' : Syntax) → Text limit bound t
        (repeated a) i j' n m' x' → After s t i n none j' m' x'
    none_only f g t bound j' m' x' no_more = same
    none_only f g t bound j' m' x' (again d e) =
        let lt = forward d f.it_some in
        let le = ordered e in
        parts (record { further = omega arith; other = enters_not s t i a (begins_with d lt) g })

    some_only : {k j : ℕ} {m o : Counts} {x y : Syntax} → FitRepeated a → Enters s i a → Reads limit s a i n k m x → Reads limit s
        (repeated a) k m j o y → i < j → (t : Stream) (bound j' : ℕ) (m' : Counts) (x' : Syntax) → Agree s t j → Text limit bound t
        (repeated a) i j' n m' x' → Ends t (repeated a) j' → After s t j o (some x y) j' m' x'
    some_only f g r q lt t bound j' m' x' h no_more st = absurd (passes_not s t i a (repeated_passes a t i st) g (h i lt))
    some_only f g r q lt t bound j' m' x' h (again {k = k'} {m = o'} {x = y'} d e) st =
        let le = ordered (q.text 0) in
        then some t (r.only t bound k' o' y' (agree_to _ h le) d (next_ends a f t k' j' e st)) e q le h st

-- what is read
pub reads : {limit : ℕ} {s : Stream} {g : Phrase} {i j : ℕ} {n m : Counts} {x : Syntax} → Run limit s g i n (read j m x) → fits g ≡ true
    → Reads limit s g i n j m x
reads {i = i} (token h) f = record { text = λ end. token h; only = λ t bound j' m' x' g d st. token_only t bound j' m' x' (g i (omega arith)) d }
reads {i = i} (occurrence h) f = record { text = λ end. occurrence h; only = λ t bound j' m' x' g d st. counted_only t bound j' m' x' (g i (omega arith)) d }
reads (line {p = p} d) f = let r = reads d (body_fits p) in record { text = λ end. line (r.text end); only = line_only r }
reads (within {p = p} d w) f = let r = reads d (body_fits p) in record { text = λ end. line_within (r.text end) (inl w); only = within_only r }
reads (anew {p = p} d) f = let r = reads d (body_fits p) in record { text = λ end. line_anew (r.text end); only = anew_only r }
reads (both {a = a} {b = b} d e) f =
    let w = fit_both a b f in
    let r = reads d w.first in
    let q = reads e w.second in
    record { text = λ end. both (r.text end) (q.text end); only = both_only w r q }
reads (this_one {a = a} {b = b} h d) f =
    let w = fit_either a b f in
    let r = reads d w.one in
    record { text = λ end. this_one (r.text end); only = this_only w h r (run_forward d w.one_some) }
reads (that_one {a = a} {b = b} h d) f =
    let w = fit_either a b f in
    let r = reads d w.other in
    record { text = λ end. that_one (r.text end); only = that_only w h r (run_forward d w.other_some) }
reads (not_once {a = a} h) f = record { text = λ end. not_once; only = λ t bound j' m' x' g d st. absent_only (fit_optional a f) h t bound j' m' x' d }
reads (once {a = a} h d) f =
    let w = fit_optional a f in
    let r = reads d w.it in
    record { text = λ end. once (r.text end); only = present_only w h r (run_forward d w.it_some) }
reads (no_more {a = a} h) f = record { text = λ end. no_more; only = λ t bound j' m' x' g d st. none_only (fit_repeated a f) h t bound j' m' x' d }
reads (again {a = a} h d e) f =
    let w = fit_repeated a f in
    let r = reads d w.it in
    let q = reads e f in
    record { text = λ end. again (r.text end) (q.text end); only = some_only w h r q (omega (arith, run_forward d w.it_some, ordered (q.text 0))) }
