-- Where each slot has the values of the line that lists its place, lines are refused as they are by what was listed.
use Rattle.std.proofs.Common.{◌≡◌, ◌≢◌, ℕ, zero, suc, ◌<◌, Bool, true, false, cond, not, ◌&&◌, ◌||◌, List, [], ◌∷◌, ◌++◌, map, length, Option, Some, None, option_map, is_some, refl, sym, ap, ◌∙◌, subst, arith, slice_set, unwrap_or}
use Rattle.std.specs.Prelude.{nat_le, nat_lt, find, ◌-◌, ◌==◌}
use Rattle.std.specs.List.{AllByRecursion, list_all}
use Rattle.std.specs.Option.{option_map_or, option_or}
use Rattle.std.proofs.lemmas.Bool.{false≢true}
use Rattle.std.proofs.lemmas.List.{get_or-set_same, get_or-set_other, length-set}
use Rattle.lus_tree.specs.declared.place.Pos.{Pos}
use Rattle.lus_tree.specs.Tree.{Variable}
use Rattle.lus_meaning.specs.Trace.{Subject, of_name, BareLine, same_numbers, same_subject}
use Rattle.lus_meaning.specs.TraceView.{PlacedValue, PlacedLine, bare_line, bare_values}
use Rattle.lus_meaning.specs.Fits.{Listable, same_place, listable_at, is_listed, takes_value, Test, first_failed, value_tests, taken_tests, line_tests, lines_tests}
use Rattle.lus_meaning.specs.Fits as f
use Rattle.lus_meaning.specs.Value.{Value}
use Rattle.sys_meaning.proofs.Follows.{some_same, none_some}
use Rattle.trace_fits.specs.Slotted.{Slotted, slotted_at}
use Rattle.trace_fits.specs.Filling.{Seats, seat_at, is_seated, seated_value, value_in, seated, with_line, filled, or_else, values_misfit, seat_misfit, line_misfit, lines_misfit, is_given, are_given}
use Rattle.trace_fits.specs.Given.{ListedPlace, listed_there}
use Rattle.trace_fits.proofs.Keys.{same_are, self_place, place_back}

-- ---- what lines list

abbrev pub found : List BareLine → List ℕ → Subject → Option (List Value)
found ls path x = option_map (λ l. l.values) (find (λ l. same_numbers path l.path && same_subject x l.subject) ls)

listed_found : (ls : List BareLine) (path : List ℕ) (x : Subject) → is_listed ls path x ≡ is_some (found ls path x)
listed_found [] path x = refl
listed_found (l ∷ ls) path x =
    ap (λ b. b || is_listed ls path x) (place_back l.path path l.subject x) ∙ go (same_place path x l.path l.subject) (listed_found ls path x)
  where
    go : (b : Bool) → is_listed ls path x ≡ is_some (found ls path x) → (b || is_listed ls path x)
        ≡ is_some (option_map (λ l. l.values) (cond b (Some l) (find (λ l. same_numbers path l.path && same_subject x l.subject) ls)))
    go true e = refl
    go false e = e

found_more : (ls : List BareLine) (l : BareLine) (path : List ℕ) (x : Subject)
    → found (ls ++ l ∷ []) path x ≡ option_or (found ls path x) (cond (same_place path x l.path l.subject) (Some l.values) None)
found_more [] l path x = go (same_place path x l.path l.subject)
  where
    go : (b : Bool) → option_map (λ l. l.values) (cond b (Some l) None) ≡ cond b (Some l.values) None
    go true = refl
    go false = refl
found_more (m ∷ ls) l path x = go (same_place path x m.path m.subject) (found_more ls l path x)
  where
    go : (b : Bool) → found (ls ++ l ∷ []) path x ≡ option_or (found ls path x) (cond (same_place path x l.path l.subject) (Some l.values) None)
        → option_map (λ l. l.values) (cond b (Some m) (find (λ l. same_numbers path l.path && same_subject x l.subject) (ls ++ l ∷ [])))
        ≡ option_or (option_map (λ l. l.values) (cond b (Some m) (find (λ l. same_numbers path l.path && same_subject x l.subject) ls)))
        (cond (same_place path x l.path l.subject) (Some l.values) None)
    go true e = refl
    go false e = e

abbrev pub found_by : List BareLine → Option ListedPlace → Option (List Value)
found_by ls None = None
found_by ls (Some q) = found ls q.0 q.1

-- ---- tests

pub tests_one_by_one : (ts us : List Test) → first_failed (ts ++ us) ≡ or_else (first_failed ts) (first_failed us)
tests_one_by_one [] us = refl
tests_one_by_one (t ∷ ts) us = go t.1 (tests_one_by_one ts us)
  where
    go : (b : Bool) → first_failed (ts ++ us) ≡ or_else (first_failed ts) (first_failed us)
        → cond b (first_failed (ts ++ us)) (Some t.0) ≡ or_else (cond b (first_failed ts) (Some t.0)) (first_failed us)
    go true e = e
    go false e = refl

values_so : (s : Listable) (left : ℕ) (vs : List PlacedValue) → values_misfit s left vs ≡ first_failed (value_tests s left vs)
unfolding values_misfit
values_so s left [] = refl
values_so s zero (v ∷ vs) = refl
values_so s (suc left) (v ∷ vs) =
    let e : suc left - 1 ≡ left = omega arith in
    let z : (suc left == 0) ≡ false = grind arith in
    ap (λ b. cond b (Some v.at) (cond (takes_value s v.value) (values_misfit s (suc left - 1) vs) (Some v.at))) z
    ∙ ap (λ k. cond (takes_value s v.value) (values_misfit s k vs) (Some v.at)) e
    ∙ ap (λ o. cond (takes_value s v.value) o (Some v.at)) (values_so s left vs)

same_listable : (ss : List Slotted) (path : List ℕ) (x : Subject)
    → listable_at (map (λ s. s.listable) ss) path x ≡ option_map (λ s. s.listable) (slotted_at ss path x)
same_listable [] path x = refl
same_listable (s ∷ ss) path x = go (same_place s.listable.path s.listable.subject path x) (same_listable ss path x)
  where
    go : (b : Bool) → listable_at (map (λ s. s.listable) ss) path x ≡ option_map (λ s. s.listable) (slotted_at ss path x)
        → cond b (Some s.listable) (listable_at (map (λ s. s.listable) ss) path x)
        ≡ option_map (λ s. s.listable) (cond b (Some s) (slotted_at ss path x))
    go true e = refl
    go false e = e

less : (n c : ℕ) → nat_lt n c ≡ not (nat_le c n)
less n c = grind arith

-- a line, of which a slot says whether another lists the same
one_line : (b : Bool) (s : Listable) (l : PlacedLine) → first_failed ((l.at, not b) ∷ taken_tests (Some s) l)
    ≡ cond (b || nat_lt (length l.values) s.count) (Some l.at) (values_misfit s s.count l.values)
one_line true s l = refl
one_line false s l = go (nat_le s.count (length l.values)) (nat_lt (length l.values) s.count) (less (length l.values) s.count)
  where
    go : (b c : Bool) → c ≡ not b → cond b (first_failed (value_tests s s.count l.values)) (Some l.at)
        ≡ cond c (Some l.at) (values_misfit s s.count l.values)
    go true c e = sym (ap (λ z. cond z (Some l.at) (values_misfit s s.count l.values)) e ∙ values_so s s.count l.values)
    go false c e = sym (ap (λ z. cond z (Some l.at) (values_misfit s s.count l.values)) e)

no_line : (b : Bool) (l : PlacedLine) → first_failed ((l.at, not b) ∷ taken_tests None l) ≡ Some l.at
no_line true l = refl
no_line false l = refl

either : (c : Bool) (p : Pos) (o : Option Pos) → cond c (Some p) o ≡ None → c ≡ false
either true p o e = absurd (none_some p (sym e))
either false p o e = refl

first_of : (b c : Bool) → (b || c) ≡ false → b ≡ false
first_of true c e = absurd (false≢true (sym e))
first_of false c e = refl

none_there : {A : Type 0} (o : Option A) → is_some o ≡ false → o ≡ None
none_there None e = refl
none_there (Some x) e = absurd (false≢true (sym e))

equal_or_not : (j k : ℕ) (b : Bool) → (j == k) ≡ b → cond b (j ≡ k) (j ≢ k)
equal_or_not j k true e = grind (arith, e)
equal_or_not j k false e = λ q. absurd (false≢true (sym e ∙ ap (λ z. j == z) (sym q) ∙ same j))
  where
    same : (j : ℕ) → (j == j) ≡ true
    same j = grind arith

-- ---- slots

module _ (place : ℕ → Option ListedPlace) (apart : (j k : ℕ) (q : ListedPlace) → place j ≡ Some q → place k ≡ Some q → j ≡ k)
    (w : ℕ) (ss : List Slotted) (slotted : AllByRecursion (λ s. place s.slot ≡ Some (s.listable.path, s.listable.subject)) ss)
    (room : AllByRecursion (λ s. s.slot < w) ss) where
  -- what may be listed of a place stands in its slot
  stands : (path : List ℕ) (x : Subject) (s : Slotted) → slotted_at ss path x ≡ Some s → (place s.slot ≡ Some (path, x)) × (s.slot < w)
  stands path x s e = go ss slotted room e
    where
      go : (rs : List Slotted) → AllByRecursion (λ s. place s.slot ≡ Some (s.listable.path, s.listable.subject)) rs → AllByRecursion (λ s. s.slot < w) rs
          → slotted_at rs path x ≡ Some s → (place s.slot ≡ Some (path, x)) × (s.slot < w)
      go [] a b e = absurd (none_some s e)
      go (r ∷ rs) a b e = here (same_place r.listable.path r.listable.subject path x) refl e (go rs a.1 b.1)
        where
          here : (c : Bool) → same_place r.listable.path r.listable.subject path x ≡ c → cond c (Some r) (slotted_at rs path x) ≡ Some s
              → (slotted_at rs path x ≡ Some s → (place s.slot ≡ Some (path, x)) × (s.slot < w)) → (place s.slot ≡ Some (path, x)) × (s.slot < w)
          here true f e later =
              let q = same_are r.listable.path path r.listable.subject x f in
              let same : r ≡ s = some_same r s e in
              subst (λ (z : Slotted). (place z.slot ≡ Some (path, x)) × (z.slot < w)) same
              (a.0 ∙ ap (λ p. Some (p, r.listable.subject)) q.0 ∙ ap (λ y. Some (path, y)) q.1, b.0)
          here false f e later = later e

  -- each slot has what the lines list of its place
  pub record IsFull (vs : Seats) (ls : List BareLine) : Type 0 where
    pub long : length vs ≡ w
    pub each : (k : ℕ) → seat_at vs k ≡ found_by ls (place k)

  module _ (vs : Seats) (ls : List BareLine) (full : IsFull vs ls) (l : PlacedLine) where
    seated_so : (s : Slotted) → slotted_at ss l.path l.subject ≡ Some s → is_seated vs s.slot ≡ is_listed ls l.path l.subject
    seated_so s e =
        ap is_some (full.each s.slot ∙ ap (found_by ls) (stands l.path l.subject s e).0) ∙ sym (listed_found ls l.path l.subject)

    -- a line is refused as by what was listed
    line_so : first_failed (line_tests (map (λ s. s.listable) ss) ls l) ≡ line_misfit ss vs l
    line_so =
        ap (λ o. first_failed ((l.at, not (is_listed ls l.path l.subject)) ∷ taken_tests o l)) (same_listable ss l.path l.subject)
        ∙ go (slotted_at ss l.path l.subject) refl
      where
        go : (o : Option Slotted) → slotted_at ss l.path l.subject ≡ o
            → first_failed ((l.at, not (is_listed ls l.path l.subject)) ∷ taken_tests (option_map (λ s. s.listable) o) l) ≡ seat_misfit o vs l
        go None e = no_line (is_listed ls l.path l.subject) l
        go (Some s) e =
            one_line (is_listed ls l.path l.subject) s.listable l
            ∙ ap (λ b. cond (b || nat_lt (length l.values) s.listable.count) (Some l.at) (values_misfit s.listable s.listable.count l.values))
            (sym (seated_so s e))

    -- one that fits has its slot
    full_more : line_misfit ss vs l ≡ None → IsFull (with_line ss vs l) (ls ++ bare_line l ∷ [])
    full_more m = go (slotted_at ss l.path l.subject) refl m
      where
        more : Option ListedPlace → Option (List Value)
        more q = found_by (ls ++ bare_line l ∷ []) q

        go : (o : Option Slotted) → slotted_at ss l.path l.subject ≡ o → seat_misfit o vs l ≡ None
            → IsFull (seated o vs (bare_values l.values)) (ls ++ bare_line l ∷ [])
        go None e m = absurd (none_some l.at (sym m))
        go (Some s) e m = record { long = length-set vs s.slot (Some (bare_values l.values)) ∙ full.long; each = λ k. at k (s.slot == k) refl }
          where
            there : place s.slot ≡ Some (l.path, l.subject)
            there = (stands l.path l.subject s e).0

            within : s.slot < length vs
            within = subst (λ n. s.slot < n) (sym full.long) (stands l.path l.subject s e).1

            none_yet : found ls l.path l.subject ≡ None
            none_yet =
                none_there (found ls l.path l.subject) (sym (listed_found ls l.path l.subject) ∙ sym (seated_so s e)
                ∙ first_of (is_seated vs s.slot) (nat_lt (length l.values) s.listable.count)
                (either (is_seated vs s.slot || nat_lt (length l.values) s.listable.count) l.at (values_misfit s.listable s.listable.count l.values) m))

            here : Some (bare_values l.values) ≡ more (place s.slot)
            here =
                sym (ap more there ∙ found_more ls (bare_line l) l.path l.subject
                ∙ ap (λ o. option_or o (cond (same_place l.path l.subject l.path l.subject) (Some (bare_values l.values)) None)) none_yet
                ∙ ap (λ b. cond b (Some (bare_values l.values)) None) (self_place l.path l.subject))

            elsewhere : (k : ℕ) → s.slot ≢ k → (q : Option ListedPlace) → place k ≡ q → found_by ls q ≡ more q
            elsewhere k n None f = refl
            elsewhere k n (Some q) f = other (same_place q.0 q.1 l.path l.subject) refl
              where
                or_none : (o : Option (List Value)) → o ≡ option_or o None
                or_none None = refl
                or_none (Some x) = refl

                other : (b : Bool) → same_place q.0 q.1 l.path l.subject ≡ b → found ls q.0 q.1 ≡ more (Some q)
                other true g =
                    let h = same_are q.0 l.path q.1 l.subject g in
                    let i : place k ≡ Some (l.path, l.subject) = f ∙ ap (λ p. Some (p, q.1)) h.0 ∙ ap (λ y. Some (l.path, y)) h.1 in
                    absurd (n (apart s.slot k (l.path, l.subject) there i))
                other false g =
                    or_none (found ls q.0 q.1)
                    ∙ sym (found_more ls (bare_line l) q.0 q.1 ∙ ap (λ b. option_or (found ls q.0 q.1) (cond b (Some (bare_values l.values)) None)) g)

            at : (k : ℕ) (b : Bool) → (s.slot == k) ≡ b → seat_at (slice_set vs s.slot (Some (bare_values l.values))) k ≡ more (place k)
            at k true f =
                let j : s.slot ≡ k = equal_or_not s.slot k true f in
                subst (λ z. seat_at (slice_set vs s.slot (Some (bare_values l.values))) z ≡ more (place z)) j
                (get_or-set_same vs s.slot (Some (bare_values l.values)) None within ∙ here)
            at k false f =
                let j : s.slot ≢ k = equal_or_not s.slot k false f in
                get_or-set_other vs s.slot k (Some (bare_values l.values)) None (λ e. j (sym e)) ∙ full.each k ∙ elsewhere k j (place k) refl

  -- ---- lines

  abbrev AreRefused : Seats → List BareLine → List PlacedLine → Type 0
  AreRefused vs before ls =
      (lines_misfit ss vs ls ≡ first_failed (lines_tests (map (λ s. s.listable) ss) before ls))
      × (lines_misfit ss vs ls ≡ None → IsFull (filled ss vs ls) (before ++ map bare_line ls))

  pub lines_so : (ls : List PlacedLine) (vs : Seats) (before : List BareLine) → IsFull vs before → AreRefused vs before ls
  lines_so [] vs before full = (refl, λ m. subst (IsFull vs) (sym (none_more before)) full)
    where
      none_more : {A : Type 0} (xs : List A) → xs ++ [] ≡ xs
      none_more [] = refl
      none_more (x ∷ xs) = ap (λ l. x ∷ l) (none_more xs)
  lines_so (l ∷ ls) vs before full = go (line_misfit ss vs l) refl (λ v b h. lines_so ls v b h)
    where
      tests : List Test
      tests = line_tests (map (λ s. s.listable) ss) before l

      later : List Test
      later = lines_tests (map (λ s. s.listable) ss) (before ++ bare_line l ∷ []) ls

      rest : List BareLine → List BareLine
      rest xs = xs ++ map bare_line ls

      in_turn : {A : Type 0} (xs : List A) (y : A) (ys : List A) → (xs ++ y ∷ []) ++ ys ≡ xs ++ y ∷ ys
      in_turn [] y ys = refl
      in_turn (x ∷ xs) y ys = ap (λ l. x ∷ l) (in_turn xs y ys)

      same : (o : Option Pos) → line_misfit ss vs l ≡ o → first_failed (tests ++ later) ≡ or_else o (first_failed later)
      same o e = tests_one_by_one tests later ∙ ap (λ z. or_else z (first_failed later)) (line_so vs before full l ∙ e)

      go : (o : Option Pos) → line_misfit ss vs l ≡ o → ((v : Seats) (b : List BareLine) → IsFull v b → AreRefused v b ls)
          → (or_else (line_misfit ss vs l) (lines_misfit ss (with_line ss vs l) ls) ≡ first_failed (tests ++ later))
          × (or_else (line_misfit ss vs l) (lines_misfit ss (with_line ss vs l) ls) ≡ None
          → IsFull (filled ss (with_line ss vs l) ls) (before ++ map bare_line (l ∷ ls)))
      go (Some p) e r = (
        ap (λ z. or_else z (lines_misfit ss (with_line ss vs l) ls)) e ∙ sym (same (Some p) e),
        λ m. absurd (none_some p (sym (sym (ap (λ z. or_else z (lines_misfit ss (with_line ss vs l) ls)) e) ∙ m))),
      )
      go None e so =
          let r = so (with_line ss vs l) (before ++ bare_line l ∷ []) (full_more vs before full l e) in (
            ap (λ z. or_else z (lines_misfit ss (with_line ss vs l) ls)) e ∙ r.0 ∙ sym (same None e),
            λ m. subst (IsFull (filled ss (with_line ss vs l) ls)) (in_turn before (bare_line l) (map bare_line ls))
                (r.1 (sym (ap (λ z. or_else z (lines_misfit ss (with_line ss vs l) ls)) e) ∙ m)),
          )

  -- ---- inputs

  module _ (vs : Seats) (ls : List BareLine) (full : IsFull vs ls) where
    given_so : (v : Variable) → is_some (listable_at (map (λ s. s.listable) ss) [] (of_name v.name.text)) ≡ true → is_given ss vs v ≡ f.is_given ls v
    given_so v h = go (slotted_at ss [] (of_name v.name.text)) refl
      where
        go : (o : Option Slotted) → slotted_at ss [] (of_name v.name.text) ≡ o → option_map_or (λ s. is_seated vs s.slot) o false ≡ f.is_given ls v
        go None e = absurd (false≢true (ap is_some (sym (same_listable ss [] (of_name v.name.text) ∙ ap (option_map (λ s. s.listable)) e)) ∙ h))
        go (Some s) e =
            ap is_some (full.each s.slot ∙ ap (found_by ls) (stands [] (of_name v.name.text) s e).0) ∙ sym (listed_found ls [] (of_name v.name.text))

    pub all_given : (xs : List Variable) → AllByRecursion (λ v. is_some (listable_at (map (λ s. s.listable) ss) [] (of_name v.name.text)) ≡ true) xs
        → are_given ss vs xs ≡ list_all (f.is_given ls) xs
    all_given [] h = refl
    all_given (v ∷ xs) h = rw (given_so v h.0, all_given xs h.1) refl

  -- ---- values

  pub values_are : (vs : Seats) (ls : List BareLine) → IsFull vs ls → (k t : ℕ) → seated_value vs k t ≡ listed_there ls (place k) t
  values_are vs ls full k t = ap (λ o. value_in (unwrap_or o []) t) (full.each k) ∙ go (place k)
    where
      go : (q : Option ListedPlace) → value_in (unwrap_or (found_by ls q) []) t ≡ listed_there ls q t
      go None = refl
      go (Some q) = refl
