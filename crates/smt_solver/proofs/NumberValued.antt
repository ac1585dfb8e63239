-- Whole values of a tableau, with a full assignment, meet the query's conditions.
use Rattle.std.specs.Prelude.{ℕ, zero, suc, ◌≡◌, ◌≢◌, ◌+◌, ◌<◌, Bool, true, false, cond, List, [], ◌∷◌, ◌++◌, length, slice_get, Some, None, Ok, All, Contains, refl}
use Rattle.std.specs.List.{AllByRecursion}
use Rattle.std.proofs.Common.{sym, ◌∙◌, ap, subst, arith}
use Rattle.std.proofs.lemmas.Int.{ints, by_lt_z}
use Rattle.std.proofs.lemmas.List.{length-map}
use Rattle.std.proofs.lemmas.List.Elements.{All-contains, recursion_from_All, Contains-append_left, Contains-append_right}
use lib.IntN.{ℤ, pos, ◌+ℤ◌, ◌*ℤ◌, zero-*ℤ, *ℤ_comm}
use lib.Signed.{◌≤ℤ◌, ◌<ℤ◌, le_z}
use Rattle.kind_num.specs.declared.Shape.{Shape}
use Rattle.kind_num.specs.declared.Shape.TheVariants as k
use Rattle.kind_num.proofs.Ring.{times_sum, times_times}
use Rattle.proof_steps.specs.declared.Literal.{Literal}
use Rattle.proof_steps.specs.declared.Literal.TheVariants as l
use Rattle.proof_steps.specs.View.{Inequality}
use Rattle.proof_steps.specs.Meaning.{Values, Solves, sum_of, as_said, atom_true, inequality_true, literal_true, clause_true}
use Rattle.proof_steps.specs.Rows.{Form}
use Rattle.proof_checker.specs.Check.{literals_fit, literal_fits, is_flag, is_number}
use Rattle.proof_checker.specs.Derived.{has}
use Rattle.proof_checker.proofs.Sets.{contains-has, not-has}
use Rattle.sys_terms.specs.declared.term.Entry.{Entry}
use Rattle.sys_terms.specs.View.{Question}
use Rattle.sys_terms.specs.Meaning.{values_of, as_flag, as_number}
use Rattle.sys_terms.specs.Fits.{all_fit_one, state_fits}
use Rattle.sys_terms.specs.Answers.{states_in}
use Rattle.cnf_maker.specs.ClauseForm.{clause_form}
use Rattle.cnf_maker.specs.Plain.{IsPlain, IsPlainAtom, IsTermOf}
use Rattle.cnf_maker.specs.Laws.{Extends}
use Rattle.cnf_maker.proofs.Plain.{Over}
use Rattle.cnf_maker.proofs.Together.{meet-together}
use Rattle.int_simplex.specs.State.{Standing as Limit, State, places_of, top_of}
use Rattle.int_simplex.specs.Given.{IsWithin}
use Rattle.int_simplex.specs.Points.{Point, IsInside}
use Rattle.int_simplex.proofs.Algebra.{product_zero}
use Rattle.int_simplex.proofs.Once.{times_lt}
use Rattle.int_simplex.proofs.Places.{listed_at}
use Rattle.int_cuts.specs.Splits.{IsWhole}
use Rattle.line_laws.specs.Lines.{BoundsSayWhatLiteralsSay, AreOnRows, Inside}
use Rattle.line_laws.specs.Steps.{standing}
use Rattle.line_laws.proofs.OwnLines.{one-times}
use Rattle.sat_core.specs.declared.assigned.Assigned.{Assigned}
use Rattle.sat_core.specs.Trail.{trues, falses, value_of, IsApart}
use Rattle.smt_solver.specs.declared.numbers.meanings.Meaning.{Meaning}
use Rattle.smt_solver.specs.Sums.{divisor_in}
use Rattle.smt_solver.specs.Asserting.{signed_bound, bound_by_value, bound_at, bounds_at}
use Rattle.smt_solver.specs.Growing.{grown}
use Rattle.smt_solver.specs.Run.{AreFit, IsFull}
use Rattle.smt_solver.specs.Answered.{AreOf}
use Rattle.smt_solver.specs.NumberStates.{number_entry, number_entries, IsMetBy}
use Rattle.smt_solver.proofs.Literals.{clauses-fit, query-over}
use Rattle.smt_solver.proofs.Turns.{all-of}
use Rattle.smt_solver.proofs.Valued.{some-shape, set-true, fits-in, clause-of}
use Rattle.smt_solver.proofs.Growing.{literal-same, counted-below, longer}
use Rattle.smt_solver.proofs.Conflicting.{one-way, opposite-false, literal-bound}

pub some-at : {X : Type 0} (xs : List X) (k : ℕ) → k < length xs → (x : X) × (slice_get xs k ≡ Some x)
some-at [] k h = absurd (omega arith)
some-at (x ∷ xs) zero h = (x, refl)
some-at (x ∷ xs) (suc k) h = some-at xs k (omega arith)

pub times-one : (z : ℤ) → z *ℤ pos 1 ≡ z
times-one z = *ℤ_comm z (pos 1) ∙ one-times z

cancel-le : (d a b : ℤ) → pos 0 <ℤ d → (a *ℤ d) ≤ℤ (b *ℤ d) → a ≤ℤ b
cancel-le d a b h l = by_lt_z b a
    (λ m. let x : (d *ℤ b) <ℤ (d *ℤ a) = times_lt d b a h m in
    let e = *ℤ_comm d a in let g = *ℤ_comm d b in absurd (omega (arith, ints)))
    (λ m. omega (arith, ints))

-- ---- the values of the columns

module _ (g : Form) (ms : List Meaning) (trail : List Assigned) (t : State) (h : IsMetBy g ms trail t) where
  abbrev numbers : ℕ → ℤ
  numbers = places_of t.values

  abbrev point : Point
  point = h.fit.0

  column-at : (c : ℕ) → c < t.columns → point.tops c ≡ numbers c *ℤ point.bottom
  column-at c l =
      let v = some-at t.values c (let e = h.sound.count in omega arith) in
      let w : v.0.1 ≡ pos 1 = All-contains IsWhole t.values v.0 h.whole (listed_at t.values c v.0 v.1) in
      sym (times-one (point.tops c)) ∙ ap (λ z. point.tops c *ℤ z) (sym w) ∙ h.fit.1.same c v.0 v.1
      ∙ ap (λ z. z *ℤ point.bottom) (sym (ap top_of v.1))

  row-at : (row : List (ℕ × ℤ)) → AllByRecursion (λ (u : ℕ × ℤ). u.0 < t.columns) row
      → sum_of point.tops row ≡ sum_of numbers row *ℤ point.bottom
  row-at [] a = sym (zero-*ℤ point.bottom)
  row-at ((x, a) ∷ rest) b =
      let e1 : a *ℤ point.tops x ≡ (a *ℤ numbers x) *ℤ point.bottom =
      ap (λ z. a *ℤ z) (column-at x b.0) ∙ sym (times_times a (numbers x) point.bottom) in
      let e2 = row-at rest b.1 in
      let e3 = times_sum (a *ℤ numbers x) (sum_of numbers rest) point.bottom in
      omega (arith, ints)

  not-zero : (z : ℤ) → pos 0 <ℤ z → z ≢ pos 0
  not-zero z l e = omega (arith, ints)

  zero-at : (row : List (ℕ × ℤ)) → Contains t.given row → sum_of numbers row ≡ pos 0
  zero-at row i =
      let within = All-contains (IsWithin t.columns) t.given row h.sound.given.in_range i in
      let e = row-at row (recursion_from_All (λ (u : ℕ × ℤ). u.0 < t.columns) row within) in
      let z : sum_of point.tops row ≡ pos 0 =
      All-contains (λ r. sum_of h.fit.0.tops r ≡ pos 0) t.given row h.fit.2.on_rows i in
      product_zero point.bottom (sum_of numbers row) (not-zero point.bottom h.fit.1.positive)
      (*ℤ_comm point.bottom (sum_of numbers row) ∙ sym e ∙ z)

  on-rows : AreOnRows g numbers
  on-rows = subst (λ rows. All (λ row. sum_of numbers row ≡ pos 0) rows) h.given
      (all-of (λ row. sum_of numbers row ≡ pos 0) t.given zero-at)

  inside-by : (upper : Bool) (c : ℕ) (z : ℤ) → c < t.columns → IsInside point upper c z → Inside upper (numbers c) z
  inside-by true c z l i =
      let e = column-at c l in cancel-le point.bottom (numbers c) z h.fit.1.positive (omega (arith, ints))
  inside-by false c z l i =
      let e = column-at c l in cancel-le point.bottom z (numbers c) h.fit.1.positive (omega (arith, ints))

  inside : (b : Limit) → Contains t.bounds b → Inside b.upper (numbers b.column) b.limit
  inside b i = inside-by b.upper b.column b.limit
      (All-contains (λ (b : Limit). b.column < t.columns) t.bounds b h.sound.of_columns i)
      (All-contains (λ b. IsInside h.fit.0 b.upper b.column b.limit) t.bounds b h.fit.2.in_bounds i)

-- ---- the bounds of true literals stand

pub standing-at : (trail : List Assigned) (n : ℕ) (ms : List Meaning) (k : ℕ) (m : Meaning) (sign : Bool)
    → slice_get ms k ≡ Some m → value_of trail (l.Atom (n + k) true) ≡ Some sign
    → Contains (bounds_at trail n ms) (standing (n + k) (signed_bound sign m))
standing-at trail n [] k m sign e v = absurd cc
standing-at trail n (x ∷ ms) zero m sign e v =
    Contains-append_left (bound_at trail n x) (bounds_at trail (suc n) ms) (standing (n + 0) (signed_bound sign m))
    (subst (λ y. Contains (bound_at trail n y) (standing (n + 0) (signed_bound sign m))) (sym (is x m e))
    (subst (λ j. Contains (bound_at trail n m) (standing j (signed_bound sign m))) (same n)
    (subst (λ o. Contains (bound_by_value o n m) (standing n (signed_bound sign m)))
    (sym (subst (λ j. value_of trail (l.Atom j true) ≡ Some sign) (sym (same n)) v)) (0, omega arith, refl)))) where
      is : (x m : Meaning) → Some x ≡ Some m → x ≡ m
      is x m e = cc

      same : (n : ℕ) → n ≡ n + 0
      same n = omega arith
standing-at trail n (x ∷ ms) (suc k) m sign e v =
    Contains-append_right (bound_at trail n x) (bounds_at trail (suc n) ms) (standing (n + suc k) (signed_bound sign m))
    (subst (λ j. Contains (bounds_at trail (suc n) ms) (standing j (signed_bound sign m))) (next n k)
    (standing-at trail (suc n) ms k m sign e
    (subst (λ j. value_of trail (l.Atom j true) ≡ Some sign) (sym (next n k)) v))) where
      next : (n k : ℕ) → suc n + k ≡ n + suc k
      next n k = omega arith

pub true-value : (trail : List Assigned) (n : ℕ) (sign : Bool) → IsApart trail → Contains (trues trail) (l.Atom n sign)
    → value_of trail (l.Atom n true) ≡ Some sign
true-value trail n true a i =
    ap (λ b. cond b (Some true) (cond (has (falses trail) (l.Atom n true)) (Some false) None))
    (contains-has (trues trail) (l.Atom n true) i)
true-value trail n false a i =
    ap (λ b. cond b (Some true) (cond (has (falses trail) (l.Atom n true)) (Some false) None))
    (not-has (trues trail) (l.Atom n true) (λ j. one-way trail (l.Atom n true) a j i))
    ∙ ap (λ b. cond b (Some false) None)
    (contains-has (falses trail) (l.Atom n true) (opposite-false trail (l.Atom n false) i))

-- ---- the clauses are true

module _ (say : BoundsSayWhatLiteralsSay) (f : Form) (more : List Inequality) (ms : List Meaning) (trail : List Assigned)
    (t : State) (h : IsMetBy (grown f more) ms trail t) (apart : IsApart trail) where
  abbrev g : Form
  g = grown f more

  -- flags as they are assigned, and numbers where the columns stand
  abbrev chosen : Values
  chosen = record {
    flag = λ x. cond (is_flag (slice_get f.shapes x)) (has (trues trail) (l.Flag x true)) false;
    number = places_of t.values;
  }

  flag-chosen : (x : ℕ) → is_flag (slice_get f.shapes x) ≡ true → chosen.flag x ≡ has (trues trail) (l.Flag x true)
  flag-chosen x e = ap (λ b. cond b (has (trues trail) (l.Flag x true)) false) e

  same-length : length ms ≡ length (f.atoms ++ more)
  same-length =
      let a = length-map ms (λ (m : Meaning). m.divisor) in
      let b = length-map (f.atoms ++ more) divisor_in in
      let c = ap length h.meanings.divisors in omega arith

  one-up : (j : ℕ) → 1 + j ≡ suc j
  one-up j = omega arith

  atom-holds : (j : ℕ) (sign : Bool) → j < length (f.atoms ++ more) → Contains (trues trail) (l.Atom (suc j) sign)
      → literal_true (f.atoms ++ more) chosen (l.Atom (suc j) sign) ≡ true
  atom-holds j sign b i =
      let m = some-at ms j (let e = same-length in omega arith) in
      let v = true-value trail (suc j) sign apart i in
      let s : Contains (bounds_at trail 1 ms) (standing (suc j) (signed_bound sign m.0)) =
      subst (λ n. Contains (bounds_at trail 1 ms) (standing n (signed_bound sign m.0))) (one-up j)
      (standing-at trail 1 ms j m.0 sign m.1
      (subst (λ n. value_of trail (l.Atom n true) ≡ Some sign) (sym (one-up j)) v)) in
      (say (grown f more) chosen (suc j) sign (signed_bound sign m.0) (on-rows (grown f more) ms trail t h)
      (literal-bound (grown f more) ms h.meanings j m.0 sign m.1)).1
      (inside (grown f more) ms trail t h (standing (suc j) (signed_bound sign m.0))
      (subst (λ bs. Contains bs (standing (suc j) (signed_bound sign m.0))) (sym h.bounds) s))

  literal-holds : (x : Literal) → literal_fits f.shapes (length f.atoms) x ≡ true → Contains (trues trail) x
      → literal_true f.atoms chosen x ≡ true
  literal-holds (l.Flag n true) e c = flag-chosen n e ∙ contains-has (trues trail) (l.Flag n true) c
  literal-holds (l.Flag n false) e c =
      ap (as_said false) (flag-chosen n e
      ∙ not-has (trues trail) (l.Flag n true) (λ d. one-way trail (l.Flag n true) apart d c))
  literal-holds (l.Atom zero b) e c = absurd cc
  literal-holds (l.Atom (suc j) b) e c =
      sym (literal-same f.atoms more f.shapes chosen (l.Atom (suc j) b) e)
      ∙ atom-holds j b (let q = counted-below (length f.atoms) j e in let w = longer f.atoms more in omega arith) c

  -- ---- the same, with 0 for what is no number

  abbrev made : Values
  made = record {
    flag = λ x. cond (is_flag (slice_get f.shapes x)) (has (trues trail) (l.Flag x true)) false;
    number = λ x. cond (is_number (slice_get f.shapes x)) (places_of t.values x) (pos 0);
  }

  terms-same : (ts : List (ℕ × ℤ)) → AllByRecursion (IsTermOf f.shapes) ts → sum_of made.number ts ≡ sum_of chosen.number ts
  terms-same [] a = refl
  terms-same ((x, z) ∷ ts) a =
      ap (λ o. z *ℤ cond (is_number o) (places_of t.values x) (pos 0)
      +ℤ sum_of (λ y. cond (is_number (slice_get f.shapes y)) (places_of t.values y) (pos 0)) ts) a.0.number
      ∙ ap (λ w. z *ℤ places_of t.values x +ℤ w) (terms-same ts a.1)

  one-same : (i : Inequality) → IsPlainAtom f.shapes i → inequality_true made.number i ≡ inequality_true chosen.number i
  one-same i p = ap (λ z. le_z z i.bound) (terms-same i.terms (recursion_from_All (IsTermOf f.shapes) i.terms p.terms))

  atoms-same : (atoms : List Inequality) (j : ℕ) (b : Bool) → AllByRecursion (IsPlainAtom f.shapes) atoms
      → atom_true b made.number (slice_get atoms j) ≡ atom_true b chosen.number (slice_get atoms j)
  atoms-same [] j b a = refl
  atoms-same (i ∷ atoms) zero b a = ap (as_said b) (one-same i a.0)
  atoms-same (i ∷ atoms) (suc j) b a = atoms-same atoms j b a.1

  literal-made : IsPlain f → (x : Literal) → literal_true f.atoms made x ≡ literal_true f.atoms chosen x
  literal-made p (l.Flag n b) = refl
  literal-made p (l.Atom zero b) = refl
  literal-made p (l.Atom (suc j) b) = atoms-same f.atoms j b (recursion_from_All (IsPlainAtom f.shapes) f.atoms p)

  solved : IsPlain f → AreFit f f.clauses → IsFull f trail → Solves f.atoms made f.clauses
  solved p fit full = all-of (λ c. clause_true f.atoms made c ≡ true) f.clauses (λ c i.
      let s = All-contains (λ c. (x : Literal) × Contains c x × Contains (trues trail) x) f.clauses c full.satisfied i in
      let e = All-contains (λ c. literals_fit f.shapes (length f.atoms) c ≡ true) f.clauses c fit i in
      clause-of f.atoms made c s.0 s.1
      (literal-made p s.0 ∙ literal-holds s.0 (fits-in f.shapes (length f.atoms) c s.0 e s.1) s.2))

  -- ---- the entries

  entry-at : (n x : ℕ) (shapes : List Shape) (s : Shape) → slice_get shapes x ≡ Some s
      → slice_get (number_entries trail t.values n shapes) x ≡ Some (number_entry trail t.values (n + x) s)
  entry-at n x [] s e = absurd cc
  entry-at n zero (r ∷ shapes) s e =
      ap (λ o. Some (number_entry trail t.values n o)) (is r s e)
      ∙ ap (λ i. Some (number_entry trail t.values i s)) (same n) where
        is : (r s : Shape) → Some r ≡ Some s → r ≡ s
        is r s e = cc

        same : (n : ℕ) → n ≡ n + 0
        same n = omega arith
  entry-at n (suc x) (r ∷ shapes) s e =
      entry-at (suc n) x shapes s e ∙ ap (λ i. Some (number_entry trail t.values i s)) (next n x) where
        next : (n x : ℕ) → suc n + x ≡ n + suc x
        next n x = omega arith

  entry-first : (x : ℕ) (shapes : List Shape) (s : Shape) → slice_get shapes x ≡ Some s
      → slice_get (number_entries trail t.values 0 shapes) x ≡ Some (number_entry trail t.values x s)
  entry-first x shapes s e = entry-at 0 x shapes s e ∙ ap (λ i. Some (number_entry trail t.values i s)) (same x) where
    same : (x : ℕ) → 0 + x ≡ x
    same x = omega arith

  entries-fit : (n : ℕ) (shapes : List Shape) → state_fits shapes (number_entries trail t.values n shapes) ≡ true
  entries-fit n [] = refl
  entries-fit n (k.Flag ∷ shapes) = entries-fit (suc n) shapes
  entries-fit n (k.Number ∷ shapes) = entries-fit (suc n) shapes

  flag-as : (x : ℕ) (s : Shape) → cond (is_flag (Some s)) (has (trues trail) (l.Flag x true)) false
      ≡ as_flag (Some (number_entry trail t.values x s))
  flag-as x k.Flag = sym (set-true trail (l.Flag x true))
  flag-as x k.Number = refl

  number-as : (x : ℕ) (s : Shape) → cond (is_number (Some s)) (places_of t.values x) (pos 0)
      ≡ as_number (Some (number_entry trail t.values x s))
  number-as x k.Flag = refl
  number-as x k.Number = refl

  flag-made : (x : ℕ) (s : Shape) → slice_get f.shapes x ≡ Some s
      → made.flag x ≡ cond (is_flag (Some s)) (has (trues trail) (l.Flag x true)) false
  flag-made x s e = ap (λ o. cond (is_flag o) (has (trues trail) (l.Flag x true)) false) e

  number-made : (x : ℕ) (s : Shape) → slice_get f.shapes x ≡ Some s
      → made.number x ≡ cond (is_number (Some s)) (places_of t.values x) (pos 0)
  number-made x s e = ap (λ o. cond (is_number o) (places_of t.values x) (pos 0)) e

  extends : (shapes : List Shape) → Over shapes f.shapes
      → Extends (length shapes) (values_of (number_entries trail t.values 0 shapes)) made
  extends shapes o = record {
    flags = λ x b. let s = some-shape shapes x b in
        flag-made x s.0 (o x s.0 s.1) ∙ flag-as x s.0 ∙ sym (ap as_flag (entry-first x shapes s.0 s.1));
    numbers = λ x b. let s = some-shape shapes x b in
        number-made x s.0 (o x s.0 s.1) ∙ number-as x s.0 ∙ sym (ap as_number (entry-first x shapes s.0 s.1));
  }

  pub number-valued : (q : Question) (n count : ℕ) → all_fit_one q.shapes q.conditions ≡ true → clause_form q ≡ Ok f
      → IsPlain f → IsFull f trail → (states : List (List Entry))
      → states ≡ states_in n count (number_entries trail t.values 0 q.shapes) → AreOf q n count states
  number-valued q n count fit e plain full states s = record {
    values = number_entries trail t.values 0 q.shapes;
    fit = entries-fit 0 q.shapes;
    meet = (meet-together q fit f e (values_of (number_entries trail t.values 0 q.shapes))).1 (
      made,
      extends q.shapes (query-over q f fit e),
      solved plain (clauses-fit q fit f e) full,
    );
    same = s;
  }
