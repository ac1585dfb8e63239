-- A number whose value is not whole can be split.
use Rattle.std.specs.Prelude.{ℕ, zero, suc, ◌≡◌, ◌≢◌, ◌⊎◌, ◌==◌, ◌+◌, ◌-◌, ◌<◌, ◌≤◌, Bool, true, false, cond, List, [], ◌∷◌, ◌++◌, length, map, slice_get, Option, Some, None, Contains, refl}
use Rattle.std.specs.List.{AllByRecursion}
use Rattle.std.proofs.Common.{sym, ◌∙◌, ap, subst, inl, inr, arith}
use Rattle.std.proofs.lemmas.Int.{ints, by_lt_z}
use Rattle.std.proofs.lemmas.List.{append-nil, length-append, length-map}
use Rattle.std.proofs.lemmas.List.Elements.{All-contains, recursion_from_All}
use Rattle.std.proofs.lemmas.Option.{slice_get_within}
use lib.IntN.{ℤ, pos, negsuc, ◌+ℤ◌, ◌-ℤ◌, ◌*ℤ◌, neg_ℤ, *ℤ-zero, zero-*ℤ, *ℤ_comm}
use lib.Signed.{◌≤ℤ◌, ◌<ℤ◌}
use Rattle.kind_num.specs.declared.Shape.{Shape}
use Rattle.kind_num.specs.declared.Shape.TheVariants.{Number}
use Rattle.kind_num.proofs.Ring.{times_sum, times_times, neg_times}
use Rattle.proof_steps.specs.declared.Literal.{Literal}
use Rattle.proof_steps.specs.declared.Literal.TheVariants as l
use Rattle.proof_steps.specs.View.{Inequality}
use Rattle.proof_steps.specs.Meaning.{sum_of}
use Rattle.proof_steps.specs.Rows.{Form, IsBasis, HasValue, is_long, entry, combined, defining_rows, rows_of}
use Rattle.proof_steps.specs.Bounds.{Bound, opposite_bound, bound_by, bound_if, bounds_from, split_atom, HasRange, IsGiven}
use Rattle.proof_steps.specs.Splits.{IsBetween, IsSplit}
use Rattle.proof_checker.proofs.Quotients.{quotient_one}
use Rattle.cnf_maker.specs.Plain.{IsPlain, IsPlainAtom, IsTermOf}
use Rattle.int_simplex.specs.State.{State, places_of, top_of, is_in}
use Rattle.int_simplex.specs.Sound.{IsValueOf}
use Rattle.int_simplex.specs.Points.{Point, IsFraction, IsInside}
use Rattle.int_simplex.specs.Sparse.{IsFrom}
use Rattle.int_simplex.proofs.Floors.{above_equal, below_high}
use Rattle.int_simplex.proofs.Moves.{past_same}
use Rattle.int_simplex.proofs.Once.{times_lt}
use Rattle.int_simplex.proofs.Places.{listed_at, at_listed, same_some}
use Rattle.int_simplex.proofs.Sparse.{by_test, same_if, other_if, entry_skips, entry_more}
use Rattle.int_simplex.proofs.Starts.{in_yes, in_no}
use Rattle.int_cuts.specs.Splits.{IsFirstBroken}
use Rattle.line_laws.specs.Steps.{standing}
use Rattle.line_laws.proofs.OwnLines.{one-times}
use Rattle.sat_core.specs.declared.assigned.Assigned.{Assigned}
use Rattle.sat_core.specs.Trail.{trues, falses, value_of}
use Rattle.smt_solver.specs.declared.numbers.meanings.Meaning.{Meaning}
use Rattle.smt_solver.specs.Sums.{meaning_view}
use Rattle.smt_solver.specs.Asserting.{signed_bound, bounds_at}
use Rattle.smt_solver.specs.Growing.{grown}
use Rattle.smt_solver.specs.Stops.{IsFitting, IsFullOver}
use Rattle.smt_solver.proofs.Sums.{rows-made}
use Rattle.smt_solver.proofs.Conflicting.{signed-if, some-meaning, true-again}
use Rattle.smt_solver.proofs.NumberValued.{some-at, standing-at, true-value, times-one}

cancel-lt : (d a b : ℤ) → pos 0 <ℤ d → (a *ℤ d) <ℤ (b *ℤ d) → a <ℤ b
cancel-lt d a b h l = by_lt_z a b (λ m. m) (λ m. by_lt_z b a
    (λ n. let x = times_lt d b a h n in let e = *ℤ_comm d a in let g = *ℤ_comm d b in absurd (omega (arith, ints)))
    (λ n. let e : a ≡ b = omega (arith, ints) in let g : a *ℤ d ≡ b *ℤ d = ap (λ z. z *ℤ d) e in absurd (omega (arith, ints))))

zero-or : (z : ℤ) → (z ≡ pos 0) ⊎ (z ≢ pos 0)
zero-or (pos zero) = inl refl
zero-or (pos (suc n)) = inr (λ e. absurd (omega (arith, ints)))
zero-or (negsuc n) = inr (λ e. absurd (omega (arith, ints)))

pub below-or : (m n : ℕ) → (m < n) ⊎ (n ≤ m)
below-or m zero = inr (omega arith)
below-or zero (suc n) = inl (omega arith)
below-or (suc m) (suc n) = elim (below-or m n) [ inl h ↦ inl (omega arith) | inr h ↦ inr (omega arith) ]

-- ---- which columns have entries

row-with : (ks : List ℤ) (rows : List (List (ℕ × ℤ))) (c : ℕ) → combined ks rows c ≢ pos 0
    → (r : List (ℕ × ℤ)) × Contains rows r × (entry r c ≢ pos 0)
row-with [] rows c n = absurd (n refl)
row-with (m ∷ ks) [] c n = absurd (n refl)
row-with (m ∷ ks) (r ∷ rows) c n = elim (zero-or (entry r c)) [
  | inr e ↦ (r, (0, omega arith, refl), e)
  | inl e ↦ later (row-with ks rows c (λ q. n (let a = ap (λ z. m *ℤ z) e in let w = *ℤ-zero m in omega (arith, ints))))
] where
  later : (s : List (ℕ × ℤ)) × Contains rows s × (entry s c ≢ pos 0)
      → (s : List (ℕ × ℤ)) × Contains (r ∷ rows) s × (entry s c ≢ pos 0)
  later (s, i, e) = (s, (suc i.0, (let b = i.1 in omega arith), i.2), e)

term-number : (shapes : List Shape) (ts : List (ℕ × ℤ)) (c : ℕ) → AllByRecursion (IsTermOf shapes) ts
    → entry ts c ≢ pos 0 → slice_get shapes c ≡ Some Number
term-number shapes [] c a n = absurd (n refl)
term-number shapes (t ∷ ts) c a n = elim (by_test (t.0 == c)) [
  | inl e ↦ subst (λ x. slice_get shapes x ≡ Some Number) (same_if t.0 c e) a.0.number
  | inr e ↦ term-number shapes ts c a.1 (λ q. n (entry_skips t ts c (other_if t.0 c e) ∙ q))
]

row-number : (shapes : List Shape) (n : ℕ) (atoms : List Inequality) (r : List (ℕ × ℤ)) (c : ℕ)
    → AllByRecursion (IsPlainAtom shapes) atoms → Contains (defining_rows n atoms) r → c < n → entry r c ≢ pos 0
    → slice_get shapes c ≡ Some Number
row-number shapes n [] r c a (j, l, q) b e = absurd (omega arith)
row-number shapes n (i ∷ atoms) r c a j b e =
    go (is_long i.terms) j (λ k. row-number shapes (n + 1) atoms r c a.1 k (omega arith) e)
    (λ k. row-number shapes n atoms r c a.1 k b e) where
      first : (r : List (ℕ × ℤ)) → r ≡ i.terms ++ (n, negsuc 0) ∷ [] → entry r c ≢ pos 0 → slice_get shapes c ≡ Some Number
      first r w m = term-number shapes i.terms c (recursion_from_All (IsTermOf shapes) i.terms a.0.terms)
          (λ q. m (ap (λ s. entry s c) w ∙ entry_more i.terms n (negsuc 0) c (λ d. absurd (omega arith)) ∙ q))

      cases : Contains ((i.terms ++ (n, negsuc 0) ∷ []) ∷ defining_rows (n + 1) atoms) r
          → (Contains (defining_rows (n + 1) atoms) r → slice_get shapes c ≡ Some Number) → slice_get shapes c ≡ Some Number
      cases (zero, m, q) f = first r (sym q) e
      cases (suc k, m, q) f = f (k, omega arith, q)

      go : (w : Bool) → Contains (cond w ((i.terms ++ (n, negsuc 0) ∷ []) ∷ defining_rows (n + 1) atoms) (defining_rows n atoms)) r
          → (Contains (defining_rows (n + 1) atoms) r → slice_get shapes c ≡ Some Number)
          → (Contains (defining_rows n atoms) r → slice_get shapes c ≡ Some Number)
          → slice_get shapes c ≡ Some Number
      go true k f g = cases k f
      go false k f g = g k

sum-last : (v : ℕ → ℤ) (ts : List (ℕ × ℤ)) (m : ℕ) → sum_of v (ts ++ (m, negsuc 0) ∷ []) ≡ sum_of v ts -ℤ v m
sum-last v [] m =
    let o : pos 1 *ℤ v m ≡ v m = one-times (v m) in
    let n : negsuc 0 *ℤ v m ≡ neg_ℤ (pos 1 *ℤ v m) = neg_times (pos 1) (v m) in omega (arith, ints)
sum-last v ((x, a) ∷ rest) m = let i = sum-last v rest m in omega (arith, ints)

-- ---- what clauses of one literal mean

split-first : (m : ℕ) (pairs : List (ℕ × ℤ)) (k x : ℕ) (z : ℤ) → slice_get pairs k ≡ Some (x, z)
    → slice_get (bounds_from m (map split_atom pairs)) k ≡ Some (bound_by x (pos 1) z)
split-first m [] k x z e = absurd cc
split-first m ((y, w) ∷ pairs) zero x z e = ap (λ (p : ℕ × ℤ). Some (bound_by p.0 (pos 1) p.1)) (same_some (y, w) (x, z) e)
split-first m ((y, w) ∷ pairs) (suc k) x z e = split-first m pairs k x z e

pub split-bound : (m : ℕ) (atoms : List Inequality) (pairs : List (ℕ × ℤ)) (k x : ℕ) (z : ℤ) → slice_get pairs k ≡ Some (x, z)
    → slice_get (bounds_from m (atoms ++ map split_atom pairs)) (length atoms + k) ≡ Some (bound_by x (pos 1) z)
split-bound m [] pairs k x z e = ap (slice_get (bounds_from m (map split_atom pairs))) (none k) ∙ split-first m pairs k x z e where
  none : (k : ℕ) → 0 + k ≡ k
  none k = omega arith
split-bound m (i ∷ atoms) pairs k x z e =
    ap (slice_get (bounds_from m ((i ∷ atoms) ++ map split_atom pairs))) (next (length atoms) k)
    ∙ split-bound (cond (is_long i.terms) (m + 1) m) atoms pairs k x z e where
      next : (n k : ℕ) → suc n + k ≡ suc (n + k)
      next n k = omega arith

bound-prefix : (m : ℕ) (atoms more : List Inequality) (j : ℕ) (o : Option Bound) → slice_get (bounds_from m atoms) j ≡ Some o
    → slice_get (bounds_from m (atoms ++ more)) j ≡ Some o
bound-prefix m [] more j o e = absurd cc
bound-prefix m (i ∷ atoms) more zero o e = e
bound-prefix m (i ∷ atoms) more (suc j) o e = bound-prefix (cond (is_long i.terms) (m + 1) m) atoms more j o e

some-bound : (s : Bool) (o : Option (Option Bound)) (b : Bound) → bound_if s o ≡ Some b → (y : Bound) × (o ≡ Some (Some y))
some-bound s None b e = absurd (none s e) where
  none : (s : Bool) → bound_if s None ≡ Some b → ⊥
  none true e = absurd cc
  none false e = absurd cc
some-bound s (Some None) b e = absurd (none s e) where
  none : (s : Bool) → bound_if s (Some None) ≡ Some b → ⊥
  none true e = absurd cc
  none false e = absurd cc
some-bound s (Some (Some y)) b e = (y, refl)

module _ (f : Form) (pairs : List (ℕ × ℤ)) (ms : List Meaning) (trail : List Assigned) (t : State) (x : ℕ) (z : ℤ)
    (plain : IsPlain f) (h : IsFitting f pairs ms trail t) (o : IsFullOver f pairs trail)
    (b : IsFirstBroken t.values x z) where
  abbrev point : Point
  point = h.fit.0

  abbrev v : ℤ × ℤ
  v = b.value

  fraction : IsFraction v
  fraction = All-contains IsFraction t.values b.value h.tableau.sound.fractions (listed_at t.values x b.value b.stands)

  over : (z *ℤ v.1) <ℤ v.0
  over = above_equal b.value.0 b.value.1 z z fraction b.floor refl b.broken

  under : v.0 <ℤ ((z +ℤ pos 1) *ℤ v.1)
  under = below_high b.value.0 b.value.1 z (z +ℤ pos 1) fraction b.floor (omega (arith, ints))

  turned : point.bottom *ℤ v.0 ≡ v.1 *ℤ point.tops x
  turned = *ℤ_comm h.fit.0.bottom b.value.0 ∙ sym (h.fit.1.same x b.value b.stands) ∙ *ℤ_comm (h.fit.0.tops x) b.value.1

  bottom-positive : pos 0 <ℤ point.bottom
  bottom-positive = h.fit.1.positive

  -- the point's value of x lies strictly between
  top-over : (z *ℤ point.bottom) <ℤ point.tops x
  top-over = past_same true z v.0 v.1 (point.tops x) point.bottom fraction.positive bottom-positive turned over

  top-under : point.tops x <ℤ ((z +ℤ pos 1) *ℤ point.bottom)
  top-under = past_same false (z +ℤ pos 1) v.0 v.1 (point.tops x) point.bottom fraction.positive bottom-positive turned under

  in-basis : Contains t.basis x
  in-basis = elim (by_test (is_in t.basis x)) [
    | inl e ↦ in_yes t.basis x e
    | inr e ↦ absurd (b.broken (h.tableau.sound.outside x b.value (in_no t.basis x e) b.stands))
  ]

  value : IsValueOf t x b.value
  value = h.tableau.sound.inside x b.value in-basis b.stands

  same-value : value.bottom *ℤ v.0 ≡ v.1 *ℤ value.top
  same-value = *ℤ_comm value.bottom b.value.0 ∙ sym value.same ∙ *ℤ_comm value.top b.value.1

  between : IsBetween f pairs x z
  between = record {
    basis = t.basis;
    places = places_of t.values;
    multipliers = value.multipliers;
    top = value.top;
    bottom = value.bottom;
    is_basis = subst (λ n. IsBasis (rows_of f) n t.basis) h.tableau.columns
        (subst (λ rows. IsBasis rows t.columns t.basis) h.tableau.given h.tableau.sound.basis);
    value = subst (λ n. HasValue (rows_of f) n t.basis (places_of t.values) x value.multipliers value.top value.bottom) h.tableau.columns
        (subst (λ rows. HasValue rows t.columns t.basis (places_of t.values) x value.multipliers value.top value.bottom) h.tableau.given
        value.value);
    stands = λ k n e. h.tableau.stand k (λ i. e (subst (λ rows. combined value.multipliers rows k ≡ pos 0) h.tableau.given
        (value.value.row.alone k i n)));
    above = past_same true z v.0 v.1 value.top value.bottom fraction.positive value.value.positive same-value over;
    below = past_same false (z +ℤ pos 1) v.0 v.1 value.top value.bottom fraction.positive value.value.positive same-value under;
  }

  -- ---- the bound of a true literal is met

  abbrev g : Form
  g = grown f (map split_atom pairs)

  one-up : (j : ℕ) → 1 + j ≡ suc j
  one-up j = omega arith

  met : (j : ℕ) (m : Meaning) (sign : Bool) → slice_get ms j ≡ Some m → Contains (trues trail) (l.Atom (suc j) sign)
      → IsInside point (signed_bound sign m).upper (signed_bound sign m).column (signed_bound sign m).limit
  met j m sign e i =
      let u = true-value trail (suc j) sign o.full.apart i in
      let s : Contains (bounds_at trail 1 ms) (standing (suc j) (signed_bound sign m)) =
      subst (λ n. Contains (bounds_at trail 1 ms) (standing n (signed_bound sign m))) (one-up j)
      (standing-at trail 1 ms j m sign e
      (subst (λ n. value_of trail (l.Atom n true) ≡ Some sign) (sym (one-up j)) u)) in
      All-contains (λ b. IsInside h.fit.0 b.upper b.column b.limit) t.bounds (standing (suc j) (signed_bound sign m))
      h.fit.2.in_bounds
      (subst (λ bs. Contains bs (standing (suc j) (signed_bound sign m))) (sym h.tableau.bounds) s)

  abbrev inside-of : Bound → Type 0
  inside-of w = IsInside point w.upper w.column w.limit

  -- ---- no old pair

  unmet : (j : ℕ) (m : Meaning) → slice_get ms j ≡ Some m → meaning_view m ≡ record { column = x; upper = true; limit = z }
      → Contains (trues trail) (l.Atom (suc j) true) ⊎ Contains (falses trail) (l.Atom (suc j) true) → ⊥
  unmet j m e q (inl i) =
      let w : inside-of record { column = x; upper = true; limit = z } = subst inside-of q (met j m true e i) in
      let a = top-over in absurd (omega (arith, ints))
  unmet j m e q (inr i) =
      let w : inside-of record { column = x; upper = false; limit = z +ℤ pos 1 } =
      subst inside-of (ap opposite_bound q) (met j m false e (true-again trail (l.Atom (suc j) true) i)) in
      let a = top-under in absurd (omega (arith, ints))

  fresh : ¬ Contains pairs (x, z)
  fresh i =
      let k = at_listed pairs (x, z) i in
      let c : k.0 < length pairs = slice_get_within pairs k.0 (x, z) k.1 in
      let n = length-append f.atoms (map split_atom pairs) in
      let p = length-map pairs split_atom in
      let limit : bound_by x (pos 1) z ≡ Some record { column = x; upper = true; limit = z } =
      ap (λ w. a_limit w) (quotient_one z (pos 1) refl) in
      let m = some-meaning ms (length f.atoms + k.0) record { column = x; upper = true; limit = z }
      (ap (λ (bs : List (Option Bound)). slice_get bs (length f.atoms + k.0)) h.tableau.meanings.bounds
      ∙ split-bound (length f.shapes) f.atoms pairs k.0 x z k.1 ∙ ap (λ y. Some y) limit) in
      unmet (length f.atoms + k.0) m.0 m.1 m.2 (o.atoms (length f.atoms + k.0) (omega arith)) where
        a_limit : ℤ → Option Bound
        a_limit w = Some record { column = x; upper = true; limit = w }

  -- ---- ranges

  alone : (y w : Literal) → Contains (y ∷ []) w → w ≡ y
  alone y w (zero, c, q) = sym q
  alone y w (suc k, c, q) = absurd (omega arith)

  unit-true : (y : Literal) → Contains f.clauses (y ∷ []) → Contains (trues trail) y
  unit-true y i =
      let s = All-contains (λ c. (w : Literal) × Contains c w × Contains (trues trail) w) f.clauses (y ∷ [])
      o.full.satisfied i in
      subst (Contains (trues trail)) (alone y s.0 s.1) s.2

  given-met : (w : Bound) → IsGiven f w → inside-of w
  given-met w (l.Flag n s, i, e) = absurd cc
  given-met w (l.Atom zero s, i, e) = absurd (none s e) where
    none : (s : Bool) → bound_if s None ≡ Some w → ⊥
    none true e = absurd cc
    none false e = absurd cc
  given-met w (l.Atom (suc j) s, i, e) =
      let bounds = bounds_from (length f.shapes) f.atoms in
      let d : bound_if s (slice_get bounds j) ≡ Some w =
      subst (λ (atoms : List Inequality). bound_if s (slice_get (bounds_from (length f.shapes) atoms) j) ≡ Some w)
      (append-nil f.atoms) e in
      let y = some-bound s (slice_get bounds j) w d in
      let m = some-meaning ms j y.0
      (ap (λ (bs : List (Option Bound)). slice_get bs j) h.tableau.meanings.bounds
      ∙ bound-prefix (length f.shapes) f.atoms (map split_atom pairs) j (Some y.0) y.1) in
      let q : signed_bound s m.0 ≡ w = bound-is (signed_bound s m.0) w
      (sym (signed-if g ms h.tableau.meanings s m.0) ∙ ap (λ u. bound_if s (Some (Some u))) m.2 ∙ ap (bound_if s) (sym y.1) ∙ d) in
      subst inside-of q (met j m.0 s m.1 (unit-true (l.Atom (suc j) s) i)) where
        bound-is : (a c : Bound) → Some a ≡ Some c → a ≡ c
        bound-is a c e = cc

  inside : (low high : ℤ) → HasRange f x low high → (low ≤ℤ z) × ((z +ℤ pos 1) ≤ℤ high)
  inside low high r = (
    (let w : inside-of record { column = x; upper = false; limit = low } = given-met _ r.from_low in
        let a = top-under in
        let d = cancel-lt point.bottom low (z +ℤ pos 1) bottom-positive (omega (arith, ints)) in omega (arith, ints)),
    (let w : inside-of record { column = x; upper = true; limit = high } = given-met _ r.to_high in
        let a = top-over in
        let d = cancel-lt point.bottom z high bottom-positive (omega (arith, ints)) in omega (arith, ints)),
  )

  -- ---- the column is a number

  column-of : (c : ℕ) → c < x → point.tops c ≡ places_of t.values c *ℤ point.bottom
  column-of c m =
      let e = slice_get_within t.values x b.value b.stands in
      let w = some-at t.values c (omega arith) in
      let q : w.0.1 ≡ pos 1 = b.first c w.0 m w.1 in
      sym (times-one (h.fit.0.tops c)) ∙ ap (λ u. h.fit.0.tops c *ℤ u) (sym q) ∙ h.fit.1.same c w.0 w.1
      ∙ ap (λ u. u *ℤ h.fit.0.bottom) (sym (ap top_of w.1))

  sum-of-whole : (low : ℕ) (ts : List (ℕ × ℤ)) → IsFrom low (length f.shapes) ts → length f.shapes ≤ x
      → sum_of point.tops ts ≡ sum_of (places_of t.values) ts *ℤ point.bottom
  sum-of-whole low [] a n = sym (zero-*ℤ point.bottom)
  sum-of-whole low ((c, a) ∷ ts) d n =
      let c1 : c < length f.shapes = d.1 in
      let e1 : a *ℤ point.tops c ≡ (a *ℤ places_of t.values c) *ℤ point.bottom =
      ap (λ u. a *ℤ u) (column-of c (omega arith)) ∙ sym (times_times a (places_of t.values c) point.bottom) in
      let e2 = sum-of-whole (suc c) ts d.3 n in
      let e3 = times_sum (a *ℤ places_of t.values c) (sum_of (places_of t.values) ts) point.bottom in
      omega (arith, ints)

  row-zero : (r : List (ℕ × ℤ)) → Contains (rows_of f) r → sum_of point.tops r ≡ pos 0
  row-zero r i = All-contains (λ r. sum_of h.fit.0.tops r ≡ pos 0) t.given r h.fit.2.on_rows
      (subst (λ rows. Contains rows r) (sym h.tableau.given) i)

  between-whole : (u : ℤ) → point.tops x ≡ u *ℤ point.bottom → ⊥
  between-whole u e =
      let a = top-over in let d = top-under in
      let p = cancel-lt point.bottom z u bottom-positive (omega (arith, ints)) in
      let q = cancel-lt point.bottom u (z +ℤ pos 1) bottom-positive (omega (arith, ints)) in
      absurd (omega (arith, ints))

  no-sum : length f.shapes ≤ x → ⊥
  no-sum n =
      let e = slice_get_within t.values x b.value b.stands in
      let count = h.tableau.sound.count in let columns = h.tableau.columns in
      let k = x - length f.shapes in
      let r = some-at (rows_of f) k (omega arith) in
      let made = rows-made f.shapes (length f.shapes) f.atoms (recursion_from_All (IsPlainAtom f.shapes) f.atoms plain) k r.0 r.1 in
      let w : length f.shapes + k ≡ x = omega arith in
      let s = row-zero r.0 (listed_at (rows_of f) k r.0 r.1) in
      let last = sum-last point.tops made.0 (length f.shapes + k) in
      let zero-sum : sum_of point.tops (made.0 ++ (length f.shapes + k, negsuc 0) ∷ []) ≡ pos 0 =
      sym (ap (sum_of point.tops) made.2) ∙ s in
      let whole = sum-of-whole 0 made.0 made.1 n in
      let q : point.tops (length f.shapes + k) ≡ sum_of (places_of t.values) made.0 *ℤ point.bottom = omega (arith, ints) in
      between-whole (sum_of (places_of t.values) made.0) (sym (ap point.tops w) ∙ q)

  number : slice_get f.shapes x ≡ Some Number
  number = elim (below-or x (length f.shapes)) [
    | inr n ↦ absurd (no-sum n)
    | inl n ↦
        let r = row-with value.multipliers (rows_of f) x (subst (λ rows. combined value.multipliers rows x ≢ pos 0) h.tableau.given
        value.value.row.has_entry) in
        row-number f.shapes (length f.shapes) f.atoms r.0 x (recursion_from_All (IsPlainAtom f.shapes) f.atoms plain)
        r.1 n r.2
  ]

  pub split-true : IsSplit f pairs x z
  split-true = record { number = number; fresh = fresh; between = between; inside = inside }
