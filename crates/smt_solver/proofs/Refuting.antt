-- The step of a refutation fits, or an operation of it is a true stop.
use Rattle.std.specs.Prelude.{ℕ, zero, suc, ◌≡◌, ◌≢◌, ◌⊎◌, ◌==◌, ◌+◌, Bool, true, false, cond, List, [], ◌∷◌, ◌++◌, length, map, take, Option, Some, None, All, Contains, slice_get, refl}
use Rattle.std.specs.List.{AllByRecursion}
use Rattle.std.proofs.Common.{sym, ◌∙◌, ap, subst, inl, inr, arith}
use Rattle.std.proofs.lemmas.Int.{ints}
use Rattle.std.proofs.lemmas.List.Elements.{All-contains, All-from_recursion, recursion_from_All}
use lib.IntN.{ℤ, pos, negsuc, ◌+ℤ◌, ◌*ℤ◌, *ℤ-zero, +ℤ_idr}
use Rattle.kind_num.specs.Exact.{within}
use Rattle.kind_num.specs.declared.Past.{Past}
use Rattle.kind_num.specs.declared.Shape.{Shape}
use Rattle.proof_steps.specs.declared.Atom.{Atom as Constraint}
use Rattle.proof_steps.specs.declared.Literal.TheVariants.{Atom}
use Rattle.proof_steps.specs.View.{Inequality, atom_view}
use Rattle.proof_steps.specs.Meaning.{at}
use Rattle.proof_steps.specs.Rows.{Form, is_long, entry, combined, defining_rows, rows_of, columns_of}
use Rattle.proof_steps.specs.Bounds.{split_atom}
use Rattle.proof_steps.specs.StopView.{Operation}
use Rattle.proof_steps.specs.Stopped.{IsNumberOf, IsPastStep}
use Rattle.cnf_maker.specs.Plain.{IsPlain, IsPlainAtom}
use Rattle.int_simplex.specs.Given.{AreGiven, IsInOrder}
use Rattle.int_simplex.specs.State.{Standing as Limit, State}
use Rattle.int_simplex.specs.Farkas.{turned, IsOfOneRow}
use Rattle.int_simplex.proofs.Places.{listed_at}
use Rattle.int_simplex.proofs.Sparse.{by_test, same_if, other_if, entry_skips}
use Rattle.line_laws.specs.Lines.{Part, IsPart, meant, bounds_of}
use Rattle.line_laws.specs.Steps.{RefuteEachOther, HasProducts, OperationsFit, FittingStepsAreTaken, conflict_step, numbered, standing}
use Rattle.line_laws.specs.PastSteps.{number_of, refuting_row, factor_in, products_of, limit_products, sum_in, IsSumPast, SumFits, IsAllowed, AreRefutedBy, PastSumsArePast, FittingSumsFit}
use Rattle.line_laws.proofs.Differing.{Differ, none-entry}
use Rattle.line_laws.proofs.Fitting.{in-order-differ}
use Rattle.sat_core.specs.declared.assigned.Assigned.{Assigned}
use Rattle.sat_core.specs.Trail.{value_of}
use Rattle.smt_solver.specs.declared.numbers.meanings.Meaning.{Meaning}
use Rattle.smt_solver.specs.declared.numbers.sums.Share.{Share}
use Rattle.smt_solver.specs.States.{is_set}
use Rattle.smt_solver.specs.Asserting.{signed_bound, bounds_at}
use Rattle.smt_solver.specs.Conflicting.{IsConflictOf}
use Rattle.smt_solver.specs.Growing.{IsTaken}
use Rattle.smt_solver.specs.Run.{Standing}
use Rattle.smt_solver.specs.Shares.{share_of, share_from, share_by, factor_at, products_by, limits_by, row_by, terms_at, SharesFitOrPast, StepFitsOrPast, a_past_step, AreInOrder}
use Rattle.smt_solver.specs.Turning.{HasMeanings, IsRefutedFor}
use Rattle.smt_solver.proofs.Conflicting.{IsBoundAt, bound-in}
use Rattle.smt_solver.proofs.StopTruth.{limit-number}

-- ---- parts as the code has them

same-column : (sign : Bool) (m : Meaning) → (signed_bound sign m).column ≡ m.column
same-column true m = refl
same-column false m = refl

abbrev a_share : ℕ → ℤ → ℤ → ℕ → Share
a_share c z w n = record { column = c; number = z; limit = w; atom = n }

share-is : (trail : List Assigned) (ms : List Meaning) (p : Part) → Contains (bounds_at trail 1 ms) p.bound
    → share_of p ≡ share_by trail ms (numbered p)
share-is trail ms p i = go (bound-in trail 1 ms p.bound i) where
  one-up : (k : ℕ) → 1 + k ≡ suc k
  one-up k = omega arith

  go : IsBoundAt trail 1 ms p.bound → share_of p ≡ share_by trail ms (numbered p)
  go a =
      let n : p.bound.literal ≡ suc a.place = ap (λ (b : Limit). b.literal) a.is_bound ∙ one-up a.place in
      let v : value_of trail (Atom p.bound.literal true) ≡ Some a.sign =
      subst (λ k. value_of trail (Atom k true) ≡ Some a.sign) (one-up a.place ∙ sym n) a.is_value in
      let m : at ms p.bound.literal ≡ Some a.meaning = ap (at ms) n ∙ a.is_meaning in
      let b : Limit = standing (1 + a.place) (signed_bound a.sign a.meaning) in
      ap (λ (b : Limit). a_share b.column (turned b.upper p.multiplier) b.limit p.bound.literal) a.is_bound
      ∙ ap (λ c. a_share c (turned (signed_bound a.sign a.meaning).upper p.multiplier) (signed_bound a.sign a.meaning).limit p.bound.literal)
      (same-column a.sign a.meaning)
      ∙ ap (λ o. share_from (is_set o) p.multiplier p.bound.literal (Some a.meaning)) (sym v)
      ∙ ap (share_from (is_set (value_of trail (Atom p.bound.literal true))) p.multiplier p.bound.literal) (sym m)

shares-are : (trail : List Assigned) (ms : List Meaning) (ps : List Part)
    → AllByRecursion (λ (p : Part). Contains (bounds_at trail 1 ms) p.bound) ps
    → map (share_by trail ms) (map numbered ps) ≡ map share_of ps
shares-are trail ms [] a = refl
shares-are trail ms (p ∷ ps) a =
    ap (λ s. s ∷ map (share_by trail ms) (map numbered ps)) (sym (share-is trail ms p a.0))
    ∙ ap (λ (xs : List Share). share_of p ∷ xs) (shares-are trail ms ps a.1)

limits-are : (ps : List Part) → limits_by (map share_of ps) ≡ limit_products ps
limits-are [] = refl
limits-are (p ∷ ps) = ap (λ xs. (number_of p, p.bound.limit) ∷ xs) (limits-are ps)

row-is : (ps : List Part) → row_by (map share_of ps) ≡ refuting_row ps
row-is [] = refl
row-is (p ∷ ps) = ap (λ xs. (p.bound.column, number_of p) ∷ xs) (row-is ps)

-- ---- atoms by their numbers

view-at : (atoms : List Constraint) (n : ℕ) (i : Inequality) → at (map atom_view atoms) n ≡ Some i
    → (a : Constraint) × (at atoms n ≡ Some a) × (atom_view a ≡ i)
view-at atoms zero i e = absurd cc
view-at [] (suc n) i e = absurd cc
view-at (a ∷ atoms) (suc zero) i e = (a, refl, is (atom_view a) i e) where
  is : (x y : Inequality) → Some x ≡ Some y → x ≡ y
  is x y e = cc
view-at (a ∷ atoms) (suc (suc n)) i e = view-at atoms (suc n) i e

-- what the literal of a part means fits
pub meaning-of-part : (g : Form) → All HasMeanings g.atoms → (p : Part) → IsPart g p → HasMeanings p.atom
meaning-of-part g m p h = All-contains HasMeanings g.atoms p.atom m (there g.atoms p.bound.literal p.atom h.named) where
  there : (xs : List Inequality) (n : ℕ) (i : Inequality) → at xs n ≡ Some i → Contains xs i
  there xs zero i e = absurd cc
  there xs (suc n) i e = listed_at xs n i e

pub meanings-fit : (g : Form) → All HasMeanings g.atoms → (ps : List Part) → AllByRecursion (IsPart g) ps
    → AllByRecursion (λ (p : Part). HasProducts (pos 1) (meant p.sign p.atom)) ps
meanings-fit g m [] h = tt
meanings-fit g m (p ∷ ps) h = (signed p.sign (meaning-of-part g m p h.0), meanings-fit g m ps h.1) where
  signed : (b : Bool) → HasMeanings p.atom → HasProducts (pos 1) (meant b p.atom)
  signed true a = a.as_it_stands
  signed false a = a.opposite

module _ (g : Form) (atoms : List Constraint) (same : map atom_view atoms ≡ g.atoms) where
  named-at : (p : Part) → IsPart g p → (a : Constraint) × (at atoms p.bound.literal ≡ Some a) × (atom_view a ≡ p.atom)
  named-at p h = view-at atoms p.bound.literal p.atom (ap (λ xs. at xs p.bound.literal) same ∙ h.named)

  factor-is : (x : ℕ) (p : Part) → IsPart g p → factor_at (at atoms p.bound.literal) x ≡ factor_in p.atom.terms x
  factor-is x p h = let a = named-at p h in
      ap (λ o. factor_at o x) a.1 ∙ ap (λ (i : Inequality). factor_in i.terms x) a.2

  terms-are : (p : Part) → IsPart g p → terms_at (at atoms p.bound.literal) ≡ p.atom.terms
  terms-are p h = let a = named-at p h in ap terms_at a.1 ∙ ap (λ (i : Inequality). i.terms) a.2

  products-are : (x : ℕ) (ps : List Part) → AllByRecursion (IsPart g) ps → products_by atoms x (map share_of ps) ≡ products_of x ps
  products-are x [] h = refl
  products-are x (p ∷ ps) h =
      ap (λ z. (number_of p, z) ∷ products_by atoms x (map share_of ps)) (factor-is x p h.0)
      ∙ ap (λ xs. (number_of p, factor_in p.atom.terms x) ∷ xs) (products-are x ps h.1)

  -- ---- the sums of all variables

  nought : within (pos 0) ≡ true
  unfolding within
  nought = refl

  abbrev AreNothing : List (ℤ × ℤ) → Type 0
  AreNothing products = AllByRecursion (λ (p : ℤ × ℤ). p.1 ≡ pos 0) products

  nothing-sums : (k : ℕ) (products : List (ℤ × ℤ)) → AreNothing products → sum_in (take k products) ≡ pos 0
  nothing-sums zero products a = refl
  nothing-sums (suc k) [] a = refl
  nothing-sums (suc k) (p ∷ ps) a =
      let z : p.0 *ℤ p.1 ≡ pos 0 = ap (λ y. p.0 *ℤ y) a.0 ∙ *ℤ-zero p.0 in
      let i : sum_in (take k ps) ≡ pos 0 = nothing-sums k ps a.1 in omega (arith, ints)

  nothing-each : (products : List (ℤ × ℤ)) → AreNothing products → (k : ℕ) (p : ℤ × ℤ) → slice_get products k ≡ Some p
      → within (p.0 *ℤ p.1) ≡ true
  nothing-each [] a k p e = absurd cc
  nothing-each (q ∷ qs) a zero p e = subst (λ (y : ℤ × ℤ). within (y.0 *ℤ y.1) ≡ true) (is q p e)
      (subst (λ z. within z ≡ true) (sym (ap (λ y. q.0 *ℤ y) a.0 ∙ *ℤ-zero q.0)) nought) where
        is : (x y : ℤ × ℤ) → Some x ≡ Some y → x ≡ y
        is x y e = cc
  nothing-each (q ∷ qs) a (suc k) p e = nothing-each qs a.1 k p e

  nothing-fits : (products : List (ℤ × ℤ)) → AreNothing products → SumFits products
  nothing-fits products a = record {
    each = nothing-each products a;
    sums = λ k. subst (λ z. within z ≡ true) (sym (nothing-sums k products a)) nought;
  }

  -- the variable is among the terms, or has no factor
  term-or : (ts : List (ℕ × ℤ)) (x : ℕ) → ((t : ℕ × ℤ) × Contains ts t × (t.0 ≡ x)) ⊎ (entry ts x ≡ pos 0)
  term-or [] x = inr refl
  term-or (t ∷ ts) x = elim (by_test (t.0 == x)) [
    | inl e ↦ inl (t, (0, omega arith, refl), same_if t.0 x e)
    | inr e ↦ elim (term-or ts x) [
      | inl (u, i, q) ↦ inl (u, (suc i.0, (let l = i.1 in omega arith), i.2), q)
      | inr z ↦ inr (entry_skips t ts x (other_if t.0 x e) ∙ z)
    ]
  ]

  no-factor : (ts : List (ℕ × ℤ)) (x : ℕ) → entry ts x ≡ pos 0 → ((t : ℕ × ℤ) × Contains ts t × (t.0 ≡ x)) ⊎ (factor_in ts x ≡ pos 0)
  no-factor [] x e = inr refl
  no-factor (t ∷ []) x e = elim (by_test (t.0 == x)) [
    | inl q ↦ inl (t, (0, omega arith, refl), same_if t.0 x q)
    | inr q ↦ inr (ap (λ w. cond w (pos 1) (pos 0)) q)
  ]
  no-factor (t ∷ u ∷ ts) x e = inr e

  factor-or : (ts : List (ℕ × ℤ)) (x : ℕ) → ((t : ℕ × ℤ) × Contains ts t × (t.0 ≡ x)) ⊎ (factor_in ts x ≡ pos 0)
  factor-or ts x = elim (term-or ts x) [ inl h ↦ inl h | inr e ↦ no-factor ts x e ]

  abbrev FitsAt : List Share → ℕ → Type 0
  FitsAt shares x = SumFits (products_by atoms x shares)

  module _ (shares : List Share) (x : ℕ) where
    some-term : (ps : List Part) → AllByRecursion (IsPart g) ps
        → AllByRecursion (λ (s : Share). All (λ (t : ℕ × ℤ). FitsAt shares t.0) (terms_at (at atoms s.atom))) (map share_of ps)
        → FitsAt shares x ⊎ AreNothing (products_of x ps)
    some-term [] h a = inr tt
    some-term (p ∷ ps) h a = elim (factor-or p.atom.terms x) [
      | inl t ↦ inl (subst (FitsAt shares) t.2
          (All-contains (λ (t : ℕ × ℤ). FitsAt shares t.0) (terms_at (at atoms p.bound.literal)) t.0 a.0
          (subst (λ ts. Contains ts t.0) (sym (terms-are p h.0)) t.1)))
      | inr z ↦ elim (some-term ps h.1 a.1) [
        | inl f ↦ inl f
        | inr n ↦ inr (z, n)
      ]
    ]

  all-fit : (ps : List Part) → AllByRecursion (IsPart g) ps → SharesFitOrPast atoms (map share_of ps) (map share_of ps) None
      → (x : ℕ) → SumFits (products_of x ps)
  all-fit ps h a x = elim (some-term (map share_of ps) x ps h
      (recursion_from_All (λ (s : Share). All (λ (t : ℕ × ℤ). FitsAt (map share_of ps) t.0) (terms_at (at atoms s.atom))) (map share_of ps) a)) [
        | inl f ↦ subst SumFits (products-are x ps h) f
        | inr n ↦ nothing-fits (products_of x ps) n
      ]

  -- ---- the step is taken

  pub fits : FittingSumsFit → All HasMeanings g.atoms → (ps : List Part) → RefuteEachOther g ps
      → StepFitsOrPast atoms (map share_of ps) None → OperationsFit ps
  fits law m ps h f =
      let a = recursion_from_All (IsPart g) ps h.are_parts in
      law g ps h
      (All-from_recursion (λ (p : Part). HasProducts (pos 1) (meant p.sign p.atom)) ps (meanings-fit g m ps a))
      (all-fit ps a f.1) (subst SumFits (limits-are ps) f.0)

pub in-order-all : (shapes : List Shape) (atoms : List Constraint) → All (IsPlainAtom shapes) (map atom_view atoms) → AreInOrder atoms
in-order-all shapes atoms h = All-from_recursion (λ (a : Constraint). IsInOrder (atom_view a).terms) atoms
    (go atoms (recursion_from_All (IsPlainAtom shapes) (map atom_view atoms) h)) where
      go : (xs : List Constraint) → AllByRecursion (IsPlainAtom shapes) (map atom_view xs)
          → AllByRecursion (λ (a : Constraint). IsInOrder (atom_view a).terms) xs
      go [] a = tt
      go (x ∷ xs) h = (h.0.in_order, go xs h.1)

-- what the code knows of the shares is what the step's parts are
pub shares-same : (s : Standing) (ms : List Meaning) (parts : List (ℤ × ℕ)) (shares : List Share) (c : IsConflictOf s ms parts)
    → shares ≡ map (share_by s.search.trail ms) parts → shares ≡ map share_of c.step.parts
shares-same s ms parts shares c e =
    e ∙ ap (map (share_by s.search.trail ms)) (sym c.step.same)
    ∙ shares-are s.search.trail ms c.step.parts
    (recursion_from_All (λ (p : Part). Contains (bounds_at s.search.trail 1 ms) p.bound) c.step.parts c.step.stand)

pub taken : FittingSumsFit → FittingStepsAreTaken → (s : Standing) (ms : List Meaning) (parts : List (ℤ × ℕ)) (shares : List Share)
    (atoms : List Constraint) → map atom_view atoms ≡ s.form.atoms → IsPlain s.form → All HasMeanings s.form.atoms
    → (c : IsConflictOf s ms parts) → shares ≡ map share_of c.step.parts → (o : Option Past) → o ≡ None
    → StepFitsOrPast atoms shares o
    → IsTaken s (conflict_step c.step.parts)
taken sums steps s ms parts shares atoms e plain m c same o q f =
    steps s.form s.search.known c.step.parts plain c.step.refute
    (fits s.form atoms e sums m c.step.parts c.step.refute
    (subst (λ xs. StepFitsOrPast atoms xs None) same (subst (StepFitsOrPast atoms shares) q f)))

-- ---- an operation outside 128 bits

-- atoms of splits have no rows
no-rows : (n : ℕ) (pairs : List (ℕ × ℤ)) → defining_rows n (map split_atom pairs) ≡ []
no-rows n [] = refl
no-rows n (p ∷ pairs) = no-rows n pairs

pub rows-grown : (n : ℕ) (atoms : List Inequality) (pairs : List (ℕ × ℤ))
    → defining_rows n (atoms ++ map split_atom pairs) ≡ defining_rows n atoms
rows-grown n [] pairs = no-rows n pairs
rows-grown n (i ∷ atoms) pairs = go (is_long i.terms) (rows-grown (n + 1) atoms pairs) (rows-grown n atoms pairs) where
  go : (b : Bool) → defining_rows (n + 1) (atoms ++ map split_atom pairs) ≡ defining_rows (n + 1) atoms
      → defining_rows n (atoms ++ map split_atom pairs) ≡ defining_rows n atoms
      → cond b ((i.terms ++ (n, negsuc 0) ∷ []) ∷ defining_rows (n + 1) (atoms ++ map split_atom pairs)) (defining_rows n (atoms ++ map split_atom pairs))
      ≡ cond b ((i.terms ++ (n, negsuc 0) ∷ []) ∷ defining_rows (n + 1) atoms) (defining_rows n atoms)
  go true e d = ap (λ rs. (i.terms ++ (n, negsuc 0) ∷ []) ∷ rs) e
  go false e d = d

-- a long atom is not that of a split
own-atom : (atoms : List Inequality) (pairs : List (ℕ × ℤ)) (k : ℕ) (i : Inequality)
    → slice_get (atoms ++ map split_atom pairs) k ≡ Some i → is_long i.terms ≡ true → Contains atoms i
own-atom [] pairs k i e l = absurd (short pairs k i e l) where
  short : (pairs : List (ℕ × ℤ)) (k : ℕ) (i : Inequality) → slice_get (map split_atom pairs) k ≡ Some i → is_long i.terms ≡ true → ⊥
  short [] k i e l = absurd cc
  short (p ∷ pairs) zero i e l =
      let q : false ≡ true = ap (λ (j : Inequality). is_long j.terms) (is (split_atom p) i e) ∙ l in absurd cc where
        is : (x y : Inequality) → Some x ≡ Some y → x ≡ y
        is x y e = cc
  short (p ∷ pairs) (suc k) i e l = short pairs k i e l
own-atom (a ∷ atoms) pairs zero i e l = (0, omega arith, is a i e) where
  is : (x y : Inequality) → Some x ≡ Some y → x ≡ y
  is x y e = cc
own-atom (a ∷ atoms) pairs (suc k) i e l =
    let c = own-atom atoms pairs k i e l in (suc c.0, (let b = c.1 in omega arith), c.2)

-- an entry other than 0 is a coefficient
listed-entry : (ts : List (ℕ × ℤ)) (c : ℕ) → Differ ts → entry ts c ≢ pos 0 → Contains (map (λ (t : ℕ × ℤ). t.1) ts) (entry ts c)
listed-entry [] c d n = absurd (n refl)
listed-entry ((y, a) ∷ ts) c d n = elim (by_test (y == c)) [
  | inl e ↦
      let z : entry ts y ≡ pos 0 = none-entry y ts d.0 in
      let q : entry ((y, a) ∷ ts) c ≡ a =
      ap (λ w. cond w (a +ℤ entry ts c) (entry ts c)) e ∙ ap (λ k. a +ℤ entry ts k) (sym (same_if y c e)) ∙ ap (λ k. a +ℤ k) z ∙ +ℤ_idr a in
      (0, omega arith, sym q)
  | inr e ↦
      let q : entry ((y, a) ∷ ts) c ≡ entry ts c = ap (λ w. cond w (a +ℤ entry ts c) (entry ts c)) e in
      let i = listed-entry ts c d.1 (λ z. n (q ∙ z)) in
      subst (Contains (a ∷ map (λ (t : ℕ × ℤ). t.1) ts)) (sym q) (suc i.0, (let b = i.1 in omega arith), i.2)
]

-- a bound that stands is the one of its number
one-bound : (trail : List Assigned) (ms : List Meaning) (b d : Limit) → Contains (bounds_at trail 1 ms) b
    → Contains (bounds_at trail 1 ms) d → b.literal ≡ d.literal → b ≡ d
one-bound trail ms b d i j e = go (bound-in trail 1 ms b i) (bound-in trail 1 ms d j) where
  inner : (x y : Meaning) → Some x ≡ Some y → x ≡ y
  inner x y e = cc

  sign : (x y : Bool) → Some x ≡ Some y → x ≡ y
  sign x y e = cc

  go : IsBoundAt trail 1 ms b → IsBoundAt trail 1 ms d → b ≡ d
  go x y =
      let p : 1 + x.place ≡ 1 + y.place =
      sym (ap (λ (b : Limit). b.literal) x.is_bound) ∙ e ∙ ap (λ (b : Limit). b.literal) y.is_bound in
      let q : x.place ≡ y.place = omega arith in
      let m : x.meaning ≡ y.meaning = inner x.meaning y.meaning (sym x.is_meaning ∙ ap (slice_get ms) q ∙ y.is_meaning) in
      let s : x.sign ≡ y.sign = sign x.sign y.sign (sym x.is_value ∙ ap (λ k. value_of trail (Atom (1 + k) true)) q ∙ y.is_value) in
      x.is_bound ∙ ap (λ k. standing k (signed_bound x.sign x.meaning)) p
      ∙ ap (λ b. standing (1 + y.place) (signed_bound b x.meaning)) s
      ∙ ap (λ m. standing (1 + y.place) (signed_bound y.sign m)) m ∙ sym y.is_bound

abbrev literal_in : Limit → ℕ
literal_in b = b.literal

same-bounds : (trail : List Assigned) (ms : List Meaning) (used : List Limit) (ps : List Part)
    → map literal_in used ≡ map (λ (p : ℤ × ℕ). p.1) (map numbered ps)
    → AllByRecursion (Contains (bounds_at trail 1 ms)) used
    → AllByRecursion (λ (p : Part). Contains (bounds_at trail 1 ms) p.bound) ps → used ≡ bounds_of ps
same-bounds trail ms [] [] e a b = refl
same-bounds trail ms [] (p ∷ ps) e a b = absurd cc
same-bounds trail ms (u ∷ used) [] e a b = absurd cc
same-bounds trail ms (u ∷ used) (p ∷ ps) e a b =
    ap (λ x. x ∷ used) (one-bound trail ms u p.bound a.0 b.0 (heads u.literal p.bound.literal _ _ e))
    ∙ ap (λ xs. p.bound ∷ xs) (same-bounds trail ms used ps (tails u.literal p.bound.literal _ _ e) a.1 b.1) where
      heads : (x y : ℕ) (xs ys : List ℕ) → x ∷ xs ≡ y ∷ ys → x ≡ y
      heads x y xs ys e = cc

      tails : (x y : ℕ) (xs ys : List ℕ) → x ∷ xs ≡ y ∷ ys → xs ≡ ys
      tails x y xs ys e = cc

module _ (f : Form) (pairs : List (ℕ × ℤ)) (s : Standing) (ms : List Meaning) (t : State) (parts : List (ℤ × ℕ))
    (h : IsRefutedFor f pairs s ms t parts) (c : IsConflictOf s ms parts) where
  abbrev ps : List Part
  ps = c.step.parts

  rows-same : rows_of s.form ≡ rows_of f
  rows-same = ap rows_of h.form ∙ rows-grown (length f.shapes) f.atoms pairs

  stand : AllByRecursion (λ (p : Part). Contains (bounds_at s.search.trail 1 ms) p.bound) ps
  stand = recursion_from_All (λ (p : Part). Contains (bounds_at s.search.trail 1 ms) p.bound) ps c.step.stand

  used-same : h.refuted.refutes.used ≡ bounds_of ps
  used-same = same-bounds s.search.trail ms h.refuted.refutes.used ps
      (h.refuted.refutes.literals ∙ ap (map (λ (p : ℤ × ℕ). p.1)) (sym c.step.same))
      (recursion_from_All (Contains (bounds_at s.search.trail 1 ms)) h.refuted.refutes.used
      (subst (λ bs. All (Contains bs) h.refuted.refutes.used) h.tableau.bounds h.refuted.refutes.stand)) stand

  coefficient : (p : Part) → IsPart s.form p → (x : ℕ) → is_long p.atom.terms ≡ true → entry p.atom.terms x ≢ pos 0
      → IsNumberOf f pairs (entry p.atom.terms x)
  coefficient p q x l n = go p.bound.literal (ap (λ (g : Form). at g.atoms p.bound.literal) (sym h.form) ∙ q.named) where
    go : (k : ℕ) → at (f.atoms ++ map split_atom pairs) k ≡ Some p.atom → IsNumberOf f pairs (entry p.atom.terms x)
    go zero e = absurd cc
    go (suc k) e =
        let i = own-atom f.atoms pairs k p.atom e l in
        let o = All-contains (IsPlainAtom f.shapes) f.atoms p.atom h.plain i in
        inl (p.atom, i, listed-entry p.atom.terms x (in-order-differ p.atom.terms o.in_order) n)

  allowed : (qs : List Part) → AllByRecursion (IsPart s.form) qs
      → AllByRecursion (λ (p : Part). Contains (bounds_at s.search.trail 1 ms) p.bound) qs → AllByRecursion (IsAllowed f pairs) qs
  allowed [] a b = tt
  allowed (q ∷ qs) a b = (
    record {
      coefficients = coefficient q a.0;
      limit = limit-number f pairs ms s.search.trail t h.tableau q.bound
          (subst (λ bs. Contains bs q.bound) (sym h.tableau.bounds) b.0);
    },
    allowed qs a.1 b.1,
  )

  refuted-by : AreRefutedBy f pairs ps
  refuted-by = record {
    given = subst (λ n. AreGiven (rows_of f) n) h.tableau.columns
        (subst (λ rows. AreGiven rows t.columns) h.tableau.given h.tableau.sound.given);
    on_rows = (
      c.step.refute.on_rows.0,
      λ x. c.step.refute.on_rows.1 x ∙ ap (λ rows. combined c.step.refute.on_rows.0 rows x) rows-same,
    );
    absurd = c.step.refute.absurd;
    one_row = subst (λ bs. IsOfOneRow (rows_of f) (columns_of f) bs (map numbered ps)) used-same
        (subst (IsOfOneRow (rows_of f) (columns_of f) h.refuted.refutes.used) (sym c.step.same)
        (subst (λ n. IsOfOneRow (rows_of f) n h.refuted.refutes.used parts) h.tableau.columns
        (subst (λ rows. IsOfOneRow rows t.columns h.refuted.refutes.used parts) h.tableau.given h.refuted.one_row)));
    allowed = All-from_recursion (IsAllowed f pairs) ps
        (allowed ps (recursion_from_All (IsPart s.form) ps c.step.refute.are_parts) stand);
  }

pub past-of : PastSumsArePast → (s : Standing) (ms : List Meaning) (parts : List (ℤ × ℕ)) (shares : List Share)
    (atoms : List Constraint) → map atom_view atoms ≡ s.form.atoms → (c : IsConflictOf s ms parts)
    → shares ≡ map share_of c.step.parts → (past : Past) (o : Option Past) → o ≡ Some past
    → StepFitsOrPast atoms shares o → (first : List (ℕ × ℤ)) (step : Operation)
    → step ≡ a_past_step (row_by shares) first past
    → (f : Form) (pairs : List (ℕ × ℤ)) (t : State) → IsRefutedFor f pairs s ms t parts → slice_get t.given 0 ≡ Some first
    → IsPastStep (rows_of f) (columns_of f) (IsNumberOf f pairs) step
past-of law s ms parts shares atoms same c mine past r q o first step e f pairs t h g =
    let qs = c.step.parts in
    let a = recursion_from_All (IsPart s.form) qs c.step.refute.are_parts in
    let w : StepFitsOrPast atoms (map share_of qs) (Some past) = subst (λ xs. StepFitsOrPast atoms xs (Some past)) mine
    (subst (StepFitsOrPast atoms shares) q o) in
    let v : step ≡ a_past_step (refuting_row qs) first past =
    e ∙ ap (λ xs. a_past_step (row_by xs) first past) mine ∙ ap (λ r. a_past_step r first past) (row-is qs) in
    subst (IsPastStep (rows_of f) (columns_of f) (IsNumberOf f pairs)) (sym v)
    (law f pairs qs first w.0 past (refuted-by f pairs s ms t parts h c)
    (ap (λ rows. slice_get rows 0) (sym h.tableau.given) ∙ g)
    (elim w.1 [
      | inl x ↦ inl (subst (λ xs. IsSumPast xs past) (products-are s.form atoms same w.0 qs a) x)
      | inr x ↦ inr (subst (λ xs. IsSumPast xs past) (limits-are qs) x)
    ]))
