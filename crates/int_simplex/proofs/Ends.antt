-- Where the columns outside the basis stand after a check.
use Rattle.std.specs.Prelude.{ℕ, zero, suc, ◌≡◌, ◌≢◌, ◌⊎◌, ◌==◌, Bool, true, false, List, [], ◌∷◌, map, Contains, Option, Some, None}
use Rattle.std.specs.Int.{int_max, int_min}
use Rattle.std.proofs.Common.{sym, ◌∙◌, ap, subst, arith, refl, inl, inr}
use Rattle.std.proofs.lemmas.Int.{ints}
use lib.IntN.{ℤ}
use Rattle.proof_steps.specs.Pivots.{Position, Pivots, raised, lowered, bound_on, exchanged}
use Rattle.int_simplex.specs.State.{Standing, plain}
use Rattle.int_simplex.specs.Leads.{LeadsTo}
use Rattle.int_simplex.specs.Running.{AreTables}
use Rattle.int_simplex.proofs.Sparse.{by_test, same_if, other_if}
use Rattle.int_simplex.proofs.Tables.{bound_stands}
use Rattle.int_simplex.proofs.Turned.{stays}

-- a column stands where it stood, or at one of its bounds that stand
abbrev pub StandsBy : List Standing → List ℕ → (ℕ → ℤ) → ℕ → ℤ → Type 0
StandsBy bounds old places c z = ((Contains old c → ⊥) × (z ≡ places c)) ⊎ ((b : Standing) × Contains bounds b × (b.column ≡ c) × (b.limit ≡ z))

abbrev pub AreAtBounds : List Standing → List ℕ → (ℕ → ℤ) → Position → Type 0
AreAtBounds bounds old places t = (c : ℕ) → (Contains t.basis c → ⊥) → StandsBy bounds old places c (t.places c)

pub still_in : (l e c : ℕ) (basis : List ℕ) → c ≢ l → Contains basis c → Contains (map (exchanged l e) basis) c
still_in l e c [] n (k, h, q) = absurd (omega arith)
still_in l e c (b ∷ basis) n (zero, h, q) =
    let s : b ≡ c = q in let d : b ≢ l = λ w. n (sym s ∙ w) in
    (0, omega arith, stays l e b d ∙ s)
still_in l e c (b ∷ basis) n (suc k, h, q) =
    let i = still_in l e c basis n (k, omega arith, q) in (suc i.0, (let w = i.1 in omega arith), i.2)

pub raised_cases : (o : Option ℤ) (z : ℤ) → (raised o z ≡ z) ⊎ (o ≡ Some (raised o z))
raised_cases None z = inl refl
raised_cases (Some l) z = elim (cases l z) [ inl e ↦ inl e | inr e ↦ inr (ap Some (sym e)) ] where
  cases : (l z : ℤ) → (int_max l z ≡ z) ⊎ (int_max l z ≡ l)
  cases l z = grind (arith, ints)

pub lowered_cases : (o : Option ℤ) (z : ℤ) → (lowered o z ≡ z) ⊎ (o ≡ Some (lowered o z))
lowered_cases None z = inl refl
lowered_cases (Some l) z = elim (cases l z) [ inl e ↦ inl e | inr e ↦ inr (ap Some (sym e)) ] where
  cases : (l z : ℤ) → (int_min l z ≡ z) ⊎ (int_min l z ≡ l)
  cases l z = grind (arith, ints)

module _ (given : List (List (ℕ × ℤ))) (columns : ℕ) (bounds : List Standing) (lowers uppers : List (Option (ℤ × ℕ))) (a : AreTables columns bounds lowers uppers)
    (old : List ℕ) (places : ℕ → ℤ) where
  at-bound : (side : Bool) (c : ℕ) (z : ℤ) → bound_on side (map plain bounds) c ≡ Some z → StandsBy bounds old places c z
  at-bound side c z e = let s = (bound_stands columns bounds lowers uppers a side c z e).1 in inr (s.bound, s.stands, s.column, s.limit)

  moved : (c : ℕ) (z w : ℤ) → z ≡ w → StandsBy bounds old places c w → StandsBy bounds old places c z
  moved c z w e h = let P : ℤ → Type 0 = λ x. StandsBy bounds old places c x in subst P (sym e) h

  -- as a check begins
  pub first_bounds : (s : Position) → s.basis ≡ old
      → ((c : ℕ) → s.places c ≡ lowered (bound_on true (map plain bounds) c) (raised (bound_on false (map plain bounds) c) (places c)))
      → AreAtBounds bounds old places s
  first_bounds s eb ep = λ c n. moved c (s.places c) (lowered (bound_on true (map plain bounds) c)
      (raised (bound_on false (map plain bounds) c) (places c))) (ep c)
      (elim (lowered_cases (bound_on true (map plain bounds) c) (raised (bound_on false (map plain bounds) c) (places c))) [
        | inr e ↦ at-bound true c (lowered (bound_on true (map plain bounds) c) (raised (bound_on false (map plain bounds) c) (places c))) e
        | inl e ↦ moved c (lowered (bound_on true (map plain bounds) c) (raised (bound_on false (map plain bounds) c) (places c)))
            (raised (bound_on false (map plain bounds) c) (places c)) e
            (elim (raised_cases (bound_on false (map plain bounds) c) (places c)) [
              | inr f ↦ at-bound false c (raised (bound_on false (map plain bounds) c) (places c)) f
              | inl f ↦ inl ((let P : List ℕ → Type 0 = λ b. Contains b c → ⊥ in subst P eb n), f)
            ])
      ])

  -- a pivot leaves it so
  pub pivot_bounds : (s t : Position) → Pivots given columns (map plain bounds) s t → AreAtBounds bounds old places s → AreAtBounds bounds old places t
  pivot_bounds s t p h = λ c n. elim (by_test (c == p.leaving)) [
    | inl e ↦
        let q : c ≡ p.leaving = same_if c p.leaving e in
        moved c (t.places c) p.limit (ap t.places q ∙ p.left)
        (at-bound p.side c p.limit (ap (λ k. bound_on p.side (map plain bounds) k) q ∙ p.misses.bounded))
    | inr e ↦
        let d : c ≢ p.leaving = other_if c p.leaving e in
        let P : List ℕ → Type 0 = λ b. Contains b c in
        moved c (t.places c) (s.places c) (p.others c d)
        (h c (λ i. n (subst P (sym p.basis) (still_in p.leaving p.entering c s.basis d i))))
  ]

  -- and so does a run
  pub run_bounds : (n : ℕ) (s t : Position) → LeadsTo given columns (map plain bounds) n s t → AreAtBounds bounds old places s → AreAtBounds bounds old places t
  run_bounds zero s t e h = let P : Position → Type 0 = λ u. AreAtBounds bounds old places u in subst P e h
  run_bounds (suc n) s t (u, p, r) h = run_bounds n u t r (pivot_bounds s u p h)
