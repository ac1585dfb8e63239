-- Bounds that sum to a combination of rows: what their literals mean sums to nothing.
use Rattle.std.specs.Prelude.{ℕ, zero, suc, ◌≡◌, ◌⊎◌, ◌==◌, ◌+◌, ◌<◌, ◌≤◌, Bool, true, false, cond, List, [], ◌∷◌, ◌++◌, length, map, All, Some, slice_get, refl}
use Rattle.std.specs.List.{AllByRecursion}
use Rattle.std.proofs.Common.{sym, ◌∙◌, ap, subst, arith, inl, inr}
use Rattle.std.proofs.lemmas.Int.{ints}
use Rattle.std.proofs.lemmas.List.Elements.{recursion_from_All}
use lib.IntN.{ℤ, pos, negsuc, ◌+ℤ◌, ◌-ℤ◌, ◌*ℤ◌, *ℤ-zero}
use Rattle.kind_num.specs.declared.Shape.{Shape}
use Rattle.kind_num.specs.declared.Shape.TheVariants.{Number}
use Rattle.kind_num.proofs.Ring.{times_sum}
use Rattle.proof_steps.specs.declared.Literal.TheVariants.{Atom}
use Rattle.proof_steps.specs.View.{Inequality}
use Rattle.proof_steps.specs.Meaning.{at, negated_term}
use Rattle.proof_steps.specs.Rows.{Form, is_long, entry, combined, rows_of}
use Rattle.proof_steps.specs.Bounds.{Bound, bound_of_literal, bounds_from, bound_if}
use Rattle.int_simplex.specs.State.{Standing}
use Rattle.int_simplex.specs.Farkas.{turned, weight}
use Rattle.cnf_maker.specs.Plain.{IsPlain, IsPlainAtom, IsTermOf}
use Rattle.line_laws.specs.Lines.{Part, IsPart, said, divided_by, multipliers_of, bounds_of, coefficient_in}
use Rattle.line_laws.proofs.Substituted.{AreBelow, AtomsBelow, put_in, put_in_same, no-multipliers, entry-beyond, combination_vanishes}
use Rattle.line_laws.proofs.Bounded.{only, Claim, part}

there-below : (shapes : List Shape) (x : ℕ) → slice_get shapes x ≡ Some Number → x < length shapes
there-below [] x e = absurd cc
there-below (s ∷ rest) zero e = omega arith
there-below (s ∷ rest) (suc x) e = let h = there-below rest x e in omega arith

terms-below : (shapes : List Shape) (terms : List (ℕ × ℤ)) → AllByRecursion (IsTermOf shapes) terms
    → AreBelow (length shapes) terms
terms-below shapes [] a = tt
terms-below shapes (t ∷ rest) a = (there-below shapes t.0 a.0.number, terms-below shapes rest a.1)

atoms-below : (shapes : List Shape) (atoms : List Inequality) → AllByRecursion (IsPlainAtom shapes) atoms
    → AtomsBelow (length shapes) atoms
atoms-below shapes [] a = tt
atoms-below shapes (i ∷ rest) a =
    (terms-below shapes i.terms (recursion_from_All (IsTermOf shapes) i.terms a.0.terms), atoms-below shapes rest a.1)

pub below : (g : Form) → IsPlain g → AtomsBelow (length g.shapes) g.atoms
below g p = atoms-below g.shapes g.atoms (recursion_from_All (IsPlainAtom g.shapes) g.atoms p)

at-below : (n : ℕ) (atoms : List Inequality) (j : ℕ) (i : Inequality) → AtomsBelow n atoms
    → slice_get atoms j ≡ Some i → AreBelow n i.terms
at-below n [] j i a e = absurd cc
at-below n (k ∷ rest) zero i a e = subst (λ w. AreBelow n w.terms) (is k i e) a.0 where
  is : (k i : Inequality) → Some k ≡ Some i → k ≡ i
  is k i e = cc
at-below n (k ∷ rest) (suc j) i a e = at-below n rest j i a.1 e

divided-below : (n x : ℕ) (a z : ℤ) → x < n → AreBelow n (divided_by x a z).terms
divided-below n x (pos zero) z h = tt
divided-below n x (pos (suc d)) z h = (h, tt)
divided-below n x (negsuc d) z h = (h, tt)

negated-below : (n : ℕ) (terms : List (ℕ × ℤ)) → AreBelow n terms → AreBelow n (map negated_term terms)
negated-below n [] a = tt
negated-below n (t ∷ rest) a = (a.0, negated-below n rest a.1)

said-below : (n : ℕ) (sign : Bool) (terms : List (ℕ × ℤ)) (z : ℤ) → AreBelow n terms
    → AreBelow n (said sign record { terms = terms; bound = z }).terms
said-below n true [] z a = tt
said-below n false [] z a = tt
said-below n true ((x, y) ∷ []) z a = divided-below n x y z a.0
said-below n false ((x, y) ∷ []) z a = divided-below n x (pos 0 -ℤ y) (negsuc 0 -ℤ z) a.0
said-below n true (t ∷ u ∷ ts) z a = a
said-below n false (t ∷ u ∷ ts) z a = negated-below n (t ∷ u ∷ ts) a

append-nil : (xs : List Inequality) → xs ++ [] ≡ xs
append-nil [] = refl
append-nil (x ∷ xs) = ap (λ ys. x ∷ ys) (append-nil xs)

bound_in : Standing → Bound
bound_in b = record { column = b.column; upper = b.upper; limit = b.limit }

pub put-both : (c m : ℕ) (atoms : List Inequality) (v w : ℕ → ℤ)
    → put_in c m atoms (λ k. v k +ℤ w k) ≡ put_in c m atoms v +ℤ put_in c m atoms w
unfolding put_in
put-both c m [] v w = refl
put-both c m (i ∷ rest) v w = go (is_long i.terms) (put-both c (m + 1) rest v w) (put-both c m rest v w) where
  go : (b : Bool) → put_in c (m + 1) rest (λ k. v k +ℤ w k) ≡ put_in c (m + 1) rest v +ℤ put_in c (m + 1) rest w
      → put_in c m rest (λ k. v k +ℤ w k) ≡ put_in c m rest v +ℤ put_in c m rest w
      → cond b ((v m +ℤ w m) *ℤ entry i.terms c +ℤ put_in c (m + 1) rest (λ k. v k +ℤ w k))
      (put_in c m rest (λ k. v k +ℤ w k))
      ≡ cond b (v m *ℤ entry i.terms c +ℤ put_in c (m + 1) rest v) (put_in c m rest v)
      +ℤ cond b (w m *ℤ entry i.terms c +ℤ put_in c (m + 1) rest w) (put_in c m rest w)
  go true e f = let d : (v m +ℤ w m) *ℤ entry i.terms c
      ≡ v m *ℤ entry i.terms c +ℤ w m *ℤ entry i.terms c = times_sum (v m) (w m) (entry i.terms c) in omega
      (arith, ints)
  go false e f = f

weight-next : (t : ℤ) (b : Standing) (w : ℤ) (k : ℕ) → cond (b.column == k) (t +ℤ w) w ≡ only b.column t k +ℤ w
weight-next t b w k = go (b.column == k) where
  go : (x : Bool) → cond x (t +ℤ w) w ≡ cond x t (pos 0) +ℤ w
  go true = refl
  go false = omega (arith, ints)

module _ (g : Form) (plain : IsPlain g) where
  part-claim : (c : ℕ) → c < length g.shapes → (p : Part) → IsPart g p
      → Claim (length g.shapes) c (length g.shapes) g.atoms p.multiplier (said p.sign p.atom).terms (bound_in p.bound)
  unfolding bound_in
  part-claim c l p h = go p.bound.literal h.named h.means where
    go : (n : ℕ) → at g.atoms n ≡ Some p.atom → bound_of_literal g [] (Atom n p.sign)
        ≡ Some record { column = p.bound.column; upper = p.bound.upper; limit = p.bound.limit }
        → Claim (length g.shapes) c (length g.shapes) g.atoms p.multiplier
        (said p.sign p.atom).terms record { column = p.bound.column; upper = p.bound.upper; limit = p.bound.limit }
    go zero e f = absurd cc
    go (suc j) e f =
        part (length g.shapes) c l p.multiplier
        (length g.shapes) g.atoms j p.atom p.sign record { column = p.bound.column; upper = p.bound.upper; limit = p.bound.limit }
        (omega arith) (below g plain) e
        (ap (λ xs. bound_if p.sign (slice_get (bounds_from (length g.shapes) xs) j)) (sym (append-nil g.atoms)) ∙ f)

  part-beyond : (c : ℕ) → length g.shapes ≤ c → (p : Part) → IsPart g p → entry (said p.sign p.atom).terms c ≡ pos 0
  part-beyond c l p h = go p.bound.literal h.named where
    go : (n : ℕ) → at g.atoms n ≡ Some p.atom → entry (said p.sign p.atom).terms c ≡ pos 0
    go zero e = absurd cc
    go (suc j) e =
        entry-beyond (length g.shapes) c (said p.sign p.atom).terms
        (said-below (length g.shapes) p.sign p.atom.terms p.atom.bound
        (at-below (length g.shapes) g.atoms j p.atom (below g plain) e)) l

  pub summed : (c : ℕ) → c < length g.shapes → (parts : List Part) → AllByRecursion (IsPart g) parts
      → coefficient_in parts c ≡ weight (multipliers_of parts) (bounds_of parts) c
      +ℤ put_in c (length g.shapes) g.atoms (λ k. weight (multipliers_of parts) (bounds_of parts) k)
  unfolding bound_in
  summed c l [] a = let z = no-multipliers c (length g.shapes) g.atoms in omega (arith, ints)
  summed c l (p ∷ rest) a =
      let i = summed c l rest a.1 in
      let q = (part-claim c l p a.0).1 in
      let w = weight-next (turned p.bound.upper p.multiplier) p.bound
      (weight (multipliers_of rest) (bounds_of rest) c) c in
      let e : put_in c (length g.shapes) g.atoms (λ k. weight (multipliers_of (p ∷ rest)) (bounds_of (p ∷ rest)) k)
      ≡ put_in c (length g.shapes) g.atoms (λ k. only p.bound.column (turned p.bound.upper p.multiplier) k +ℤ weight
      (multipliers_of rest) (bounds_of rest) k) =
      put_in_same c (length g.shapes) g.atoms (λ k. weight (multipliers_of (p ∷ rest)) (bounds_of (p ∷ rest)) k)
      (λ k. only p.bound.column (turned p.bound.upper p.multiplier) k +ℤ weight (multipliers_of rest)
      (bounds_of rest) k)
      (λ k _. weight-next (turned p.bound.upper p.multiplier) p.bound
      (weight (multipliers_of rest) (bounds_of rest) k) k) in
      let b = put-both c (length g.shapes) g.atoms (only p.bound.column (turned p.bound.upper p.multiplier))
      (weight (multipliers_of rest) (bounds_of rest)) in
      join (p.multiplier *ℤ entry (said p.sign p.atom).terms c) (coefficient_in rest c)
      (only p.bound.column (turned p.bound.upper p.multiplier) c)
      (put_in c (length g.shapes) g.atoms (only p.bound.column (turned p.bound.upper p.multiplier)))
      (weight (multipliers_of rest) (bounds_of rest) c)
      (put_in c (length g.shapes) g.atoms (weight (multipliers_of rest) (bounds_of rest)))
      (weight (multipliers_of (p ∷ rest)) (bounds_of (p ∷ rest)) c)
      (put_in c (length g.shapes) g.atoms (λ k. weight (multipliers_of (p ∷ rest)) (bounds_of (p ∷ rest)) k)) q i w
      (e ∙ b) where
        join : (x y d s w t v u : ℤ) → x ≡ d +ℤ s → y ≡ w +ℤ t → v ≡ d +ℤ w → u ≡ s +ℤ t → x +ℤ y ≡ v +ℤ u
        join x y d s w t v u a b e f = omega (arith, ints)

  pub beyond : (c : ℕ) → length g.shapes ≤ c → (parts : List Part) → AllByRecursion (IsPart g) parts
      → coefficient_in parts c ≡ pos 0
  beyond c l [] a = refl
  beyond c l (p ∷ rest) a =
      let e : p.multiplier *ℤ entry (said p.sign p.atom).terms c ≡ pos 0 = ap (λ z. p.multiplier *ℤ z)
      (part-beyond c l p a.0) ∙ *ℤ-zero p.multiplier in
      let i = beyond c l rest a.1 in omega (arith, ints)

  -- no variable is left in the sum
  pub nothing_left : (parts : List Part) (ms : List ℤ) → All (IsPart g) parts
      → ((c : ℕ) → weight (multipliers_of parts) (bounds_of parts) c ≡ combined ms (rows_of g) c) → (c : ℕ)
      → coefficient_in parts c ≡ pos 0
  nothing_left parts ms a h c = go (split c (length g.shapes)) where
    split : (x y : ℕ) → (x < y) ⊎ (y ≤ x)
    split x y = grind arith

    all : AllByRecursion (IsPart g) parts
    all = recursion_from_All (IsPart g) parts a

    go : (c < length g.shapes) ⊎ (length g.shapes ≤ c) → coefficient_in parts c ≡ pos 0
    go (inr l) = beyond c l parts all
    go (inl l) =
        let s = summed c l parts all in
        let e = put_in_same c (length g.shapes) g.atoms (λ k. weight (multipliers_of parts) (bounds_of parts) k)
        (λ k. combined ms (rows_of g) k) (λ k _. h k) in
        let v = combination_vanishes (length g.shapes) c (length g.shapes) g.atoms ms (below g plain) (omega arith) l in
        let w = h c in omega (arith, ints)
