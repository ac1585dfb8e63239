-- A cut's line sums what literals mean to the divisor times the cut's atom.
use Rattle.std.specs.Prelude.{ℕ, ◌≡◌, ◌⊎◌, ◌<◌, ◌≤◌, List, length, All}
use Rattle.std.specs.List.{AllByRecursion}
use Rattle.std.proofs.Common.{sym, ◌∙◌, ap, arith, inl, inr}
use Rattle.std.proofs.lemmas.Int.{ints}
use Rattle.std.proofs.lemmas.List.Elements.{recursion_from_All}
use lib.IntN.{ℤ, pos, ◌+ℤ◌, ◌*ℤ◌, *ℤ-zero}
use Rattle.proof_steps.specs.Rows.{Form, entry, combined, rows_of}
use Rattle.int_simplex.specs.Farkas.{weight}
use Rattle.cnf_maker.specs.Plain.{IsPlain}
use Rattle.line_laws.specs.Lines.{Part, IsPart, IsVariable, multipliers_of, bounds_of, coefficient_in}
use Rattle.line_laws.proofs.Substituted.{put_in, put_in_same, no-multipliers, entry-beyond, combination_vanishes}
use Rattle.line_laws.proofs.Summed.{below, put-both, summed, beyond}

module _ (g : Form) (plain : IsPlain g) (parts : List Part) (ms : List ℤ) (d : ℤ) (terms : List (ℕ × ℤ))
    (a : All (IsPart g) parts)
    (v : All (λ (t : ℕ × ℤ). IsVariable g t.0) terms)
    (h : (c : ℕ) → weight (multipliers_of parts) (bounds_of parts) c +ℤ combined ms (rows_of g) c
    ≡ d *ℤ entry terms c) where
  all : AllByRecursion (IsPart g) parts
  all = recursion_from_All (IsPart g) parts a

  far : (c : ℕ) → length g.shapes ≤ c → d *ℤ entry terms c ≡ pos 0
  far c l =
      ap (λ z. d *ℤ z) (entry-beyond (length g.shapes) c terms
      (recursion_from_All (λ (t : ℕ × ℤ). IsVariable g t.0) terms v) l) ∙ *ℤ-zero d

  sums : ℕ → ℤ
  sums k = weight (multipliers_of parts) (bounds_of parts) k

  rows : ℕ → ℤ
  rows k = combined ms (rows_of g) k

  cancels : (c : ℕ) → put_in c (length g.shapes) g.atoms sums +ℤ put_in c (length g.shapes) g.atoms rows ≡ pos 0
  unfolding sums rows
  cancels c =
      sym (put-both c (length g.shapes) g.atoms sums rows)
      ∙ put_in_same c (length g.shapes) g.atoms (λ k. sums k +ℤ rows k) (λ k. pos 0) (λ k l. h k ∙ far k l)
      ∙ no-multipliers c (length g.shapes) g.atoms

  pub line_sums : (c : ℕ) → coefficient_in parts c ≡ d *ℤ entry terms c
  unfolding sums rows
  line_sums c = go (split c (length g.shapes)) where
    split : (x y : ℕ) → (x < y) ⊎ (y ≤ x)
    split x y = grind arith

    go : (c < length g.shapes) ⊎ (length g.shapes ≤ c) → coefficient_in parts c ≡ d *ℤ entry terms c
    go (inr l) = beyond g plain c l parts all ∙ sym (far c l)
    go (inl l) =
        let s = summed g plain c l parts all in
        let e = cancels c in
        let r = combination_vanishes (length g.shapes) c (length g.shapes) g.atoms ms (below g plain) (omega arith) l in
        let w = h c in omega (arith, ints)
