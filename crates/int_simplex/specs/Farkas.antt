-- Combinations of bounds that no point meets (J. Farkas, Theorie der einfachen Ungleichungen, 1902).
use Rattle.std.specs.Prelude.{ℕ, ◌≡◌, ◌==◌, Bool, true, false, cond, List, [], ◌∷◌, map, All, Contains, unsigned_abs}
use lib.IntN.{ℤ, pos, ◌+ℤ◌, ◌*ℤ◌, neg_ℤ}
use lib.Signed.{◌≤ℤ◌, ◌<ℤ◌}
use Rattle.proof_steps.specs.Rows.{combined, IsBasis, IsRow, AllDiffer}
use Rattle.int_simplex.specs.State.{Standing}
use Rattle.int_simplex.specs.declared.answers.Farkas.{Farkas}

-- `x <= u` as it stands (true), `l <= x` as `-x <= -l`
abbrev pub turned : Bool → ℤ → ℤ
turned true z = z
turned false z = neg_ℤ z

-- the column's coefficient in the sum of the bounds times their multipliers
abbrev pub weight : List ℤ → List Standing → ℕ → ℤ
weight [] bounds c = pos 0
weight (m ∷ ms) [] c = pos 0
weight (m ∷ ms) (b ∷ bs) c = cond (b.column == c) (turned b.upper m +ℤ weight ms bs c) (weight ms bs c)

-- the right side of that sum
abbrev pub limits : List ℤ → List Standing → ℤ
limits [] bounds = pos 0
limits (m ∷ ms) [] = pos 0
limits (m ∷ ms) (b ∷ bs) = (m *ℤ turned b.upper b.limit) +ℤ limits ms bs

-- the multipliers, each with the literal of its bound
abbrev pub farkas_view : Farkas → List (ℤ × ℕ)
farkas_view f = f.parts.items

-- multipliers 0 or more of bounds that stand: their sum is a whole combination of the given rows,
-- which is 0, and its right side is below 0
pub record Refutes (given : List (List (ℕ × ℤ))) (bounds : List Standing) (parts : List (ℤ × ℕ)) : Type 0 where
  pub used : List Standing
  pub multipliers : List ℤ
  pub literals : map (λ (b : Standing). b.literal) used ≡ map (λ (p : ℤ × ℕ). p.1) parts
  pub stand : All (Contains bounds) used
  pub not_negative : All (λ (p : ℤ × ℕ). pos 0 ≤ℤ p.0) parts
  pub cancels : (c : ℕ) → weight (map (λ (p : ℤ × ℕ). p.0) parts) used c ≡ combined multipliers given c
  pub absurd : limits (map (λ (p : ℤ × ℕ). p.0) parts) used <ℤ pos 0

-- the multipliers are the sizes of the entries of one row, and the columns of the bounds differ
pub record IsOfOneRow (given : List (List (ℕ × ℤ))) (columns : ℕ) (used : List Standing) (parts : List (ℤ × ℕ)) : Type 0 where
  pub basis : List ℕ
  pub column : ℕ
  pub row : List ℤ
  pub is_basis : IsBasis given columns basis
  pub is_row : IsRow given basis column row
  pub different : AllDiffer (map (λ (b : Standing). b.column) used)
  pub sizes : map (λ (p : ℤ × ℕ). p.0) parts ≡ map (λ (b : Standing). pos (unsigned_abs (combined row given b.column))) used

-- one row shows that the bounds leave no point
pub record IsRefuted (given : List (List (ℕ × ℤ))) (columns : ℕ) (bounds : List Standing) (parts : List (ℤ × ℕ)) : Type 0 where
  pub refutes : Refutes given bounds parts
  pub one_row : IsOfOneRow given columns refutes.used parts
