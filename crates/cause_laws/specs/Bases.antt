-- How many bases the rows have.
use Rattle.std.specs.Prelude.{ℕ, List, Contains, ◌↔◌}
use lib.IntN.{ℤ}
use Rattle.proof_steps.specs.Rows.{IsBasis}

-- the same columns, in any order
abbrev pub HaveSameColumns : List ℕ → List ℕ → Type 0
HaveSameColumns basis other = (c : ℕ) → Contains basis c ↔ Contains other c

-- each basis has the columns of one of these: a shortest such list is as long as there are bases
abbrev pub AreAllBases : List (List (ℕ × ℤ)) → ℕ → List (List ℕ) → Type 0
AreAllBases given columns bases =
    (basis : List ℕ) → IsBasis given columns basis
    → (other : List ℕ) × Contains bases other × HaveSameColumns basis other
