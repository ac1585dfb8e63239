-- Numbers that leave room to 128 bits.
use Rattle.std.specs.Prelude.{ℕ, ◌≡◌, ◌≢◌, false, ◌^◌, List, [], All}
use lib.IntN.{ℤ, pos, neg_ℤ}
use lib.Signed.{◌≤ℤ◌, ◌<ℤ◌}
use Rattle.proof_steps.specs.View.{Inequality}
use Rattle.cnf_maker.specs.Plain.{IsSmallAtom}
use Rattle.smt_solver.specs.declared.numbers.meanings.Meaning.{Meaning}

-- the limit is from -2^126 to 2^126 - 1, and above -2^126 where the column ends there from below
pub record IsNear (m : Meaning) : Type 0 where
  pub above : neg_ℤ (pos (2 ^ 126)) ≤ℤ m.limit
  pub below : m.limit <ℤ pos (2 ^ 126)
  pub lower : m.upper ≡ false → neg_ℤ (pos (2 ^ 126)) <ℤ m.limit

-- an atom with a term, no coefficient 0, and small numbers
pub record IsMeasured (i : Inequality) : Type 0 where
  pub some_term : i.terms ≢ []
  pub not_zero : All (λ (t : ℕ × ℤ). t.1 ≢ pos 0) i.terms
  pub small : IsSmallAtom i

abbrev pub AreMeasured : List Inequality → Type 0
AreMeasured atoms = All IsMeasured atoms

-- from -2^126 to 2^126 - 1
pub record IsRoomy (z : ℤ) : Type 0 where
  pub low : neg_ℤ (pos (2 ^ 126)) ≤ℤ z
  pub high : z <ℤ pos (2 ^ 126)
