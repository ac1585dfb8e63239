-- Runs of Bland's rule from one position to another.
use Rattle.std.specs.Prelude.{ℕ, zero, suc, ◌≡◌, Bool, List}
use lib.IntN.{ℤ}
use Rattle.proof_steps.specs.Pivots.{Position, Pivots}

-- n pivots lead from s to t
abbrev pub LeadsTo : List (List (ℕ × ℤ)) → ℕ → List (ℕ × Bool × ℤ) → ℕ → Position → Position → Type 0
LeadsTo given columns bounds zero s t = s ≡ t
LeadsTo given columns bounds (suc n) s t =
    (u : Position) × Pivots given columns bounds s u × LeadsTo given columns bounds n u t
