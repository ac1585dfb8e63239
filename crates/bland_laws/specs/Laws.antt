-- The laws of the runs by Bland's rule.
use Rattle.std.specs.Prelude.{ℕ, zero, suc, ◌≡◌, ◌<◌, ◌^◌, Bool, List, Some, Contains, ◌↔◌}
use lib.IntN.{ℤ}
use lib.Signed.{◌≤ℤ◌}
use Rattle.proof_steps.specs.StopView.{Beginning}
use Rattle.proof_steps.specs.Rows.{Form, IsBasis, columns_of}
use Rattle.proof_steps.specs.Pivots.{Position, Pivots, CanPivot, first_position, lower, upper}
use Rattle.proof_steps.specs.Stopped.{IsLong}

-- n pivots lead from s to t
abbrev pub Leads : List (List (ℕ × ℤ)) → ℕ → List (ℕ × Bool × ℤ) → ℕ → Position → Position → Type 0
Leads given columns bounds zero s t = s ≡ t
Leads given columns bounds (suc n) s t =
    (u : Position) × Pivots given columns bounds s u × Leads given columns bounds n u t

-- no column's bounds cross
abbrev pub LeaveRoom : List (ℕ × Bool × ℤ) → Type 0
LeaveRoom bounds = (c : ℕ) (l u : ℤ) → lower bounds c ≡ Some l → upper bounds c ≡ Some u → l ≤ℤ u

pub record IsWithin (bounds : List (ℕ × Bool × ℤ)) (c : ℕ) (z : ℤ) : Type 0 where
  pub from_below : (l : ℤ) → lower bounds c ≡ Some l → l ≤ℤ z
  pub from_above : (u : ℤ) → upper bounds c ≡ Some u → z ≤ℤ u

-- a basis, outside which the columns stand within their bounds
pub record CanBegin (given : List (List (ℕ × ℤ))) (columns : ℕ) (bounds : List (ℕ × Bool × ℤ)) (s : Position) : Type 0 where
  pub basis : IsBasis given columns s.basis
  pub within : (c : ℕ) → c < columns → (¬ Contains s.basis c) → IsWithin bounds c (s.places c)

-- the same columns in the basis, and the others at the same places
pub record IsSame (columns : ℕ) (s t : Position) : Type 0 where
  pub basis : (c : ℕ) → Contains s.basis c ↔ Contains t.basis c
  pub places : (c : ℕ) → c < columns → (¬ Contains s.basis c) → s.places c ≡ t.places c

-- What a run begins with holds after each of its pivots, too.
abbrev pub PremisesPassOn : Type 0
PremisesPassOn =
    (given : List (List (ℕ × ℤ))) (columns : ℕ) (bounds : List (ℕ × Bool × ℤ)) → LeaveRoom bounds
    → (n : ℕ) (s t : Position) → CanBegin given columns bounds s → Leads given columns bounds n s t
    → CanBegin given columns bounds t

-- One or more pivots never lead back.
abbrev pub NoStateTwice : Type 0
NoStateTwice =
    (given : List (List (ℕ × ℤ))) (columns : ℕ) (bounds : List (ℕ × Bool × ℤ)) → LeaveRoom bounds
    → (n : ℕ) (s t : Position) → CanBegin given columns bounds s → Leads given columns bounds (suc n) s t
    → ¬ IsSame columns s t

-- The positions of one run differ pairwise.
abbrev pub StatesDiffer : Type 0
StatesDiffer =
    (given : List (List (ℕ × ℤ))) (columns : ℕ) (bounds : List (ℕ × Bool × ℤ)) → LeaveRoom bounds
    → (k n : ℕ) (s u t : Position) → CanBegin given columns bounds s → Leads given columns bounds k s u
    → Leads given columns bounds (suc n) u t → ¬ IsSame columns u t

-- A run has fewer pivots than 3 to the power of the columns: the greatest column that moves enters at most once and
-- leaves at most once, and before, between and after these two only columns below it move.
abbrev pub RunsEnd : Type 0
RunsEnd =
    (given : List (List (ℕ × ℤ))) (columns : ℕ) (bounds : List (ℕ × Bool × ℤ)) → LeaveRoom bounds
    → (n : ℕ) (s : Position) → CanBegin given columns bounds s → CanPivot given columns bounds n s → n < 3 ^ columns

-- So has the run that a check begins: it begins with each column outside the basis moved into its bounds.
abbrev pub ChecksEnd : Type 0
ChecksEnd =
    (given : List (List (ℕ × ℤ))) (columns : ℕ) (b : Beginning) → IsBasis given columns b.basis → LeaveRoom b.bounds
    → (n : ℕ) → CanPivot given columns b.bounds n (first_position b) → n < 3 ^ columns

-- So a budget that a stop truly says was too small, where no bounds cross, is below that.
abbrev pub SmallBudgets : Type 0
SmallBudgets =
    (f : Form) (pairs : List (ℕ × ℤ)) (start : Beginning) → LeaveRoom start.bounds → IsLong f pairs start
    → suc start.pivots < 3 ^ columns_of f
