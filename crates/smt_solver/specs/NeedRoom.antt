-- What a true stop needs. The laws are over definitions alone: they say nothing of how a solver works.
use Rattle.std.specs.Prelude.{ℕ, ◌≡◌, ◌≢◌, ◌+◌, ◌<◌, ◌≤◌, ◌^◌, List, [], length}
use lib.IntN.{ℤ}
use Rattle.proof_steps.specs.declared.Literal.{Literal}
use Rattle.proof_steps.specs.declared.stops.Budgets.{Budgets}
use Rattle.proof_steps.specs.StopView.{conflicts, splits, pivots, past, Beginning, Operation}
use Rattle.proof_steps.specs.Rows.{Form}
use Rattle.proof_steps.specs.Splits.{AreSplits}
use Rattle.proof_steps.specs.Stopped.{IsTrueOf}
use Rattle.sat_core.specs.Few.{variable_count}
use Rattle.smt_solver.specs.Room.{HasRanges, rooms}

-- without atoms the listed clauses are fewer than 3 to the number of variables, so that a budget of
-- as many is never used up
abbrev pub FlagsBoundConflicts : Type 0
FlagsBoundConflicts =
    (f : Form) (budgets : Budgets) (clauses : List (List Literal)) (pairs : List (ℕ × ℤ))
    → f.atoms ≡ [] → IsTrueOf f budgets (conflicts clauses pairs) → budgets.conflicts < 3 ^ length f.shapes

-- without atoms there is no row, and so no split, no pivot and no operation
pub record AtomsAreNeeded (f : Form) (budgets : Budgets) : Type 0 where
  pub no_splits : (pairs : List (ℕ × ℤ)) → budgets.splits ≢ 0 → ¬ IsTrueOf f budgets (splits pairs)
  pub no_pivots : (start : Beginning) (pairs : List (ℕ × ℤ)) → ¬ IsTrueOf f budgets (pivots start pairs)
  pub no_past : (step : Operation) (pairs : List (ℕ × ℤ)) → ¬ IsTrueOf f budgets (past step pairs)

abbrev pub StopsNeedAtoms : Type 0
StopsNeedAtoms = (f : Form) (budgets : Budgets) → f.atoms ≡ [] → AtomsAreNeeded f budgets

-- where each number has a range, a split list has at most as many pairs as there is room
abbrev pub SplitsNeedRoom : Type 0
SplitsNeedRoom =
    (f : Form) (low high : ℕ → ℤ) (pairs : List (ℕ × ℤ))
    → HasRanges f low high → AreSplits f pairs → length pairs ≤ rooms f low high

-- so splits never use up a larger budget, nor conflicts one of 3 to the number of flags, atoms and room
pub record BudgetsSuffice (f : Form) (low high : ℕ → ℤ) (budgets : Budgets) : Type 0 where
  pub splits_suffice : rooms f low high < budgets.splits
      → (pairs : List (ℕ × ℤ)) → ¬ IsTrueOf f budgets (splits pairs)
  pub conflicts_suffice : 3 ^ (variable_count f [] + rooms f low high) ≤ budgets.conflicts
      → (clauses : List (List Literal)) (pairs : List (ℕ × ℤ)) → ¬ IsTrueOf f budgets (conflicts clauses pairs)

abbrev pub RangesSuffice : Type 0
RangesSuffice =
    (f : Form) (low high : ℕ → ℤ) (budgets : Budgets) → HasRanges f low high → BudgetsSuffice f low high budgets
