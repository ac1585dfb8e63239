-- The ranges of a plan's numbers.
use Rattle.std.specs.Prelude.{ℕ, ◌≤◌}
use Rattle.board_core.specs.declared.plan.Plan.{Plan}

abbrev pub IsWithin : (least most n : ℕ) → Type 0
IsWithin least most n = (least ≤ n) × (n ≤ most)

pub record IsPlan (plan : Plan) : Type 0 where
  pub depth : IsWithin 1 1000 plan.depth
  pub frames : IsWithin 1 1000 plan.frames
  pub blocked : IsWithin 1 1000000 plan.blocked
  pub conflicts : IsWithin 1 1000000000 plan.budgets.conflicts
  pub splits : IsWithin 1 1000000000 plan.budgets.splits
  pub pivots : IsWithin 1 1000000000 plan.budgets.pivots
