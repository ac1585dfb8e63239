-- The laws of a tableau's checks.
use Rattle.std.specs.Prelude.{ℕ, suc, ◌<◌, ◌^◌, map}
use Rattle.proof_steps.specs.declared.stops.Start.{Start}
use Rattle.proof_steps.specs.Pivots.{Position, first_position}
use Rattle.int_simplex.specs.State.{State, plain, beginning}
use Rattle.int_simplex.specs.Sound.{IsSound}
use Rattle.int_simplex.specs.Leads.{LeadsTo}
use Rattle.int_simplex.specs.Answers.{IsCheckup}
use Rattle.int_simplex.specs.declared.answers.Checkup.TheVariants.{Pivots}
use Rattle.bland_laws.specs.Laws.{IsSame}

-- A budget that a check answers to be too small is at least two below 3 to the power of the columns.
abbrev pub LargeBudgetsAreEnough : Type 0
LargeBudgetsAreEnough =
    (old new : State) (budget : ℕ) (start : Start) → IsSound old → IsCheckup old new budget (Pivots start)
    → suc budget < 3 ^ old.columns

-- The positions of the run from where a check begins differ pairwise.
abbrev pub NoStateTwice : Type 0
NoStateTwice =
    (s : State) (budget k n : ℕ) (t u : Position) → IsSound s
    → LeadsTo s.given s.columns (map plain s.bounds) k (first_position (beginning s budget)) t
    → LeadsTo s.given s.columns (map plain s.bounds) (suc n) t u → ¬ IsSame s.columns t u
