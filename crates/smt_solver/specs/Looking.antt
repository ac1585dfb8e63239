-- What a look at the numbers finds at a full assignment.
use Rattle.std.specs.Prelude.{ℕ, ◌≡◌, ◌⊎◌, true, List, Some, slice_get}
use lib.IntN.{ℤ}
use Rattle.proof_steps.specs.StopView.{past_view}
use Rattle.proof_steps.specs.Rows.{Form, rows_of, columns_of}
use Rattle.proof_steps.specs.Stopped.{IsNumberOf, IsPastStep}
use Rattle.proof_steps.specs.declared.stops.PastStep.{PastStep}
use Rattle.int_simplex.specs.State.{State}
use Rattle.int_simplex.specs.Answers.{IsCheckup, IsChecked}
use Rattle.int_simplex.specs.declared.answers.Checkup.TheVariants as k
use Rattle.int_simplex.specs.Farkas.{IsRefuted}
use Rattle.int_simplex.specs.Sound.{IsSound}
use Rattle.sat_core.specs.declared.assigned.Assigned.{Assigned}
use Rattle.smt_solver.specs.declared.numbers.meanings.Meaning.{Meaning}
use Rattle.smt_solver.specs.declared.numbers.looking.Look.{Look}
use Rattle.smt_solver.specs.declared.numbers.looking.Look.TheVariants.{Fits, Counted, Pivots, Past}
use Rattle.smt_solver.specs.Asserting.{bounds_at}
use Rattle.smt_solver.specs.Run.{Standing}
use Rattle.smt_solver.specs.Turning.{IsCounted, IsRefutedFor}

-- the tableau with the bounds that the atoms mean by their values, and no other
abbrev pub asserted : State → List Assigned → List Meaning → State
asserted t trail ms = record t { bounds = bounds_at trail 1 ms }

-- an operation of the step of a refutation that a check of the first tableau ended with; a true stop of the
-- query whose tableau it is
pub record IsStepPast (s : Standing) (t u : State) (ms : List Meaning) (pivots : ℕ) (step : PastStep) : Type 0 where
  pub parts : List (ℤ × ℕ)
  pub first : List (ℕ × ℤ)
  pub is_first : slice_get u.given 0 ≡ Some first
  pub checked : IsChecked t u pivots
  pub sound : IsSound u
  pub refuted : IsRefuted u.given u.columns u.bounds parts
  pub is_past : (f : Form) (pairs : List (ℕ × ℤ)) → IsRefutedFor f pairs s ms u parts
      → IsPastStep (rows_of f) (columns_of f) (IsNumberOf f pairs) (past_view step)

-- a check ended
pub record HasChecked (t u : State) (pivots : ℕ) : Type 0 where
  pub before : IsSound t
  pub after : IsSound u
  pub checked : IsChecked t u pivots

-- the tableau can be used again: no value moved, or a check ended
pub record IsLeft (old new : State) (trail : List Assigned) (ms : List Meaning) (pivots : ℕ) : Type 0 where
  pub usable : new.usable ≡ true
  pub moved : (new ≡ record old { bounds = new.bounds }) ⊎ HasChecked (asserted old trail ms) new pivots

-- from the tableau with the bounds
abbrev pub LooksFrom : Standing → Standing → State → State → List Meaning → ℕ → Look → Type 0
LooksFrom old new t u ms pivots Fits = (new ≡ old) × (u.usable ≡ true) × IsSound u × IsCheckup t u pivots k.Fits
LooksFrom old new t u ms pivots Counted = IsCounted old new × (u.usable ≡ true) × IsSound u × IsChecked t u pivots
LooksFrom old new t u ms pivots (Pivots start) = IsCheckup t u pivots (k.Pivots start)
LooksFrom old new t u ms pivots (Past step) = IsCheckup t u pivots (k.Past step) ⊎ IsStepPast old t u ms pivots step

-- of the standing and the tableau before and after
abbrev pub Looks : Standing → Standing → State → State → List Meaning → ℕ → Look → Type 0
Looks old new t u ms pivots Counted = IsCounted old new × IsLeft t u old.search.trail ms pivots
Looks old new t u ms pivots Fits =
    IsSound (asserted t old.search.trail ms) × LooksFrom old new (asserted t old.search.trail ms) u ms pivots Fits
Looks old new t u ms pivots (Pivots start) =
    IsSound (asserted t old.search.trail ms) × LooksFrom old new (asserted t old.search.trail ms) u ms pivots (Pivots start)
Looks old new t u ms pivots (Past step) =
    IsSound (asserted t old.search.trail ms) × LooksFrom old new (asserted t old.search.trail ms) u ms pivots (Past step)
