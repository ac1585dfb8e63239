-- What a true stop of pivots, or of an operation outside 128 bits, needs.
use Rattle.std.specs.Prelude.{ℕ, suc, ◌*◌, ◌<◌, ◌^◌, List, length}
use lib.IntN.{ℤ}
use Rattle.proof_steps.specs.declared.stops.Budgets.{Budgets}
use Rattle.proof_steps.specs.StopView.{pivots, past, Beginning, Operation}
use Rattle.proof_steps.specs.Rows.{Form, IsBasis, rows_of, columns_of}
use Rattle.proof_steps.specs.Pivots.{CanPivot, first_position}
use Rattle.proof_steps.specs.Stopped.{IsTrueOf}
use Rattle.cause_laws.specs.Bases.{AreAllBases}
use Rattle.cause_laws.specs.Small.{HasItsVariables, EachHasRange, HasSmallNumbers}

-- The run that a check begins has fewer pivots than 3 to the power of the columns, whether or not its bounds cross: a
-- column whose bounds cross never enters, so that it leaves at most once.
abbrev pub ChecksAlwaysEnd : Type 0
ChecksAlwaysEnd =
    (given : List (List (ℕ × ℤ))) (columns : ℕ) (b : Beginning) → IsBasis given columns b.basis
    → (n : ℕ) → CanPivot given columns b.bounds n (first_position b) → n < 3 ^ columns

-- The budget of a true stop of pivots is at least two below 3 to the power of the columns, also where bounds cross.
abbrev pub PivotsAreFew : Type 0
PivotsAreFew =
    (f : Form) (budgets : Budgets) (start : Beginning) (pairs : List (ℕ × ℤ))
    → IsTrueOf f budgets (pivots start pairs) → suc budgets.pivots < 3 ^ columns_of f

-- So it is below that times the number of bases.
abbrev pub BasesBoundPivots : Type 0
BasesBoundPivots =
    (f : Form) (budgets : Budgets) (bases : List (List ℕ)) (start : Beginning) (pairs : List (ℕ × ℤ))
    → AreAllBases (rows_of f) (columns_of f) bases → IsTrueOf f budgets (pivots start pairs)
    → budgets.pivots < length bases * 3 ^ columns_of f

-- Where each number has a range, and numbers and columns are few enough, no operation is outside 128 bits.
abbrev pub SmallNumbersStayWithin : Type 0
SmallNumbersStayWithin =
    (f : Form) (budgets : Budgets) (low high : ℕ → ℤ) (step : Operation) (pairs : List (ℕ × ℤ))
    → HasItsVariables f → EachHasRange f low high → HasSmallNumbers f
    → ¬ IsTrueOf f budgets (past step pairs)
