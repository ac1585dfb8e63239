-- What makes a solver's splits and stops true.
use Rattle.std.specs.Prelude.{ℕ, suc, ◌≡◌, ◌<◌, true, List, length, map, Contains}
use lib.IntN.{ℤ}
use Rattle.proof_steps.specs.declared.Literal.TheVariants.{Atom}
use Rattle.proof_steps.specs.Rows.{Form, rows_of, columns_of}
use Rattle.proof_steps.specs.Bounds.{split_atom, atoms_with}
use Rattle.proof_steps.specs.StopView.{Operation}
use Rattle.proof_steps.specs.Splits.{IsStand, IsSplit}
use Rattle.proof_steps.specs.Stopped.{IsLong, IsNumberOf, IsPastStep}
use Rattle.cnf_maker.specs.Plain.{IsPlain}
use Rattle.int_simplex.specs.State.{State, places_of, beginning}
use Rattle.int_simplex.specs.Answers.{IsChecked, IsLong as IsLongFrom, IsNumberOf as IsNumberIn}
use Rattle.int_simplex.specs.Sound.{IsSound}
use Rattle.int_simplex.specs.Points.{Fit}
use Rattle.int_cuts.specs.Splits.{IsFirstBroken}
use Rattle.sat_core.specs.declared.assigned.Assigned.{Assigned}
use Rattle.sat_core.specs.Trail.{HasValue}
use Rattle.smt_solver.specs.declared.numbers.meanings.Meaning.{Meaning}
use Rattle.smt_solver.specs.Asserting.{bounds_at}
use Rattle.smt_solver.specs.Conflicting.{AreMeaningsOf}
use Rattle.smt_solver.specs.Growing.{grown}
use Rattle.smt_solver.specs.Run.{IsFull}

-- a tableau of the query's rows, with the bounds of the true literals; each column outside the basis
-- stands at 0, a bound of the query or an end of a split
pub record IsTableauFor (f : Form) (pairs : List (ℕ × ℤ)) (ms : List Meaning) (trail : List Assigned) (t : State) : Type 0 where
  pub meanings : AreMeaningsOf (grown f (map split_atom pairs)) ms
  pub sound : IsSound t
  pub given : t.given ≡ rows_of f
  pub columns : t.columns ≡ columns_of f
  pub bounds : t.bounds ≡ bounds_at trail 1 ms
  pub stand : (c : ℕ) → (¬ Contains t.basis c) → IsStand f pairs c (places_of t.values c)

-- its values meet them
pub record IsFitting (f : Form) (pairs : List (ℕ × ℤ)) (ms : List Meaning) (trail : List Assigned) (t : State) : Type 0 where
  pub tableau : IsTableauFor f pairs ms trail t
  pub fit : Fit t.given t.bounds t.values

-- each atom has a value, and each clause of the query a true literal
pub record IsFullOver (f : Form) (pairs : List (ℕ × ℤ)) (trail : List Assigned) : Type 0 where
  pub full : IsFull f trail
  pub atoms : (n : ℕ) → n < length (atoms_with f pairs) → HasValue trail (Atom (suc n) true)

-- then the least column whose value is not whole is a number that can be split at its floor
abbrev pub BrokenNumbersSplit : Type 0
BrokenNumbersSplit =
    (f : Form) (pairs : List (ℕ × ℤ)) (ms : List Meaning) (trail : List Assigned) (t : State) (x : ℕ) (z : ℤ)
    → IsPlain f → IsFitting f pairs ms trail t → IsFullOver f pairs trail → IsFirstBroken t.values x z
    → IsSplit f pairs x z

-- where Bland's rule makes more pivots than the budget from such a tableau, it does so over the query
abbrev pub LongChecksAreLong : Type 0
LongChecksAreLong =
    (f : Form) (pairs : List (ℕ × ℤ)) (ms : List Meaning) (trail : List Assigned) (t : State) (budget : ℕ)
    → IsTableauFor f pairs ms trail t → IsLongFrom t budget → IsLong f pairs (beginning t budget)

-- an operation of its check that is outside 128 bits is one of the query
abbrev pub PastChecksArePast : Type 0
PastChecksArePast =
    (f : Form) (pairs : List (ℕ × ℤ)) (ms : List Meaning) (trail : List Assigned) (t : State) (step : Operation)
    → IsTableauFor f pairs ms trail t → IsPastStep t.given t.columns (IsNumberIn t) step
    → IsPastStep (rows_of f) (columns_of f) (IsNumberOf f pairs) step

-- a check that ends leaves such a tableau
abbrev pub ChecksKeepTableaus : Type 0
ChecksKeepTableaus =
    (f : Form) (pairs : List (ℕ × ℤ)) (ms : List Meaning) (trail : List Assigned) (t u : State) (budget : ℕ)
    → IsTableauFor f pairs ms trail t → IsChecked t u budget → IsSound u → IsTableauFor f pairs ms trail u
