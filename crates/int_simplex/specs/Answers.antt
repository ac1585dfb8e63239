-- What the calls of a tableau answer.
use Rattle.std.specs.Prelude.{ℕ, suc, ◌≡◌, ◌≢◌, ◌⊎◌, ◌<◌, ◌≤◌, Bool, true, false, List, [], ◌∷◌, ◌++◌, map, Contains, Some, Result, Ok, Err, slice_get, replicate}
use lib.IntN.{ℤ, pos}
use Rattle.proof_steps.specs.StopView.{start_view, past_view}
use Rattle.proof_steps.specs.Pivots.{Position, CanPivot, first_position}
use Rattle.proof_steps.specs.Stopped.{IsPastStep}
use Rattle.int_simplex.specs.State.{Standing, State, plain, beginning}
use Rattle.int_simplex.specs.Bounds.{crosses}
use Rattle.int_simplex.specs.Given.{last_columns}
use Rattle.int_simplex.specs.Points.{Fit, IsFraction}
use Rattle.int_simplex.specs.Farkas.{Refutes, IsRefuted, farkas_view}
use Rattle.int_simplex.specs.Leads.{LeadsTo}
use Rattle.int_simplex.specs.Sound.{IsValueOf, IsUncrossed}
use Rattle.int_simplex.specs.declared.answers.Checkup.{Checkup}
use Rattle.int_simplex.specs.declared.answers.Checkup.TheVariants.{Fits, Refuted, Pivots, Past}
use Rattle.int_simplex.specs.declared.answers.BoundFault.{BoundFault}
use Rattle.int_simplex.specs.declared.answers.BoundFault.TheVariants.{Crosses, Memory}

-- the tableau as it is made: the greatest columns of the rows are the basis, and all values are 0
pub record IsNew (s : State) (rows : List (List (ℕ × ℤ))) (count : ℕ) : Type 0 where
  pub given : s.given ≡ rows
  pub columns : s.columns ≡ count
  pub basis : s.basis ≡ last_columns rows
  pub values : s.values ≡ replicate count (pos 0, pos 1)
  pub bounds : s.bounds ≡ []
  pub usable : s.usable ≡ true

-- the bound stands, and nothing moved; or it crosses the column's other bound, and the two refute
-- each other
abbrev pub IsAsserted : State → State → Standing → Result (Unit {0}) BoundFault → Type 0
IsAsserted old new b (Ok u) = (crosses old.bounds b ≡ false) × (new ≡ record old { bounds = old.bounds ++ b ∷ [] })
IsAsserted old new b (Err (Crosses f)) =
    (crosses old.bounds b ≡ true) × Refutes old.given (old.bounds ++ b ∷ []) (farkas_view f) × (new ≡ old)
IsAsserted old new b (Err Memory) = new ≡ old

-- the column stands where it stood, or at a bound of its own that stands
abbrev pub StaysOrIsBound : State → State → ℕ → Type 0
StaysOrIsBound old new c =
    ((¬ Contains old.basis c) × (slice_get new.values c ≡ slice_get old.values c))
    ⊎ ((b : Standing) × Contains old.bounds b × (b.column ≡ c) × (slice_get new.values c ≡ Some (b.limit, pos 1)))

-- Bland's rule makes more pivots than the budget from where the check begins
abbrev pub IsLong : State → ℕ → Type 0
IsLong s budget = CanPivot s.given s.columns (map plain s.bounds) (suc budget) (first_position (beginning s budget))

-- pivots of Bland's rule, no more than the budget, lead from where the check begins to this basis and
-- these values
pub record IsRun (old new : State) (budget : ℕ) : Type 0 where
  pub last : Position
  pub made : ℕ
  pub within : made ≤ budget
  pub leads : LeadsTo old.given old.columns (map plain old.bounds) made (first_position (beginning old budget)) last
  pub basis : new.basis ≡ last.basis
  pub outside : (c : ℕ) → c < old.columns → (¬ Contains new.basis c) → slice_get new.values c ≡ Some (last.places c, pos 1)
  pub inside : (x : ℕ) (v : ℤ × ℤ) → Contains new.basis x → slice_get new.values x ≡ Some v → IsFraction v × IsValueOf new x v

-- rows and bounds are as before, and the run ends within the budget; each column outside the basis
-- stands where it stood or at a bound
pub record IsChecked (old new : State) (budget : ℕ) : Type 0 where
  pub same : new ≡ record old { basis = new.basis; values = new.values }
  pub run : IsRun old new budget
  pub short : ¬ IsLong old budget
  pub outside : (c : ℕ) → c < old.columns → (¬ Contains new.basis c) → StaysOrIsBound old new c

-- a limit of a bound that stands, or the place of a column outside the basis, if it is not 0
abbrev pub IsNumberOf : State → ℤ → Type 0
IsNumberOf s z =
    ((b : Standing) × Contains s.bounds b × (b.limit ≡ z))
    ⊎ ((z ≢ pos 0) × (c : ℕ) × (¬ Contains s.basis c) × (slice_get s.values c ≡ Some (z, pos 1)))

abbrev pub IsCheckup : State → State → ℕ → Checkup → Type 0
IsCheckup old new budget Fits = IsChecked old new budget × Fit new.given new.bounds new.values
IsCheckup old new budget (Refuted f) =
    IsChecked old new budget × IsRefuted new.given new.columns new.bounds (farkas_view f)
IsCheckup old new budget (Pivots start) =
    (start_view start ≡ beginning old budget) × IsUncrossed old.bounds × IsLong old budget
IsCheckup old new budget (Past step) = IsPastStep old.given old.columns (IsNumberOf old) (past_view step)

-- the tableau can be used again
abbrev pub IsAnswered : Checkup → Type 0
IsAnswered Fits = Unit {0}
IsAnswered (Refuted f) = Unit {0}
IsAnswered (Pivots start) = ⊥
IsAnswered (Past step) = ⊥

abbrev pub a_bound : ℕ → Bool → ℤ → ℕ → Standing
a_bound c side z n = record { column = c; upper = side; limit = z; literal = n }
