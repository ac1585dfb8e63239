-- What calls make of a tableau, one after the other.
use Rattle.std.specs.Prelude.{ℕ, ◌≡◌, ◌⊎◌, List, [], ◌∷◌, take, Contains, Some, Result, slice_get}
use lib.IntN.{pos}
use Rattle.int_simplex.specs.State.{Standing, State}
use Rattle.int_simplex.specs.Answers.{IsAsserted, IsCheckup, IsAnswered}
use Rattle.int_simplex.specs.declared.answers.BoundFault.{BoundFault}
use Rattle.int_simplex.specs.declared.answers.Checkup.{Checkup}

-- a call that changes a tableau: of a bound, to a mark, or with a budget
pub data Call : Type 0 where
  asserted : Standing → Call
  undone : ℕ → Call
  checked : ℕ → Call

-- what the call leaves, if the tableau can be used again
abbrev pub IsLeft : State → Call → State → Type 0
IsLeft old (asserted b) new = (r : Result (Unit {0}) BoundFault) × IsAsserted old new b r
IsLeft old (undone mark) new = new ≡ record old { bounds = take mark old.bounds }
IsLeft old (checked budget) new = (a : Checkup) × IsCheckup old new budget a × IsAnswered a

-- calls, each with the state that it leaves
abbrev pub AreCalls : State → List (Call × State) → Type 0
AreCalls s [] = Unit
AreCalls s ((call, new) ∷ rest) = IsLeft s call new × AreCalls new rest

abbrev pub after : State → List (Call × State) → State
after s [] = s
after s ((call, new) ∷ rest) = after new rest

-- the bounds that were asserted, undone and refused ones included
abbrev pub asserted_in : List (Call × State) → List Standing
asserted_in [] = []
asserted_in ((asserted b, new) ∷ rest) = b ∷ asserted_in rest
asserted_in ((undone mark, new) ∷ rest) = asserted_in rest
asserted_in ((checked budget, new) ∷ rest) = asserted_in rest

-- the column's value is 0, or the limit of a bound of its own in the list
abbrev pub StandsAt : List Standing → State → ℕ → Type 0
StandsAt bounds s c =
    (slice_get s.values c ≡ Some (pos 0, pos 1))
    ⊎ ((b : Standing) × Contains bounds b × (b.column ≡ c) × (slice_get s.values c ≡ Some (b.limit, pos 1)))
