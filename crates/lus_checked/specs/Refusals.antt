-- Why a program whose names, types, numbers and clocks are right is refused.
use Rattle.std.specs.Prelude.{◌≡◌, Option}
use Rattle.lus_tree.specs.Tree.{Name, Program}
use Rattle.lus_tree.specs.Reason.{Refused, memory}
use Rattle.lus_meaning.specs.EquationFaults.{IsEquationFault}
use Rattle.lus_meaning.specs.Faults.{IsFirst, fault}
use Rattle.lus_meaning.specs.NameFaults.{start_of_text}
use Rattle.lus_meaning.specs.Refusals.{FollowsRules, IsLimitFault}

-- memory ran out, which is said at 1:1; it is a first fault of equations; or there is none, and it is a first of the limits
pub data IsRefusal (p : Program) (main : Option Name) (r : Refused) : Type 0 where
  no_memory : r ≡ fault memory start_of_text → IsRefusal p main r
  by_equations : IsFirst (IsEquationFault p) r → IsRefusal p main r
  by_limits : FollowsRules p → IsFirst (IsLimitFault p main) r → IsRefusal p main r
