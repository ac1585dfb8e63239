-- What the check of limits refuses.
use Rattle.std.specs.Prelude.{◌≡◌, Option}
use Rattle.std.proofs.Math.Logic.{◌⊎◌}
use Rattle.lus_tree.specs.Reason.{Refused, memory}
use Rattle.lus_tree.specs.Tree.{Name, Program}
use Rattle.lus_meaning.specs.Faults.{IsFirst, fault}
use Rattle.lus_meaning.specs.NameFaults.{start_of_text}
use Rattle.lus_meaning.specs.Refusals.{IsLimitFault}

-- memory ran out, which is said at 1:1, or it is a first fault of limits
abbrev pub IsRefusal : Program → Option Name → Refused → Type 0
IsRefusal p main r = (r ≡ fault memory start_of_text) ⊎ IsFirst (IsLimitFault p main) r
