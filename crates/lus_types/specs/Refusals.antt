-- Why a program is refused.
use Rattle.std.specs.Prelude.{◌≡◌, ◌⊎◌}
use Rattle.lus_tree.specs.Tree.{Program}
use Rattle.lus_tree.specs.Reason.{Refused, memory}
use Rattle.lus_meaning.specs.Faults.{IsFirst, fault}
use Rattle.lus_meaning.specs.NameFaults.{start_of_text}
use Rattle.lus_meaning.specs.Refusals.{IsTypingFault}

-- memory ran out, which is said at 1:1, or it is the first fault of names, types and numbers
abbrev pub IsRefusal : Program → Refused → Type 0
IsRefusal p r = (r ≡ fault memory start_of_text) ⊎ IsFirst (IsTypingFault p) r
