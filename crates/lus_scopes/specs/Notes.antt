-- That faults are noted: what was the least of some faults is then the least of those and of these.
use Rattle.std.specs.Prelude.{◌++◌, List, Option}
use Rattle.lus_tree.specs.Reason.{Refused}
use Rattle.lus_scopes.specs.Least.{IsLeast}

abbrev pub Notes : Option Refused → Option Refused → List Refused → Type 0
Notes old new fs = (gs : List Refused) → IsLeast old gs → IsLeast new (gs ++ fs)
