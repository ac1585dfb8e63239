-- Nothing behind a list.
use Rattle.std.proofs.Common.{List, [], ◌++◌, Option}
use Rattle.std.proofs.lemmas.List.{append-nil}
use Rattle.lus_tree.specs.Reason.{Refused}
use Rattle.lus_scopes.specs.Least.{IsLeast}

pub nothing_behind : (o : Option Refused) (fs : List Refused) → IsLeast o fs → IsLeast o (fs ++ [])
nothing_behind o fs i = rw (append-nil fs) i
