-- What contracts see of a place.
use Rattle.lus_tree.specs.Tree.{Component}
use Rattle.lus_streams.specs.declared.names.Names.{Names}
use Rattle.lus_streams.specs.Owner.{owner_view}

-- the declaration whose names they are
abbrev pub names_view : Names → Component
names_view s = owner_view s.owner
