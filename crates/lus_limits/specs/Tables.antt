-- The declarations of a program by their names, and what callers need of each.
use Rattle.std.specs.Prelude.{◌≡◌, map}
use Rattle.lus_tree.specs.Tree.{Program}
use Rattle.lus_meaning.specs.ClockFaults.{components}
use Rattle.lus_streams.specs.Owner.{owner_view}
use Rattle.lus_limits.specs.Needed.{AllKnown, names_of}
use Rattle.lus_limits.specs.declared.settling.Table.{Table}

pub record IsTableOf (p : Program) (t : Table) : Type 0 where
  pub names : t.names ≡ names_of p
  pub parts : map owner_view t.parts.items ≡ components p
  pub known : AllKnown p t.known.items
