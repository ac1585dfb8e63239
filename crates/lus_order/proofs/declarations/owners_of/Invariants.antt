use Rattle.std.proofs.Common.{◌≡◌, ◌++◌, drop, map}
use Rattle.lus_tree.specs.View.{decl_view}
use Rattle.lus_meaning.specs.ClockFaults.{components}
use Rattle.lus_streams.specs.Owner.{owner_view}
use Rattle.lus_order.proofs.declarations.owners_of.Given as goal

abbrev pub invariant-loop-decl : goal.invariant-loop-decl
invariant-loop-decl l = map owner_view l.owners.items ++ components (map decl_view (drop l.decl-index l.program.decls.items))
    ≡ components (map decl_view l.program.decls.items)
