use Rattle.std.proofs.Common.{◌≡◌, ◌++◌, drop, map}
use Rattle.lus_tree.specs.View.{decl_view}
use Rattle.lus_meaning.specs.ClockFaults.{components}
use Rattle.lus_streams.specs.Owner.{owner_view}
use Rattle.sys_tables.proofs.tables.parts_of.Given as goal

-- what is there, followed by what is to come, is all
abbrev pub invariant-loop-decl : goal.invariant-loop-decl
invariant-loop-decl l = map owner_view l.parts.items ++ components (map decl_view (drop l.decl-index l.program.decls.items))
    ≡ components (map decl_view l.program.decls.items)
