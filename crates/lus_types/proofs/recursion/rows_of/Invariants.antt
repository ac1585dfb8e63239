use Rattle.std.proofs.Common.{◌≡◌, ◌++◌, drop, map}
use Rattle.lus_tree.specs.View.{decl_view, program_view}
use Rattle.lus_meaning.specs.ClockFaults.{components}
use Rattle.lus_types.specs.Called.{row_of}
use Rattle.lus_types.specs.Marks.{row_view}
use Rattle.lus_types.proofs.recursion.rows_of.Given as goal

-- what is there, followed by what is to come, is all
abbrev pub invariant-loop-decl : goal.invariant-loop-decl
invariant-loop-decl l = map row_view l.rows.items
    ++ map (row_of (program_view l.declarations) l.names) (components (map decl_view (drop l.decl-index l.decls)))
    ≡ map (row_of (program_view l.declarations) l.names) (components (map decl_view l.decls))
