use Rattle.std.proofs.Common.{◌≡◌, drop, map, is_none}
use Rattle.lus_tree.specs.Lookup.{number_of}
use Rattle.lus_tree.specs.View.{decl_view, program_view}
use Rattle.lus_bounds.proofs.faults.is_unknown.Given as goal

-- it is unknown where it is not named by what is to come
abbrev pub invariant-loop-decl : goal.invariant-loop-decl
invariant-loop-decl l = is_none (number_of l.name (map decl_view (drop l.decl-index l.program.decls.items)))
    ≡ is_none (number_of l.name (program_view l.program))
