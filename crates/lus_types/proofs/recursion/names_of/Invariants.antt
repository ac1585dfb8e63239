use Rattle.std.proofs.Common.{◌≡◌, [], drop, map}
use Rattle.lus_tree.specs.View.{decl_view}
use Rattle.lus_types.specs.Called.{names_behind}
use Rattle.lus_types.proofs.recursion.names_of.Given as goal

abbrev pub invariant-loop-decl : goal.invariant-loop-decl
invariant-loop-decl l = names_behind l.names (map decl_view (drop l.decl-index l.program.decls.items)) ≡ names_behind [] (map decl_view l.program.decls.items)
