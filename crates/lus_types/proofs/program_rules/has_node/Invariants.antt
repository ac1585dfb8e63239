use Rattle.std.proofs.Common.{◌≡◌, drop, map}
use Rattle.lus_tree.specs.Lookup.{nodes_of}
use Rattle.lus_tree.specs.View.{decl_view}
use Rattle.lus_types.proofs.program_rules.has_node.Given as goal

abbrev pub invariant-loop-decl : goal.invariant-loop-decl
invariant-loop-decl l = nodes_of (map decl_view (drop l.decl-index l.program.decls.items)) ≡ nodes_of (map decl_view l.program.decls.items)
