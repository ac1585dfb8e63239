use Rattle.std.proofs.Common.{◌≡◌, map, drop}
use Rattle.lus_tree.specs.View.{decl_view}
use Rattle.lus_tree.specs.Lookup.{node_at}
use Rattle.lus_tree.proofs.declaration.Program.node.Given as goal

abbrev pub invariant-loop-decl : goal.invariant-loop-decl
invariant-loop-decl l = node_at l.number (map decl_view l.self.decls.items) ≡ node_at l.before (map decl_view (drop l.decl-index l.self.decls.items))
