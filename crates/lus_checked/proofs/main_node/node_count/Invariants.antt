use Rattle.std.proofs.Common.{◌≡◌, ◌+◌, ◌≤◌, map, length, drop}
use Rattle.lus_tree.specs.View.{decl_view}
use Rattle.lus_tree.specs.Lookup.{nodes_of}
use Rattle.lus_checked.proofs.main_node.node_count.Given as goal

abbrev pub invariant-loop-decl : goal.invariant-loop-decl
invariant-loop-decl l = record {
  within : l.count ≤ l.decl-index;
  all : l.count + length (nodes_of (map decl_view (drop l.decl-index l.program.decls.items)))
      ≡ length (nodes_of (map decl_view l.program.decls.items));
}
