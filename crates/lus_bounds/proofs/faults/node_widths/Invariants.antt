use Rattle.std.proofs.Common.{◌≡◌, ◌≤◌, ◌++◌, drop, map}
use Rattle.lus_tree.specs.View.{decl_view}
use Rattle.lus_bounds.specs.Widths.{widths_by}
use Rattle.lus_bounds.proofs.faults.node_widths.Given as goal

-- what is there, followed by what is to come, is all
abbrev pub invariant-loop-decl : goal.invariant-loop-decl
invariant-loop-decl l = record {
  few : l.before ≤ l.decl-index;
  listed : l.widths.items ++ widths_by l.sizes l.before (map decl_view (drop l.decl-index l.decls))
      ≡ widths_by l.sizes 0 (map decl_view l.decls);
}
