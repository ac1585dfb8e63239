use Rattle.std.proofs.Common.{◌≡◌, ◌+◌, ◌≤◌, map, option_map, drop}
use Rattle.lus_tree.specs.View.{decl_view}
use Rattle.lus_tree.specs.Lookup.{number_of}
use Rattle.lus_checked.proofs.main_node.named.Given as goal

-- as many components as are passed come before the one that is sought
abbrev pub invariant-loop-decl : goal.invariant-loop-decl
invariant-loop-decl l = record {
  within : l.number ≤ l.decl-index;
  found : number_of l.name (map decl_view l.program.decls.items) ≡ option_map (λ k. l.number + k)
      (number_of l.name (map decl_view (drop l.decl-index l.program.decls.items)));
}
