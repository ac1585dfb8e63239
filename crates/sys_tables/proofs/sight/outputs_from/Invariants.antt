use Rattle.std.proofs.Common.{◌≡◌, ◌++◌, ◌+◌, map, drop}
use Rattle.lus_tree.specs.View.{param_view}
use Rattle.sys_texts.specs.Views.{output_view}
use Rattle.sys_tables.specs.Numbers.{outputs_from}
use Rattle.sys_tables.proofs.sight.outputs_from.Given as goal

-- what is there, and what is to come, is all
abbrev pub invariant-loop-output : goal.invariant-loop-output
invariant-loop-output l = record {
  at : l.number ≡ l.first + l.output-index;
  held_at : l.holder ≡ l.held + l.output-index;
  found :
      map output_view l.found.items
      ++ outputs_from l.way l.number l.holder l.missing (map param_view (drop l.output-index l.outputs))
      ≡ outputs_from l.way l.first l.held l.missing (map param_view l.outputs);
}
