use Rattle.std.proofs.Common.{◌≡◌, ◌++◌, drop, map}
use Rattle.lus_tree.specs.View.{expr_view}
use Rattle.lus_order.specs.Library.{texts_seen}
use Rattle.lus_order.specs.Rows.{listed_row, modes_view}
use Rattle.lus_order.proofs.modes.push_listed.Given as goal

abbrev pub invariant-loop-argument : goal.invariant-loop-argument
invariant-loop-argument l = record {
  together : l.place ≡ l.argument-index;
  rest : l.row.items ++ listed_row l.clocks l.callees (modes_view l.modes) l.reads (texts_seen (drop l.place l.inputs))
      (map expr_view (drop l.argument-index l.arguments))
      ≡ l.initial.row.items ++ listed_row l.clocks l.callees (modes_view l.modes) l.reads (texts_seen l.inputs) (map expr_view l.arguments);
}
