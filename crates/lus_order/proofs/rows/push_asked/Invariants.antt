use Rattle.std.proofs.Common.{◌≡◌, ◌++◌, drop, map}
use Rattle.lus_tree.specs.View.{named_view}
use Rattle.lus_order.specs.Rows.{asked_row, modes_view}
use Rattle.lus_order.proofs.rows.push_asked.Given as goal

abbrev pub invariant-loop-required : goal.invariant-loop-required
invariant-loop-required l = l.row.items ++ asked_row l.clocks l.callees (modes_view l.modes) (map named_view (drop l.required-index l.requires_))
    ≡ l.initial.row.items ++ asked_row l.clocks l.callees (modes_view l.modes) (map named_view l.requires_)
