use Rattle.std.proofs.Common.{◌≡◌, [], drop, map}
use Rattle.lus_tree.specs.View.{contract_item_view}
use Rattle.lus_order.specs.Library.{library_view}
use Rattle.lus_order.specs.Rows.{mode_rows_after, modes_view}
use Rattle.lus_order.proofs.modes.modes_of.Given as goal

abbrev pub invariant-loop-item : goal.invariant-loop-item
invariant-loop-item l = mode_rows_after l.clocks l.library.callees (library_view l.library) (modes_view l.modes.items)
    (map contract_item_view (drop l.item-index l.items))
    ≡ mode_rows_after l.clocks l.library.callees (library_view l.library) [] (map contract_item_view l.items)
