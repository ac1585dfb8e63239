use Rattle.std.proofs.Common.{◌∷◌, [], map}
use Rattle.lus_tree.specs.View.{contract_item_view}
use Rattle.lus_order.specs.Library.{library_view}
use Rattle.lus_order.specs.Rows.{mode_rows_after, modes_view}
use Rattle.lus_order.proofs.Statements.{after_one}
use Rattle.lus_order.proofs.Steps.{one_changed}
use Rattle.lus_order.proofs.modes.modes_of.Goals as goal

pub loop-item-preserved : goal.loop-item-preserved
loop-item-preserved c =
    one_changed (λ ms zs. mode_rows_after c.args.clocks.now c.args.library.now.callees (library_view c.args.library.now) ms (map contract_item_view zs))
    (λ ms z. mode_rows_after c.args.clocks.now c.args.library.now.callees (library_view c.args.library.now) ms (contract_item_view z ∷ []))
    (λ ms z zs. after_one c.args.clocks.now c.args.library.now.callees (library_view c.args.library.now) ms (contract_item_view z) (map contract_item_view zs))
    c.args.items.now c.loop-item.item-index c.item-item.result (modes_view c.loop-item.modes.items) (modes_view c.push_item.new.modes.items) _
    c.loop-item-test.true c.item-item.is c.loop-item.invariant c.in_ok-push_item.ensures
