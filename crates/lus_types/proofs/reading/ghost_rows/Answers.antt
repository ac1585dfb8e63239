use Rattle.std.proofs.Common.{arith, flat_map, map}
use Rattle.std.proofs.lemmas.List.{map-append}
use Rattle.lus_tree.specs.View.{contract_item_view}
use Rattle.lus_scopes.specs.Scopes.{scope_view}
use Rattle.lus_types.specs.Marks.{row_view}
use Rattle.lus_types.specs.Reads.{ghost_readings, reading_row}
use Rattle.lus_types.proofs.Steps.{one_added}
use Rattle.lus_types.proofs.reading.ghost_rows.Goals as goal

pub loop-item-preserved : goal.loop-item-preserved
loop-item-preserved c =
    one_added (λ z. map (reading_row c.args.names.now) (ghost_readings (scope_view c.args.scope.now) (contract_item_view z))) (λ zs. map (reading_row c.args.names.now) (flat_map (ghost_readings (scope_view c.args.scope.now)) (map contract_item_view zs)))
    (λ z zs. map-append (reading_row c.args.names.now) (ghost_readings (scope_view c.args.scope.now) (contract_item_view z))
    (flat_map (ghost_readings (scope_view c.args.scope.now)) (map contract_item_view zs))) c.args.items.now c.loop-item.item-index c.item-item.result (map row_view c.loop-item.rows.items)
    (map row_view c.push_ghost_row.new.rows.items) _ (omega arith) c.item-item.is c.loop-item.invariant c.in_ok-push_ghost_row.ensures
