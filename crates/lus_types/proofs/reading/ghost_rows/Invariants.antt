use Rattle.std.proofs.Common.{◌≡◌, ◌++◌, drop, map, flat_map}
use Rattle.lus_tree.specs.View.{contract_item_view}
use Rattle.lus_types.specs.Marks.{row_view}
use Rattle.lus_types.specs.Reads.{ghost_readings, reading_row}
use Rattle.lus_scopes.specs.Scopes.{scope_view}
use Rattle.lus_types.proofs.reading.ghost_rows.Given as goal

-- what is there, followed by what is to come, is all
abbrev pub invariant-loop-item : goal.invariant-loop-item
invariant-loop-item l = map row_view l.rows.items
    ++ map (reading_row l.names) (flat_map (ghost_readings (scope_view l.scope)) (map contract_item_view (drop l.item-index l.items)))
    ≡ map (reading_row l.names) (flat_map (ghost_readings (scope_view l.scope)) (map contract_item_view l.items))
