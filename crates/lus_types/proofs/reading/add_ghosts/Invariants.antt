use Rattle.std.proofs.Common.{◌≡◌, drop, map, flat_map}
use Rattle.lus_tree.specs.View.{contract_item_view}
use Rattle.lus_types.specs.Reads.{added, ghost_readings, names_read}
use Rattle.lus_scopes.specs.Scopes.{scope_view}
use Rattle.lus_types.proofs.reading.add_ghosts.Given as goal

abbrev pub invariant-loop-item : goal.invariant-loop-item
invariant-loop-item l = added l.names (names_read (flat_map (ghost_readings (scope_view l.scope)) (map contract_item_view (drop l.item-index l.items))))
    ≡ added l.initial.names (names_read (flat_map (ghost_readings (scope_view l.scope)) (map contract_item_view l.items)))
