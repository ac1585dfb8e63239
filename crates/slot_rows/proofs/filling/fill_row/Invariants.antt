use Rattle.std.proofs.Common.{◌≡◌, map, drop}
use Rattle.slot_sources.specs.Source.{source_view}
use Rattle.slot_rows.specs.Table.{filled, row_view}
use Rattle.slot_rows.specs.Turns.{turn_view}
use Rattle.slot_rows.proofs.InTurn.{filled_in_turn}
use Rattle.slot_rows.proofs.filling.fill_row.Given as goal

abbrev pub invariant-loop-turn : goal.invariant-loop-turn
invariant-loop-turn g l = filled_in_turn (g.C.Chosen.choices l.chosen) l.instant (row_view l.row) (map turn_view (drop l.turn-index l.turns.given.items))
    ≡ filled (g.C.Chosen.choices l.chosen) (map source_view l.turns.sources.now) l.instant (row_view l.initial.row) l.turns.order.now
