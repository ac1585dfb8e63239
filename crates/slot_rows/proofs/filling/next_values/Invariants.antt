use Rattle.std.proofs.Common.{◌≡◌, ◌||◌, map, drop}
use Rattle.slot_sources.specs.Source.{source_view}
use Rattle.slot_rows.specs.Table.{next_outside, next_values, slots_of}
use Rattle.slot_rows.specs.Turns.{turn_view}
use Rattle.slot_rows.proofs.InTurn.{brought_in_turn, outside_in_turn}
use Rattle.slot_rows.proofs.filling.next_values.Given as goal
use Rattle.slot_values.specs.Evaluated.{slot_view}

abbrev pub invariant-loop-turn : goal.invariant-loop-turn
invariant-loop-turn l = record {
  same : l.row.values ≡ l.initial.row.values;
  values : brought_in_turn (slots_of (map slot_view l.row.values.items)) (map slot_view l.values.items)
      (map turn_view (drop l.turn-index l.turns.brought.items))
      ≡ next_values (slots_of (map slot_view l.row.values.items)) 0 (map source_view l.turns.sources.now);
  outside : (l.row.outside || outside_in_turn (slots_of (map slot_view l.row.values.items)) (map turn_view (drop l.turn-index l.turns.brought.items)))
      ≡ (l.initial.row.outside || next_outside (slots_of (map slot_view l.row.values.items)) (map source_view l.turns.sources.now));
}
