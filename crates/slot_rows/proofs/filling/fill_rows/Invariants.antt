use Rattle.std.proofs.Common.{◌≡◌, map}
use Rattle.slot_sources.specs.Source.{source_view}
use Rattle.slot_rows.specs.Table.{brought_to, row_view, rows}
use Rattle.slot_rows.proofs.filling.fill_rows.Given as goal
use Rattle.slot_values.specs.Evaluated.{slot_view}

abbrev pub invariant-loop-instant : goal.invariant-loop-instant
invariant-loop-instant g l = record {
  rows : map row_view l.rows.items ≡ rows (g.C.Chosen.choices l.chosen) (map source_view l.turns.sources.now) l.turns.order.now l.instant;
  values : map slot_view l.values.items ≡ brought_to (g.C.Chosen.choices l.chosen) (map source_view l.turns.sources.now) l.turns.order.now l.instant;
}
