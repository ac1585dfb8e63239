use Rattle.std.proofs.Common.{◌≡◌, ◌++◌, map, length, drop}
use Rattle.slot_sources.specs.Source.{source_view}
use Rattle.slot_rows.specs.Table.{first_values}
use Rattle.slot_rows.proofs.filling.first_values.Given as goal
use Rattle.slot_values.specs.Evaluated.{slot_view}

abbrev pub invariant-loop-source : goal.invariant-loop-source
invariant-loop-source g l = map slot_view l.values.items
    ++ first_values (g.C.Chosen.choices l.chosen) (length l.values.items) (map source_view (drop l.source-index l.sources))
    ≡ first_values (g.C.Chosen.choices l.chosen) 0 (map source_view l.sources)
