use Rattle.std.proofs.Common.{◌≡◌, drop, map, flat_map}
use Rattle.lus_tree.specs.View.{item_view}
use Rattle.lus_meaning.specs.Occurrences.{statement_texts}
use Rattle.lus_meaning.specs.ClockFaults.{or_else}
use Rattle.lus_clocks.specs.declared.occurrence.Occurrence.{Occurrence}
use Rattle.lus_streams.specs.Names.{names_view}
use Rattle.lus_clocks.specs.Sought.{clock_at_texts}
use Rattle.lus_clocks.specs.Table.{kept}
use Rattle.lus_clocks.proofs.sites.in_body.Given as goal

-- what is kept, followed by what is to come, is all
abbrev pub invariant-loop-item : goal.invariant-loop-item
invariant-loop-item l = (s : Occurrence) → or_else (kept l.table s) (clock_at_texts (names_view l.names) s (flat_map (statement_texts (names_view l.names)) (map item_view (drop l.item-index l.items))))
    ≡ or_else (kept l.fn.table s) (clock_at_texts (names_view l.names) s (flat_map (statement_texts (names_view l.names)) (map item_view l.items)))
