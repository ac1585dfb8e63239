use Rattle.std.proofs.Common.{◌≡◌, ◌++◌, map, drop}
use Rattle.slot_sources.specs.Source.{source_view}
use Rattle.slot_rows.specs.Order.{reads_each}
use Rattle.slot_rows.proofs.slot_reads.SlotReads.of.Given as goal

abbrev pub invariant-loop-source : goal.invariant-loop-source
invariant-loop-source l = map (λ r. r.items) l.rows.items ++ reads_each (map source_view (drop l.source-index l.sources))
    ≡ reads_each (map source_view l.sources)
