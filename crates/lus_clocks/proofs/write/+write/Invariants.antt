use Rattle.std.proofs.Common.{◌≡◌, drop, map}
use Rattle.lus_tree.specs.View.{expr_view, joined}
use Rattle.lus_meaning.specs.ClockFaults.{or_else}
use Rattle.lus_clocks.specs.declared.occurrence.Occurrence.{Occurrence}
use Rattle.lus_streams.specs.Clocks.{clock_seen}
use Rattle.lus_streams.specs.Names.{names_view}
use Rattle.lus_clocks.specs.Sought.{clock_at_among}
use Rattle.lus_clocks.specs.Table.{kept}
use Rattle.lus_clocks.proofs.write.+write.Given as goal

-- what is kept, followed by what is to come, is all
abbrev pub invariant-write_all-loop-value : goal.invariant-write_all-loop-value
invariant-write_all-loop-value l = (s : Occurrence)
    → or_else (kept l.table s) (clock_at_among (names_view l.names) s (clock_seen l.clock) (joined (map expr_view (drop l.value-index l.values))))
    ≡ or_else (kept l.fn.table s) (clock_at_among (names_view l.names) s (clock_seen l.clock) (joined (map expr_view l.values)))
