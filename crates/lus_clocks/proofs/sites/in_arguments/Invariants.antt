use Rattle.std.proofs.Common.{◌≡◌, drop, map, flat_map}
use Rattle.lus_tree.specs.View.{exprs_view}
use Rattle.lus_meaning.specs.Scene.{base}
use Rattle.lus_meaning.specs.Occurrences.{on_clock}
use Rattle.lus_meaning.specs.ClockFaults.{or_else}
use Rattle.lus_clocks.specs.declared.occurrence.Occurrence.{Occurrence}
use Rattle.lus_streams.specs.Names.{names_view}
use Rattle.lus_clocks.specs.Sought.{clock_at_texts}
use Rattle.lus_clocks.specs.Table.{kept}
use Rattle.lus_clocks.proofs.sites.in_arguments.Given as goal

-- what is kept, followed by what is to come, is all
abbrev pub invariant-loop-argument : goal.invariant-loop-argument
invariant-loop-argument l = (s : Occurrence) → or_else (kept l.table s) (clock_at_texts (names_view l.names) s (map (λ a. (on_clock base, a)) (exprs_view (drop l.argument-index l.all))))
    ≡ or_else (kept l.fn.table s) (clock_at_texts (names_view l.names) s (map (λ a. (on_clock base, a)) (exprs_view l.all)))
