use Rattle.std.proofs.Common.{◌≡◌, ◌++◌, map, drop}
use Rattle.lus_tree.specs.View.{exprs_view, joined}
use Rattle.lus_streams.specs.Clocks.{clock_seen}
use Rattle.lus_streams.specs.Names.{names_view}
use Rattle.sys_conditions.specs.Views.{start_view}
use Rattle.sys_occurrences.specs.Occurring.{starts_among}
use Rattle.sys_occurrences.proofs.starts.+starts.Given as goal

-- what is there, and what is to come, is all
abbrev pub invariant-push_starts_among-loop-value : goal.invariant-push_starts_among-loop-value
invariant-push_starts_among-loop-value l =
    map start_view l.starts.items ++ starts_among (names_view l.names) (clock_seen l.clock) (joined (exprs_view (drop l.value-index l.values)))
    ≡ map start_view l.initial.starts.items ++ starts_among (names_view l.names) (clock_seen l.clock) (joined (exprs_view l.values))
