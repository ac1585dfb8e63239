use Rattle.std.proofs.Common.{◌≡◌, ◌++◌, drop}
use Rattle.lus_tree.specs.View.{exprs_view, joined}
use Rattle.lus_meaning.specs.Depends.{needs_each}
use Rattle.lus_streams.specs.Clocks.{clock_seen}
use Rattle.evaluation_parts.specs.Needed.{modes_needs_view, needs_view}
use Rattle.evaluation_parts.specs.Views.{frame_instance}
use Rattle.evaluation_parts.proofs.needs.+needs.Given as goal

abbrev pub invariant-push_each-loop-value : goal.invariant-push_each-loop-value
invariant-push_each-loop-value l = needs_view l.found.items
    ++ needs_each (frame_instance l.frame) (modes_needs_view l.modes) (clock_seen l.clock) (joined (exprs_view (drop l.value-index l.values)))
    ≡ needs_view l.initial.found.items ++ needs_each (frame_instance l.frame) (modes_needs_view l.modes) (clock_seen l.clock) (joined (exprs_view l.values))
