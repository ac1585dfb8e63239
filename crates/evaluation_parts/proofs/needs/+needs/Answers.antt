use Rattle.std.proofs.Common.{refl}
use Rattle.lus_tree.specs.View.{expr_view, exprs_view, joined}
use Rattle.lus_meaning.specs.Depends.{needs, needs_each}
use Rattle.lus_streams.specs.Clocks.{clock_seen}
use Rattle.evaluation_parts.specs.Needed.{needs_view, modes_needs_view}
use Rattle.evaluation_parts.specs.Views.{frame_instance}
use Rattle.evaluation_parts.proofs.Steps.{one_added}
use Rattle.evaluation_parts.proofs.needs.+needs.Goals as goal

pub push_each-loop-value-preserved : goal.push_each-loop-value-preserved
push_each-loop-value-preserved t c =
    one_added (λ z. needs (frame_instance c.args.frame) (modes_needs_view c.args.modes.now) (clock_seen c.args.clock) (expr_view z)) (λ zs. needs_each (frame_instance c.args.frame) (modes_needs_view c.args.modes.now) (clock_seen c.args.clock) (joined (exprs_view zs)))
    (λ z zs. refl) c.args.values.now c.loop-value.value-index c.value-item.result
    (needs_view c.loop-value.found.items)
    (needs_view c.push_needs.new.found.items) _ c.loop-value-test.true c.value-item.is (c.loop-value.invariant)
    (c.in_ok-push_needs.ensures)
