use Rattle.std.proofs.Common.{refl}
use Rattle.lus_tree.specs.View.{expr_view, exprs_view, joined}
use Rattle.lus_order.specs.Reads.{callees_view, clock_seen, clocks_view, read_each, read_in, reads_view}
use Rattle.lus_order.proofs.Steps.{one_added}
use Rattle.lus_order.proofs.reads.+reads.Goals as goal

pub push_each-loop-value-preserved : goal.push_each-loop-value-preserved
push_each-loop-value-preserved t c =
    one_added (λ z. read_in (clocks_view c.args.clocks.now) (callees_view c.args.callees.now) (clock_seen c.args.clock) (expr_view z))
    (λ zs. read_each (clocks_view c.args.clocks.now) (callees_view c.args.callees.now) (clock_seen c.args.clock) (joined (exprs_view zs))) (λ z zs. refl)
    c.args.values.now c.loop-value.value-index c.value-item.result (reads_view c.loop-value.reads.items) (reads_view c.push_reads.new.reads.items) _
    c.loop-value-test.true c.value-item.is c.loop-value.invariant c.in_ok-push_reads.ensures
