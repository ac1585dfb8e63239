use Rattle.std.proofs.Common.{arith, map}
use Rattle.lus_tree.specs.View.{expr_view}
use Rattle.lus_types.specs.Reads.{read_of, read_view}
use Rattle.lus_types.proofs.Steps.{one_given}
use Rattle.lus_types.proofs.reads.push_reads_of.Goals as goal

pub loop-e-preserved : goal.loop-e-preserved
loop-e-preserved c =
    one_given read_of (λ r. expr_view r.now) c.args.all.now c.loop-e.e-index c.e-item.result (map read_view c.loop-e.reads.items)
    (map read_view c.push_read.new.reads.items) _ (omega arith) c.e-item.is c.loop-e.invariant c.in_ok-push_read.ensures
