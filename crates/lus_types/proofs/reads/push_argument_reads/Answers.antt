use Rattle.std.proofs.Common.{arith, map}
use Rattle.lus_tree.specs.View.{expr_view}
use Rattle.lus_types.specs.Reads.{read_in, read_view}
use Rattle.lus_types.proofs.Steps.{one_given}
use Rattle.lus_types.proofs.reads.push_argument_reads.Goals as goal

pub loop-argument-preserved : goal.loop-argument-preserved
loop-argument-preserved c =
    one_given read_in expr_view c.args.arguments.now c.loop-argument.argument-index c.argument-item.result (map read_view c.loop-argument.reads.items)
    (map read_view c.push_reads.new.reads.items) _ (omega arith) c.argument-item.is c.loop-argument.invariant c.in_ok-push_reads.ensures
