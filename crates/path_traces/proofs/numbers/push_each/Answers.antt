use Rattle.std.proofs.Common.{arith}
use Rattle.lus_tree.specs.View.{expr_view}
use Rattle.path_traces.specs.Kinds.{numbers_of}
use Rattle.path_traces.proofs.Steps.{one_given}
use Rattle.path_traces.proofs.numbers.push_each.Goals as goal

pub loop-value-preserved : goal.loop-value-preserved
loop-value-preserved c =
    one_given (numbers_of c.args.kind) expr_view c.args.values.now c.loop-value.value-index c.value-item.result c.loop-value.numbers.items
    c.push_numbers.new.numbers.items _ (omega arith) c.value-item.is c.loop-value.invariant c.in_ok-push_numbers.ensures
