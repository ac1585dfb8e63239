use Rattle.std.proofs.Common.{arith}
use Rattle.lus_tree.specs.View.{expr_view}
use Rattle.lus_types.specs.Called.{callee_of}
use Rattle.lus_types.specs.Words.{words_view}
use Rattle.lus_types.proofs.Steps.{one_given}
use Rattle.lus_types.proofs.called.callees_of.Goals as goal

pub loop-e-preserved : goal.loop-e-preserved
loop-e-preserved c =
    one_given callee_of (λ r. expr_view r.now) c.args.all.now c.loop-e.e-index c.e-item.result (words_view c.loop-e.words.items)
    (words_view c.push_callee.new.words.items) _ (omega arith) c.e-item.is c.loop-e.invariant c.in_ok-push_callee.ensures
