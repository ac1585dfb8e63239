use Rattle.std.proofs.Common.{arith}
use Rattle.lus_tree.specs.View.{expr_view, program_view}
use Rattle.lus_types.specs.States.{state_of}
use Rattle.lus_types.proofs.Steps.{one_given}
use Rattle.lus_types.proofs.state.states_of.Goals as goal

pub loop-e-preserved : goal.loop-e-preserved
loop-e-preserved c =
    one_given (state_of (program_view c.args.declarations.now)) (λ r. expr_view r.now) c.args.all.now c.loop-e.e-index c.e-item.result (c.loop-e.places.items)
    (c.push_state.new.places.items) _ (omega arith) c.e-item.is c.loop-e.invariant c.in_ok-push_state.ensures
