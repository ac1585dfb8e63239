use Rattle.std.specs.Prelude.{◌∷◌, [], length}
use Rattle.std.proofs.Common.{ap, ◌∙◌}
use Rattle.std.proofs.lemmas.List.{map-append}
use Rattle.sys_terms.specs.View.{state_view, states_view}
use Rattle.smt_solver.proofs.Split.{states-step, room-step}
use Rattle.smt_solver.proofs.states.states.Goals as goal

pub loop-i-preserved : goal.loop-i-preserved
loop-i-preserved c = (
  states-step c.args.size c.args.count c.loop-i._i c.loop-i-test.true c.loop-i.rest.now c.in_ok-values.values.items
      c.split_at.result.1.now (states_view c.loop-i.states.items) (states_view c.push.new.self.items) _
      c.loop-i.invariant.0 (c.in_ok-values.ensures.items ∙ c.split_at.ensures.front) c.split_at.ensures.back
      (ap states_view c.in_ok-push.ensures.items
      ∙ map-append state_view c.loop-i.states.items (record { values = c.in_ok-values.values } ∷ [])),
  room-step c.args.size c.args.count c.loop-i._i c.loop-i-test.true (length c.loop-i.rest.now) _
      c.loop-i.invariant.1 c.split_at.ensures.back_len,
)
