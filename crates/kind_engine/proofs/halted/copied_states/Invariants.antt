use Rattle.std.specs.Prelude.{◌≡◌, take}
use Rattle.sys_terms.specs.View.{states_view}
use Rattle.kind_engine.proofs.halted.copied_states.Given as goal

abbrev pub invariant-loop-state : goal.invariant-loop-state
invariant-loop-state l = states_view l.copies.items ≡ states_view (take l.state-index l.states)
