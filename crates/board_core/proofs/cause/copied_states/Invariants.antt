use Rattle.std.specs.Prelude.{◌≡◌, take}
use Rattle.sys_terms.specs.View.{states_view}
use Rattle.board_core.proofs.cause.copied_states.Given as goal

abbrev pub invariant-loop-state : goal.invariant-loop-state
invariant-loop-state l = states_view l.copies.items ≡ states_view (take l.state-index l.states)
