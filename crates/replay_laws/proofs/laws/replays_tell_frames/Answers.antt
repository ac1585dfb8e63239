use Rattle.replay_laws.proofs.Replayed.{answer_is_shown, told_is_met}
use Rattle.replay_laws.proofs.laws.replays_tell_frames.Goals as goal

pub returns-clause-told : goal.returns-clause-told
returns-clause-told c = told_is_met c.parts_rest.ensures

pub returns-clause-answered : goal.returns-clause-answered
returns-clause-answered c = answer_is_shown c.parts_rest.ensures
