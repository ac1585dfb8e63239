use Rattle.evaluation_parts.proofs.Turns.{turn_is}
use Rattle.evaluation_parts.proofs.laws.turns_are_in_turn.Goals as goal

pub returns : goal.returns
returns c = turn_is
