use Rattle.replay_laws.proofs.Choices.{shapes_choose}
use Rattle.replay_laws.proofs.laws.shapes_choose.Goals as goal

pub returns : goal.returns
returns c = shapes_choose
