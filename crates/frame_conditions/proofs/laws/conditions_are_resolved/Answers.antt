use Rattle.frame_conditions.proofs.Contracted.{conditions_are}
use Rattle.frame_conditions.proofs.laws.conditions_are_resolved.Goals as goal

pub returns : goal.returns
returns c = λ s i at h a. conditions_are s i at h a
