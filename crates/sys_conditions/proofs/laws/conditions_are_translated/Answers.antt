use Rattle.sys_conditions.proofs.Translated.{conditions_are}
use Rattle.sys_conditions.proofs.laws.conditions_are_translated.Goals as goal

pub returns : goal.returns
returns c = λ s ms g h. conditions_are s ms g h
