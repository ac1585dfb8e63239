use Rattle.boolean_laws.proofs.Trees.{systems_of_flags}
use Rattle.boolean_laws.proofs.laws.systems_are_of_flags.Goals as goal

pub returns : goal.returns
returns c = systems_of_flags
