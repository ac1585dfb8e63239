use Rattle.boolean_laws.proofs.SmallPrograms.{literals_are_integers}
use Rattle.boolean_laws.proofs.rows.literals_are_integers.Goals as goal

pub returns : goal.returns
returns c = literals_are_integers
