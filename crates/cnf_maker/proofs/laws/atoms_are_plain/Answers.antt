use Rattle.cnf_maker.proofs.PlainForms.{atoms-are-plain}
use Rattle.cnf_maker.proofs.laws.atoms_are_plain.Goals as goal

pub returns : goal.returns
returns c = atoms-are-plain
