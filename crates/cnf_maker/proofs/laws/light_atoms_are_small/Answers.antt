use Rattle.cnf_maker.proofs.Light.{atoms-are-small}
use Rattle.cnf_maker.proofs.laws.light_atoms_are_small.Goals as goal

pub returns : goal.returns
returns c = atoms-are-small
