use Rattle.line_laws.proofs.Decided.{decided}
use Rattle.line_laws.proofs.laws.atoms_are_decided.Goals as goal

pub returns : goal.returns
returns c = decided
