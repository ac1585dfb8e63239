use Rattle.term_laws.proofs.Mild.{mild_systems}
use Rattle.term_laws.proofs.laws.mild_systems.Goals as goal

pub returns : goal.returns
returns c = mild_systems
