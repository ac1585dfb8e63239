use Rattle.term_laws.proofs.Small.{small_systems}
use Rattle.term_laws.proofs.laws.small_systems.Goals as goal

pub returns : goal.returns
returns c = small_systems
