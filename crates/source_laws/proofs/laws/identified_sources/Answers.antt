use Rattle.source_laws.proofs.Identified.{identified_sources}
use Rattle.source_laws.proofs.laws.identified_sources.Goals as goal

pub returns : goal.returns
returns c = identified_sources
