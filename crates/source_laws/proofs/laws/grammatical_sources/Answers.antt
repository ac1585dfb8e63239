use Rattle.source_laws.proofs.Grammatical.{grammatical_sources}
use Rattle.source_laws.proofs.laws.grammatical_sources.Goals as goal

pub returns : goal.returns
returns c = grammatical_sources
