use Rattle.lus_grammar.proofs.Numbered.{source_numbered}
use Rattle.lus_grammar.proofs.laws.numbered_sources.Goals as goal

pub returns : goal.returns
returns c = source_numbered
