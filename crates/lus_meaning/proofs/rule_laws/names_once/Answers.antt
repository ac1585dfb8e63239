use Rattle.lus_meaning.proofs.NamesOnce.{names_once}
use Rattle.lus_meaning.proofs.rule_laws.names_once.Goals as goal

pub returns : goal.returns
returns c = names_once
