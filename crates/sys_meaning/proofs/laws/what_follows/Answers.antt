use Rattle.sys_meaning.proofs.Follows.{lemma_law, property_law}
use Rattle.sys_meaning.proofs.laws.what_follows.Goals as goal

pub returns : goal.returns
returns c = λ i law. (lemma_law i law, property_law i law)
