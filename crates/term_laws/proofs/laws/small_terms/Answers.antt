use Rattle.term_laws.proofs.Counted.{small_terms}
use Rattle.term_laws.proofs.laws.small_terms.Goals as goal

pub returns : goal.returns
returns c = small_terms
