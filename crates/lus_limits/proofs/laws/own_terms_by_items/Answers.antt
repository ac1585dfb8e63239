use Rattle.lus_limits.proofs.OwnTerms.{own_terms_by_items}
use Rattle.lus_limits.proofs.laws.own_terms_by_items.Goals as goal

pub returns : goal.returns
returns c = own_terms_by_items
