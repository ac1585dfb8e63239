use Rattle.lus_limits.proofs.FrameTerms.{sites_in_any_order}
use Rattle.lus_limits.proofs.laws.sites_in_any_order.Goals as goal

pub returns : goal.returns
returns c = sites_in_any_order
