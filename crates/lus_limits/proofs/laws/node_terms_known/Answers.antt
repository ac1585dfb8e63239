use Rattle.lus_limits.proofs.Nodes.{node_terms_known}
use Rattle.lus_limits.proofs.laws.node_terms_known.Goals as goal

pub returns : goal.returns
returns c = node_terms_known
