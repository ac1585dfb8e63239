use Rattle.cert_rules.proofs.Sound.{facts-are-true}
use Rattle.cert_rules.proofs.laws.facts_are_true.Goals as goal

pub returns : goal.returns
returns c = facts-are-true c.refuted_obligations_have_no_answer.ensures
