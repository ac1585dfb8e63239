use Rattle.lus_evaluation.proofs.OneOutcome.{one_outcome}
use Rattle.lus_evaluation.proofs.laws.one_outcome.Goals as goal

pub returns : goal.returns
returns c = one_outcome
