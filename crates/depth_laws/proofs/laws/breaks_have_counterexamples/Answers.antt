use Rattle.depth_laws.proofs.Parts.{breaks-counterexamples}
use Rattle.depth_laws.proofs.laws.breaks_have_counterexamples.Goals as goal

pub returns : goal.returns
returns c = breaks-counterexamples
