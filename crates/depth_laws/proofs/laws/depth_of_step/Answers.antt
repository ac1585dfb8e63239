use Rattle.depth_laws.proofs.Causes.{step-depth, stuck-with-lemmas}
use Rattle.depth_laws.proofs.laws.depth_of_step.Goals as goal

pub returns-clause-inductive : goal.returns-clause-inductive
returns-clause-inductive c = step-depth

pub returns-clause-lemmas : goal.returns-clause-lemmas
returns-clause-lemmas c = stuck-with-lemmas
