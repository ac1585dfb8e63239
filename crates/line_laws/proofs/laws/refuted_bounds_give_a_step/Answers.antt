use Rattle.line_laws.proofs.ConflictSteps.{step_is_taken}
use Rattle.line_laws.proofs.laws.refuted_bounds_give_a_step.Goals as goal

pub returns : goal.returns
returns c = step_is_taken
