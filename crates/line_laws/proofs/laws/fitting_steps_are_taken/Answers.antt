use Rattle.line_laws.proofs.FittingSteps.{fitting_step_is_taken}
use Rattle.line_laws.proofs.laws.fitting_steps_are_taken.Goals as goal

pub returns : goal.returns
returns c = fitting_step_is_taken
