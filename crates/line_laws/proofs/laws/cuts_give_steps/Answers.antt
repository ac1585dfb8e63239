use Rattle.line_laws.proofs.CutSteps.{cut_step_is_taken}
use Rattle.line_laws.proofs.laws.cuts_give_steps.Goals as goal

pub returns : goal.returns
returns c = λ g known parts d atom plain h. cut_step_is_taken g known parts atom plain d h
