use Rattle.line_laws.proofs.SplitSteps.{split_fits}
use Rattle.line_laws.proofs.laws.split_steps_fit.Goals as goal

pub returns : goal.returns
returns c = split_fits
