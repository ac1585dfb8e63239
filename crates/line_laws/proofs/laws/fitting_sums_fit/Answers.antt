use Rattle.line_laws.proofs.FittingSums.{sums_fit}
use Rattle.line_laws.proofs.laws.fitting_sums_fit.Goals as goal

pub returns : goal.returns
returns c = sums_fit
