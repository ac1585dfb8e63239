use Rattle.lus_meaning.proofs.FitOrMisfit.{fit_or_misfit}
use Rattle.lus_meaning.proofs.fit_laws.fit_or_misfit.Goals as goal

pub returns : goal.returns
returns c = fit_or_misfit
