use Rattle.trace_text.proofs.Unique.{one_misfit}
use Rattle.trace_text.proofs.laws.one_misfit.Goals as goal

pub returns : goal.returns
returns c = one_misfit
