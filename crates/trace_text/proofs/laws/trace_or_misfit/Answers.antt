use Rattle.trace_text.proofs.Unique.{trace_or_misfit}
use Rattle.trace_text.proofs.laws.trace_or_misfit.Goals as goal

pub returns : goal.returns
returns c = trace_or_misfit
