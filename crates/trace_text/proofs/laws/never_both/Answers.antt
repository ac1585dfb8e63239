use Rattle.trace_text.proofs.Unique.{never_both}
use Rattle.trace_text.proofs.laws.never_both.Goals as goal

pub returns : goal.returns
returns c = never_both
