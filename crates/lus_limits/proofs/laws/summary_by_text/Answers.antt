use Rattle.lus_limits.proofs.Sums.{summary_by_text}
use Rattle.lus_limits.proofs.laws.summary_by_text.Goals as goal

pub returns : goal.returns
returns c = summary_by_text
