use Rattle.lus_limits.proofs.Frames.{summary_by_text}
use Rattle.lus_limits.proofs.laws.summary_by_items.Goals as goal

pub returns : goal.returns
returns c = summary_by_text
