use Rattle.lus_limits.proofs.Widths.{width_by_text, width_is_plain, width_cuts}
use Rattle.lus_limits.proofs.laws.width_by_text.Goals as goal

pub returns-clause-widths : goal.returns-clause-widths
returns-clause-widths c = width_by_text

pub returns-clause-plain : goal.returns-clause-plain
returns-clause-plain c = width_is_plain

pub returns-clause-cuts : goal.returns-clause-cuts
returns-clause-cuts c = width_cuts
