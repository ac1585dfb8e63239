use Rattle.evaluation_rows.proofs.PastRows.{scaling_past}
use Rattle.evaluation_rows.proofs.past_rows.callee_past_row.Goals as goal

pub returns-clause-past : goal.returns-clause-past
returns-clause-past c = scaling_past
