use Rattle.evaluation_rows.proofs.PastRows.{two_past}
use Rattle.evaluation_rows.proofs.past_rows.two_values_row.Goals as goal

pub returns-clause-past : goal.returns-clause-past
returns-clause-past c = two_past
