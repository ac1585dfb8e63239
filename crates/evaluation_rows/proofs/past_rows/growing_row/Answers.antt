use Rattle.evaluation_rows.proofs.PastRows.{growing_within, growing_past}
use Rattle.evaluation_rows.proofs.past_rows.growing_row.Goals as goal

pub returns-clause-within : goal.returns-clause-within
returns-clause-within c = growing_within

pub returns-clause-past : goal.returns-clause-past
returns-clause-past c = growing_past
