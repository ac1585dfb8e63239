use Rattle.evaluation_rows.proofs.PastRows.{resting_within, argued_past}
use Rattle.evaluation_rows.proofs.past_rows.condact_row.Goals as goal

pub returns-clause-callee_within : goal.returns-clause-callee_within
returns-clause-callee_within c = resting_within

pub returns-clause-argument_past : goal.returns-clause-argument_past
returns-clause-argument_past c = argued_past
