use Rattle.stop_rows.proofs.Learnt.{too-few}
use Rattle.stop_rows.proofs.conflicts.fewer_than_the_budget.Goals as goal

pub returns : goal.returns
returns c = too-few
