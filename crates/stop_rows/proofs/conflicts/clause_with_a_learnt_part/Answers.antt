use Rattle.stop_rows.proofs.Learnt.{nothing-new}
use Rattle.stop_rows.proofs.conflicts.clause_with_a_learnt_part.Goals as goal

pub returns : goal.returns
returns c = nothing-new
