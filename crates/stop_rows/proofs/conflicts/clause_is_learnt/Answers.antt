use Rattle.stop_rows.proofs.Learnt.{learnt}
use Rattle.stop_rows.proofs.conflicts.clause_is_learnt.Goals as goal

pub returns : goal.returns
returns c = learnt
