use Rattle.stop_rows.proofs.Learnt.{no-consequence}
use Rattle.stop_rows.proofs.conflicts.clause_that_does_not_follow.Goals as goal

pub returns : goal.returns
returns c = no-consequence
