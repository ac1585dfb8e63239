use Rattle.row_laws.proofs.Follow.{rows_follow}
use Rattle.row_laws.proofs.Counted.{each_slot_has_a_source}
use Rattle.row_laws.proofs.laws.rows_follow.Goals as goal

pub returns-clause-follow : goal.returns-clause-follow
returns-clause-follow c = rows_follow

pub returns-clause-counted : goal.returns-clause-counted
returns-clause-counted c = each_slot_has_a_source
