use Rattle.sight_laws.proofs.Stages.{so_far_is_kept, so_far_stands}
use Rattle.sight_laws.proofs.laws.so_far_stands.Goals as goal

pub returns-clause-kept : goal.returns-clause-kept
returns-clause-kept c = so_far_is_kept

pub returns-clause-number : goal.returns-clause-number
returns-clause-number c = so_far_stands
