use Rattle.cause_laws.proofs.WorkedSmall.{is-small}
use Rattle.cause_laws.proofs.rows.near_is_small.Goals as goal

pub returns : goal.returns
returns c = is-small
