use Rattle.cause_laws.proofs.WorkedSmall.{all-bases}
use Rattle.cause_laws.proofs.rows.near_has_three_bases.Goals as goal

pub returns : goal.returns
returns c = all-bases
