use Rattle.cause_laws.proofs.WorkedSmall.{no-stop}
use Rattle.cause_laws.proofs.rows.near_has_no_stop.Goals as goal

pub returns : goal.returns
returns c = no-stop c.ranges_suffice.ensures c.bases_bound_pivots.ensures c.small_numbers_stay_within.ensures
