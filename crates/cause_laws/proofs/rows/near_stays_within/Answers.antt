use Rattle.cause_laws.specs.Worked.{near, near_low, near_high}
use Rattle.cause_laws.proofs.WorkedSmall.{its-variables, near-ranges}
use Rattle.cause_laws.proofs.rows.near_stays_within.Goals as goal

pub returns : goal.returns
returns c = λ budgets step pairs.
    c.small_numbers_stay_within.ensures near budgets near_low near_high step pairs its-variables near-ranges c.near_is_small.ensures
