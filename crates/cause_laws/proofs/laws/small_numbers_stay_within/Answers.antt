use Rattle.cause_laws.proofs.Within.{small-within}
use Rattle.cause_laws.proofs.laws.small_numbers_stay_within.Goals as goal

pub returns : goal.returns
returns c = small-within
