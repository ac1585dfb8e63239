use Rattle.cause_laws.proofs.WorkedStops.{far-past, far-ranges}
use Rattle.cause_laws.proofs.rows.far_is_past.Goals as goal

pub returns : goal.returns
returns c = record { ranges = far-ranges; past = far-past }
