use Rattle.cause_laws.proofs.WorkedStops.{crossing-pivots}
use Rattle.cause_laws.proofs.rows.crossing_bounds_pivot.Goals as goal

pub returns : goal.returns
returns c = crossing-pivots
