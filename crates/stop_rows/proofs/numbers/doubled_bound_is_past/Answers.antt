use Rattle.stop_rows.proofs.Stops.{past-bound}
use Rattle.stop_rows.proofs.numbers.doubled_bound_is_past.Goals as goal

pub returns : goal.returns
returns c = past-bound
