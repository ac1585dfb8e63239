use Rattle.std.proofs.Common.{refl}
use Rattle.cause_laws.proofs.WorkedStops.{one-split}
use Rattle.cause_laws.proofs.rows.room_is_spent.Goals as goal

pub returns : goal.returns
returns c = (one-split, refl)
