use Rattle.std.proofs.Common.{refl}
use Rattle.cause_laws.proofs.rows.no_split_is_spent_at_once.Goals as goal

pub returns : goal.returns
returns c = λ f. (tt, refl)
