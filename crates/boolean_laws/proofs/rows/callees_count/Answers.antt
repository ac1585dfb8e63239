use Rattle.boolean_laws.proofs.SmallPrograms.{callees_count}
use Rattle.boolean_laws.proofs.rows.callees_count.Goals as goal

pub returns : goal.returns
returns c = callees_count
