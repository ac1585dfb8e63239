use Rattle.boolean_laws.proofs.SmallPrograms.{callers_have_none}
use Rattle.boolean_laws.proofs.rows.callers_have_none.Goals as goal

pub returns : goal.returns
returns c = callers_have_none
