use Rattle.boolean_laws.proofs.SmallPrograms.{flags_have_none}
use Rattle.boolean_laws.proofs.rows.flags_have_none.Goals as goal

pub returns : goal.returns
returns c = flags_have_none
