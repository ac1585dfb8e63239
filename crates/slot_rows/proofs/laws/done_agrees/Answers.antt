use Rattle.slot_rows.proofs.Agreed.{done_agrees}
use Rattle.slot_rows.proofs.laws.done_agrees.Goals as goal

pub returns : goal.returns
returns c = done_agrees
