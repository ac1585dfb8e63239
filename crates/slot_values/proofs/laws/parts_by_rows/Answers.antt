use Rattle.slot_values.proofs.Parts.{parts_by_rows}
use Rattle.slot_values.proofs.laws.parts_by_rows.Goals as goal

pub returns : goal.returns
returns c = parts_by_rows
