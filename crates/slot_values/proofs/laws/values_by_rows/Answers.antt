use Rattle.slot_values.proofs.FrameRow.{values_by_rows}
use Rattle.slot_values.proofs.laws.values_by_rows.Goals as goal

pub returns : goal.returns
returns c = values_by_rows
