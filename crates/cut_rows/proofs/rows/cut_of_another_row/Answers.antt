use Rattle.cut_rows.proofs.Refused.{another_row}
use Rattle.cut_rows.proofs.rows.cut_of_another_row.Goals as goal

pub returns : goal.returns
returns c = another_row
