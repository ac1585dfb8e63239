use Rattle.row_laws.proofs.Frames.{sources_read_slots, rows_are_the_frames}
use Rattle.row_laws.proofs.OneRow.{one_row_follows}
use Rattle.row_laws.proofs.laws.rows_are_the_frames.Goals as goal

pub returns-clause-frames : goal.returns-clause-frames
returns-clause-frames c = rows_are_the_frames

pub returns-clause-read : goal.returns-clause-read
returns-clause-read c = sources_read_slots

pub returns-clause-one : goal.returns-clause-one
returns-clause-one c = one_row_follows
