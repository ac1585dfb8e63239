use Rattle.row_laws.proofs.Frames.{done_slots_are_the_frames}
use Rattle.row_laws.proofs.OneRow.{resolutions_by_slots_read, sources_by_slots_read}
use Rattle.row_laws.proofs.laws.done_slots_are_the_frames.Goals as goal

pub returns-clause-frames : goal.returns-clause-frames
returns-clause-frames c = done_slots_are_the_frames

pub returns-clause-resolutions : goal.returns-clause-resolutions
returns-clause-resolutions c = resolutions_by_slots_read

pub returns-clause-sources : goal.returns-clause-sources
returns-clause-sources c = sources_by_slots_read
