use Rattle.board_core.proofs.Interleaved.{interleaved, interleaved-sound}
use Rattle.board_core.proofs.laws.interleavings_leave_sound_books.Goals as goal

pub returns-clause-events : goal.returns-clause-events
returns-clause-events c = interleaved

pub returns-clause-sound : goal.returns-clause-sound
returns-clause-sound c = interleaved-sound
