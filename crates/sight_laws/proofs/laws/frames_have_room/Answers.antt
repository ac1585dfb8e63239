use Rattle.sight_laws.proofs.Rooms.{frames_have_room}
use Rattle.sight_laws.proofs.laws.frames_have_room.Goals as goal

pub returns : goal.returns
returns c = frames_have_room
