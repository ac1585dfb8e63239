use Rattle.within_laws.proofs.Facts.{frames_are_quiet}
use Rattle.within_laws.proofs.laws.frames_are_quiet.Goals as goal

pub returns : goal.returns
returns c = frames_are_quiet
