use Rattle.frame_laws.proofs.Squeezed.{squeezed}
use Rattle.frame_laws.proofs.laws.squeezed.Goals as goal

pub returns : goal.returns
returns c = squeezed
