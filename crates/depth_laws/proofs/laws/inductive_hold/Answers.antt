use Rattle.depth_laws.proofs.Parts.{inductive-hold}
use Rattle.depth_laws.proofs.laws.inductive_hold.Goals as goal

pub returns : goal.returns
returns c = inductive-hold
