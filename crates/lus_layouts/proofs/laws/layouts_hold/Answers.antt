use Rattle.lus_layouts.proofs.Placed.{layouts_hold}
use Rattle.lus_layouts.proofs.laws.layouts_hold.Goals as goal

pub returns : goal.returns
returns c = layouts_hold
