use Rattle.lus_order.proofs.Flagged.{flagged_circles}
use Rattle.lus_order.proofs.laws.flagged_are_circles.Goals as goal

pub returns : goal.returns
returns c = flagged_circles
