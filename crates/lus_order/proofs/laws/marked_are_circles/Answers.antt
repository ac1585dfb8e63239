use Rattle.lus_order.proofs.FreeClocks.{marked_circles}
use Rattle.lus_order.proofs.laws.marked_are_circles.Goals as goal

pub returns : goal.returns
returns c = marked_circles
