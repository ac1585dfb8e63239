use Rattle.int_simplex.proofs.Places.{not_listed}
use Rattle.int_simplex.proofs.holders.place_of.Goals as goal

pub returns : goal.returns
returns c = not_listed c.args.list.now c.loop-at.at c.args.k c.loop-at-test.false c.loop-at.invariant
