use Rattle.std.specs.Prelude.{◌+◌, ◌-◌, length}
use Rattle.sat_core.proofs.order.Order.add.Given as goal

abbrev pub decreases-loop-self : goal.decreases-loop-self
decreases-loop-self l = l.slot + 1 - length l.self.slots.items
