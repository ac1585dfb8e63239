use Rattle.std.proofs.Common.{◌≡◌, ◌++◌, drop}
use Rattle.evaluation_order.specs.GiverViews.{givers_view}
use Rattle.evaluation_order.specs.Givers.{given_above}
use Rattle.evaluation_order.proofs.waits.given_above.Given as goal

abbrev pub invariant-loop-giver : goal.invariant-loop-giver
invariant-loop-giver l = l.row.items ++ given_above l.marks l.way (givers_view (drop l.giver-index l.givers))
    ≡ given_above l.marks l.way (givers_view l.givers)
