use Rattle.std.proofs.Common.{◌≡◌, ◌++◌, drop}
use Rattle.lus_evaluation.specs.Frame.{picked}
use Rattle.evaluation_parts.specs.PartViews.{parts_view}
use Rattle.evaluation_order.proofs.picked.picked.Given as goal

abbrev pub invariant-loop-number : goal.invariant-loop-number
invariant-loop-number l = parts_view l.all.items ++ picked (drop l.number-index l.order) (parts_view l.parts)
    ≡ picked l.order (parts_view l.parts)
