use Rattle.std.proofs.Common.{◌≡◌, ◌++◌, map, drop}
use Rattle.lus_tree.specs.View.{item_view}
use Rattle.lus_meaning.specs.Run.{body_equations}
use Rattle.evaluation_parts.specs.Bodies.{sides_view}
use Rattle.evaluation_parts.proofs.bodies.push_equations.Given as goal

abbrev pub invariant-loop-item : goal.invariant-loop-item
invariant-loop-item l = sides_view l.sides.items ++ body_equations (map item_view (drop l.item-index l.items))
    ≡ sides_view l.initial.sides.items ++ body_equations (map item_view l.items)
