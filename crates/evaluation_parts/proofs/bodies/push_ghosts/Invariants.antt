use Rattle.std.proofs.Common.{◌≡◌, ◌++◌, map, drop}
use Rattle.lus_tree.specs.View.{contract_item_view}
use Rattle.lus_meaning.specs.Run.{ghost_equations}
use Rattle.evaluation_parts.specs.Bodies.{sides_view}
use Rattle.evaluation_parts.proofs.bodies.push_ghosts.Given as goal

abbrev pub invariant-loop-item : goal.invariant-loop-item
invariant-loop-item l = sides_view l.sides.items ++ ghost_equations (map contract_item_view (drop l.item-index l.items))
    ≡ sides_view l.initial.sides.items ++ ghost_equations (map contract_item_view l.items)
