use Rattle.std.proofs.Common.{◌∷◌, [], map}
use Rattle.lus_tree.specs.View.{contract_item_view}
use Rattle.lus_meaning.specs.Run.{ghost_equations}
use Rattle.evaluation_parts.specs.Bodies.{sides_view}
use Rattle.evaluation_parts.proofs.Steps.{one_added}
use Rattle.evaluation_parts.proofs.Firsts.{ghosts_first}
use Rattle.evaluation_parts.proofs.bodies.push_ghosts.Goals as goal

pub loop-item-preserved : goal.loop-item-preserved
loop-item-preserved c =
    one_added (λ z. ghost_equations (contract_item_view z ∷ [])) (λ zs. ghost_equations (map contract_item_view zs))
    (λ z zs. ghosts_first (contract_item_view z) (map contract_item_view zs)) c.args.items.now c.loop-item.item-index c.item-item.result
    (sides_view c.loop-item.sides.items)
    (sides_view c.push_ghost.new.sides.items) _ c.loop-item-test.true c.item-item.is (c.loop-item.invariant)
    (c.in_ok-push_ghost.ensures)
