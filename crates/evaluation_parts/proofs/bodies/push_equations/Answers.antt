use Rattle.std.proofs.Common.{◌∷◌, [], map}
use Rattle.lus_tree.specs.View.{item_view}
use Rattle.lus_meaning.specs.Run.{body_equations}
use Rattle.evaluation_parts.specs.Bodies.{sides_view}
use Rattle.evaluation_parts.proofs.Steps.{one_added}
use Rattle.evaluation_parts.proofs.Firsts.{equations_first}
use Rattle.evaluation_parts.proofs.bodies.push_equations.Goals as goal

pub loop-item-preserved : goal.loop-item-preserved
loop-item-preserved c =
    one_added (λ z. body_equations (item_view z ∷ [])) (λ zs. body_equations (map item_view zs))
    (λ z zs. equations_first (item_view z) (map item_view zs)) c.args.items.now c.loop-item.item-index c.item-item.result
    (sides_view c.loop-item.sides.items)
    (sides_view c.push_equation.new.sides.items) _ c.loop-item-test.true c.item-item.is (c.loop-item.invariant)
    (c.in_ok-push_equation.ensures)
