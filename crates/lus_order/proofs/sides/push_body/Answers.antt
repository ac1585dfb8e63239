use Rattle.std.proofs.Common.{[], ◌∷◌, map}
use Rattle.lus_tree.specs.View.{item_view}
use Rattle.lus_meaning.specs.EquationFaults.{body_sides}
use Rattle.lus_meaning.specs.Run.{body_equations}
use Rattle.lus_order.specs.Sides.{equations_view, words_of}
use Rattle.lus_order.proofs.Firsts.{equations_first, sides_first}
use Rattle.lus_order.proofs.Steps.{one_added}
use Rattle.lus_order.proofs.sides.push_body.Goals as goal

pub loop-item-preserved : goal.loop-item-preserved
loop-item-preserved c = record {
  equations = one_added (λ z. body_equations (item_view z ∷ [])) (λ zs. body_equations (map item_view zs)) (λ z zs. equations_first (item_view z) (map item_view zs))
      c.args.items.now c.loop-item.item-index c.item-item.result (equations_view c.loop-item.sides.items) (equations_view c.push_equation.new.sides.items) _
      c.loop-item-test.true c.item-item.is c.loop-item.invariant.equations c.in_ok-push_equation.ensures.equations;
  words = one_added (λ z. body_sides (item_view z ∷ [])) (λ zs. body_sides (map item_view zs)) (λ z zs. sides_first (item_view z) (map item_view zs))
      c.args.items.now c.loop-item.item-index c.item-item.result (words_of c.loop-item.sides.items) (words_of c.push_equation.new.sides.items) _
      c.loop-item-test.true c.item-item.is c.loop-item.invariant.words c.in_ok-push_equation.ensures.words;
}
