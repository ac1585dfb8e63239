use Rattle.std.proofs.Common.{[], ◌∷◌, map}
use Rattle.lus_tree.specs.View.{contract_item_view}
use Rattle.lus_meaning.specs.EquationFaults.{ghost_sides}
use Rattle.lus_meaning.specs.Run.{ghost_equations}
use Rattle.lus_order.specs.Sides.{equations_view, words_of}
use Rattle.lus_order.proofs.Firsts.{ghost_equations_first, ghost_sides_first}
use Rattle.lus_order.proofs.Steps.{one_added}
use Rattle.lus_order.proofs.sides.push_ghosts.Goals as goal

pub loop-item-preserved : goal.loop-item-preserved
loop-item-preserved c = record {
  equations = one_added (λ z. ghost_equations (contract_item_view z ∷ [])) (λ zs. ghost_equations (map contract_item_view zs))
      (λ z zs. ghost_equations_first (contract_item_view z) (map contract_item_view zs))
      c.args.items.now c.loop-item.item-index c.item-item.result (equations_view c.loop-item.sides.items) (equations_view c.push_ghost.new.sides.items) _
      c.loop-item-test.true c.item-item.is c.loop-item.invariant.equations c.in_ok-push_ghost.ensures.equations;
  words = one_added (λ z. ghost_sides (contract_item_view z ∷ [])) (λ zs. ghost_sides (map contract_item_view zs))
      (λ z zs. ghost_sides_first (contract_item_view z) (map contract_item_view zs))
      c.args.items.now c.loop-item.item-index c.item-item.result (words_of c.loop-item.sides.items) (words_of c.push_ghost.new.sides.items) _
      c.loop-item-test.true c.item-item.is c.loop-item.invariant.words c.in_ok-push_ghost.ensures.words;
}
