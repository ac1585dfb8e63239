use Rattle.std.proofs.Common.{◌∷◌, [], map}
use Rattle.lus_tree.specs.View.{contract_item_view}
use Rattle.lus_meaning.specs.Scene.{ghosts}
use Rattle.lus_order.specs.Streams.{params_view}
use Rattle.lus_order.proofs.Firsts.{ghosts_first}
use Rattle.lus_order.proofs.Steps.{one_added}
use Rattle.lus_order.proofs.streams.push_ghosts.Goals as goal

pub loop-item-preserved : goal.loop-item-preserved
loop-item-preserved c =
    one_added (λ z. ghosts (contract_item_view z ∷ [])) (λ zs. ghosts (map contract_item_view zs)) (λ z zs. ghosts_first (contract_item_view z) (map contract_item_view zs))
    c.args.items.now c.loop-item.item-index c.item-item.result (params_view c.loop-item.params.items) (params_view c.push_ghost.new.params.items) _
    c.loop-item-test.true c.item-item.is c.loop-item.invariant c.in_ok-push_ghost.ensures
