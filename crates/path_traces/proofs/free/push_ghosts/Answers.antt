use Rattle.std.proofs.Common.{arith, [], ◌∷◌, map}
use Rattle.lus_tree.specs.View.{contract_item_view}
use Rattle.lus_meaning.specs.Scene.{ghosts}
use Rattle.lus_streams.specs.Streams.{params_view}
use Rattle.path_traces.proofs.FreeNames.{one_ghost}
use Rattle.path_traces.proofs.Steps.{one_added}
use Rattle.path_traces.proofs.free.push_ghosts.Goals as goal

pub loop-item-preserved : goal.loop-item-preserved
loop-item-preserved c =
    one_added (λ z. ghosts (contract_item_view z ∷ [])) (λ zs. ghosts (map contract_item_view zs))
    (λ z zs. one_ghost (contract_item_view z) (map contract_item_view zs)) c.args.items.now c.loop-item.item-index c.item-item.result
    (params_view c.loop-item.streams.items) (params_view c.push_ghost.new.streams.items) _ (omega arith) c.item-item.is c.loop-item.invariant
    c.in_ok-push_ghost.ensures
