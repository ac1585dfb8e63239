use Rattle.std.proofs.Common.{arith, [], ◌∷◌, map}
use Rattle.lus_tree.specs.View.{contract_item_view}
use Rattle.lus_types.specs.Words.{words_view}
use Rattle.lus_types.proofs.Firsts.{ghost_names, ghosts_first}
use Rattle.lus_types.proofs.Steps.{one_added}
use Rattle.lus_types.proofs.words.push_ghosts.Goals as goal

pub loop-item-preserved : goal.loop-item-preserved
loop-item-preserved c =
    one_added (λ z. ghost_names (contract_item_view z ∷ [])) (λ zs. ghost_names (map contract_item_view zs))
    (λ z zs. ghosts_first (contract_item_view z) (map contract_item_view zs)) c.args.items.now c.loop-item.item-index c.item-item.result (words_view c.loop-item.words.items)
    (words_view c.push_ghost.new.words.items) _ (omega arith) c.item-item.is c.loop-item.invariant c.in_ok-push_ghost.ensures
