use Rattle.std.proofs.Common.{◌∷◌, [], map}
use Rattle.lus_tree.specs.View.{contract_item_view}
use Rattle.lus_meaning.specs.Depends.{modes_after}
use Rattle.evaluation_parts.specs.Needed.{modes_needs_view, all_modes_view, imported}
use Rattle.evaluation_parts.specs.Views.{frame_instance}
use Rattle.evaluation_parts.proofs.Modes.{after_one}
use Rattle.evaluation_parts.proofs.Steps.{one_taken}
use Rattle.evaluation_parts.proofs.mode_needs.after.Goals as goal

pub loop-item-preserved : goal.loop-item-preserved
loop-item-preserved c =
    one_taken (λ ms z. modes_after (frame_instance c.args.frame) (imported (all_modes_view c.args.called.now)) ms (contract_item_view z ∷ []))
    (λ ms zs. modes_after (frame_instance c.args.frame) (imported (all_modes_view c.args.called.now)) ms (map contract_item_view zs))
    (λ ms z zs. after_one (frame_instance c.args.frame) (imported (all_modes_view c.args.called.now)) ms (contract_item_view z) (map contract_item_view zs))
    c.args.items.now c.loop-item.item-index c.item-item.result (modes_needs_view c.loop-item.modes.items)
    (modes_needs_view c.push_item.new.modes.items) _ c.loop-item-test.true c.item-item.is c.loop-item.invariant c.in_ok-push_item.ensures
