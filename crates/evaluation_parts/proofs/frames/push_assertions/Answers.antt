use Rattle.std.proofs.Common.{◌∷◌, [], map}
use Rattle.lus_tree.specs.View.{item_view}
use Rattle.lus_meaning.specs.Property.{assertions}
use Rattle.lus_meaning.specs.Scene.{base}
use Rattle.lus_evaluation.specs.Part.{wholes}
use Rattle.evaluation_parts.specs.PartViews.{parts_view}
use Rattle.evaluation_parts.specs.Texts.{setting_view}
use Rattle.evaluation_parts.proofs.Steps.{one_added}
use Rattle.evaluation_parts.proofs.Firsts.{assertions_first}
use Rattle.evaluation_parts.proofs.frames.push_assertions.Goals as goal

pub loop-item-preserved : goal.loop-item-preserved
loop-item-preserved c =
    one_added (λ z. wholes (setting_view c.args.setting.now) base (assertions (item_view z ∷ []))) (λ zs. wholes (setting_view c.args.setting.now) base (assertions (map item_view zs)))
    (λ z zs. assertions_first (setting_view c.args.setting.now) (item_view z) (map item_view zs)) c.args.items.now c.loop-item.item-index c.item-item.result
    (parts_view c.loop-item.all.items)
    (parts_view c.push_assertion.new.all.items) _ c.loop-item-test.true c.item-item.is (c.loop-item.invariant)
    (c.in_ok-push_assertion.ensures)
