use Rattle.std.proofs.Common.{[], refl, map}
use Rattle.lus_tree.specs.View.{named_view}
use Rattle.lus_meaning.specs.Scene.{base}
use Rattle.lus_evaluation.specs.Part.{whole_parts}
use Rattle.lus_evaluation.specs.Frame.{conditions_of}
use Rattle.evaluation_parts.specs.PartViews.{parts_view}
use Rattle.evaluation_parts.specs.Texts.{setting_view}
use Rattle.evaluation_parts.proofs.Steps.{one_added}
use Rattle.evaluation_parts.proofs.contracts.push_conditions.Goals as goal

pub loop-condition-preserved : goal.loop-condition-preserved
loop-condition-preserved c =
    one_added (λ z. whole_parts (setting_view c.args.setting.now) [] base (named_view z).value) (λ zs. conditions_of (setting_view c.args.setting.now) (map named_view zs))
    (λ z zs. refl) c.args.conditions.now c.loop-condition.condition-index c.condition-item.result
    (parts_view c.loop-condition.all.items)
    (parts_view c.push_whole.new.all.items) _ c.loop-condition-test.true c.condition-item.is (c.loop-condition.invariant)
    (c.in_ok-push_whole.ensures)
