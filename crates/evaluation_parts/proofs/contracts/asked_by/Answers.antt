use Rattle.std.proofs.Common.{[], refl, map}
use Rattle.lus_tree.specs.View.{named_view}
use Rattle.lus_meaning.specs.Scene.{base}
use Rattle.lus_evaluation.specs.Part.{parts}
use Rattle.evaluation_parts.specs.Conditions.{asked_of}
use Rattle.evaluation_parts.specs.PartViews.{filled_each}
use Rattle.evaluation_parts.specs.Texts.{setting_view}
use Rattle.evaluation_parts.proofs.Steps.{one_added}
use Rattle.evaluation_parts.proofs.contracts.asked_by.Goals as goal

pub loop-one-preserved : goal.loop-one-preserved
loop-one-preserved c =
    λ ns. one_added (λ z. parts (setting_view c.args.setting.now) ns [] base (named_view z).value) (λ zs. asked_of (setting_view c.args.setting.now) (map named_view zs) ns)
    (λ z zs. refl) c.args.asked.now c.loop-one.one-index c.one-item.result
    (filled_each ns c.loop-one.all.items)
    (filled_each ns c.push_parts.new.all.items) _ c.loop-one-test.true c.one-item.is (c.loop-one.invariant ns)
    (c.in_ok-push_parts.ensures ns)
