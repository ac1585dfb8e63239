use Rattle.std.proofs.Common.{[], refl}
use Rattle.lus_tree.specs.View.{expr_view, exprs_view}
use Rattle.lus_streams.specs.Clocks.{clock_seen}
use Rattle.lus_evaluation.specs.Part.{wholes, whole_parts}
use Rattle.evaluation_parts.specs.PartViews.{parts_view}
use Rattle.evaluation_parts.specs.Texts.{setting_view}
use Rattle.evaluation_parts.proofs.Steps.{one_added}
use Rattle.evaluation_parts.proofs.bodies.push_wholes.Goals as goal

pub loop-value-preserved : goal.loop-value-preserved
loop-value-preserved c =
    one_added (λ z. whole_parts (setting_view c.args.setting.now) [] (clock_seen c.args.clock) (expr_view z)) (λ zs. wholes (setting_view c.args.setting.now) (clock_seen c.args.clock) (exprs_view zs))
    (λ z zs. refl) c.args.values.now c.loop-value.value-index c.value-item.result
    (parts_view c.loop-value.all.items)
    (parts_view c.push_whole.new.all.items) _ c.loop-value-test.true c.value-item.is (c.loop-value.invariant)
    (c.in_ok-push_whole.ensures)
