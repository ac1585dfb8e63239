use Rattle.std.proofs.Common.{refl, map}
use Rattle.lus_evaluation.specs.Part.{from_top}
use Rattle.evaluation_parts.specs.Needed.{need_view, needs_view}
use Rattle.evaluation_parts.specs.PartViews.{place_view}
use Rattle.evaluation_parts.proofs.Steps.{one_pushed}
use Rattle.evaluation_parts.proofs.placing.all_from_top.Goals as goal

pub loop-need-preserved : goal.loop-need-preserved
loop-need-preserved c =
    one_pushed place_view (λ z. from_top c.args.way.now (need_view z)) (λ zs. map (from_top c.args.way.now) (needs_view zs))
    (λ z zs. refl) c.args.needs.now c.loop-need.need-index c.need-item.result
    (c.loop-need.all.items)
    (c.push.new.self.items) (c.in_ok-from_top.field-0) _ c.loop-need-test.true c.need-item.is (c.loop-need.invariant)
    (c.in_ok-push.ensures.items)
    (c.in_ok-from_top.ensures)
