use Rattle.std.proofs.Common.{refl}
use Rattle.evaluation_parts.specs.Needed.{need_view, needs_view}
use Rattle.evaluation_parts.proofs.Steps.{one_pushed}
use Rattle.evaluation_parts.proofs.need.copies.Goals as goal

pub loop-need-preserved : goal.loop-need-preserved
loop-need-preserved c =
    one_pushed need_view (λ z. need_view z) (λ zs. needs_view zs)
    (λ z zs. refl) c.args.needs.now c.loop-need.need-index c.need-item.result
    (c.loop-need.all.items)
    (c.push.new.self.items) (c.in_ok-copied.field-0) _ c.loop-need-test.true c.need-item.is (c.loop-need.invariant)
    (c.in_ok-push.ensures.items)
    (c.in_ok-copied.ensures)
