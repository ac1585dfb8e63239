use Rattle.std.proofs.Common.{refl}
use Rattle.evaluation_parts.specs.PartViews.{filled, filled_each, needed_in}
use Rattle.evaluation_parts.proofs.Steps.{one_pushed}
use Rattle.evaluation_parts.proofs.part.push_copies.Goals as goal

pub loop-part-preserved : goal.loop-part-preserved
loop-part-preserved c =
    λ ns. one_pushed (filled ns) (λ z. filled (needed_in ns c.args.whole.now) z) (λ zs. filled_each (needed_in ns c.args.whole.now) zs)
    (λ z zs. refl) c.args.more.now c.loop-part.part-index c.part-item.result
    (c.loop-part.parts.items)
    (c.push.new.self.items) (c.in_ok-copied_in.field-0) _ c.loop-part-test.true c.part-item.is (c.loop-part.invariant ns)
    (c.in_ok-push.ensures.items)
    (c.in_ok-copied_in.ensures ns)
