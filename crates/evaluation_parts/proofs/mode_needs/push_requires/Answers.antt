use Rattle.std.proofs.Common.{refl, map}
use Rattle.lus_tree.specs.View.{named_view}
use Rattle.lus_meaning.specs.Scene.{base}
use Rattle.lus_meaning.specs.Depends.{needs}
use Rattle.evaluation_parts.specs.Needed.{needs_view, modes_needs_view, requires_need}
use Rattle.evaluation_parts.specs.Views.{frame_instance}
use Rattle.evaluation_parts.proofs.Steps.{one_added}
use Rattle.evaluation_parts.proofs.mode_needs.push_requires.Goals as goal

pub loop-one-preserved : goal.loop-one-preserved
loop-one-preserved c =
    one_added (λ z. needs (frame_instance c.args.frame) (modes_needs_view c.args.modes.now) base (named_view z).value) (λ zs. requires_need (frame_instance c.args.frame) (modes_needs_view c.args.modes.now) (map named_view zs))
    (λ z zs. refl) c.args.asked.now c.loop-one.one-index c.one-item.result
    (needs_view c.loop-one.needs.items)
    (needs_view c.push_needs.new.found.items) _ c.loop-one-test.true c.one-item.is (c.loop-one.invariant)
    (c.in_ok-push_needs.ensures)
