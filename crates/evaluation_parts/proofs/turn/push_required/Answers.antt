use Rattle.std.proofs.Common.{◌∙◌, ◌++◌, refl, ap}
use Rattle.evaluation_parts.specs.PartViews.{parts_view}
use Rattle.evaluation_parts.specs.Texts.{mode_texts_view}
use Rattle.evaluation_parts.specs.Turns.{required_each}
use Rattle.evaluation_parts.proofs.Steps.{one_added}
use Rattle.evaluation_parts.proofs.turn.push_required.Goals as goal

pub loop-mode-preserved : goal.loop-mode-preserved
loop-mode-preserved c =
    one_added (λ z. parts_view z.required.items) (λ zs. required_each (mode_texts_view zs))
    (λ z zs. refl) c.args.modes.now c.loop-mode.mode-index c.mode-item.result
    (parts_view c.loop-mode.all.items)
    (parts_view c.push_all.new.all.items) _ c.loop-mode-test.true c.mode-item.is (c.loop-mode.invariant)
    (c.in_ok-push_all.ensures ∙ ap (λ z. parts_view c.loop-mode.all.items ++ parts_view z) c.deref.ensures.value)
