use Rattle.std.proofs.Common.{refl, map}
use Rattle.lus_tree.specs.View.{word_view}
use Rattle.lus_evaluation.specs.Frame.{imported_mode}
use Rattle.evaluation_parts.specs.Texts.{mode_text_view, mode_texts_view}
use Rattle.evaluation_parts.proofs.Steps.{one_pushed}
use Rattle.evaluation_parts.proofs.contracts.push_modes.Goals as goal

pub loop-mode-preserved : goal.loop-mode-preserved
loop-mode-preserved c =
    one_pushed mode_text_view (λ z. imported_mode (word_view c.args.contract.now).text (mode_text_view z)) (λ zs. map (imported_mode (word_view c.args.contract.now).text) (mode_texts_view zs))
    (λ z zs. refl) c.args.more.now c.loop-mode.mode-index c.mode-item.result
    (c.loop-mode.modes.items)
    (c.push.new.self.items) (c.in_ok-imported_mode.field-0) _ c.loop-mode-test.true c.mode-item.is (c.loop-mode.invariant)
    (c.in_ok-push.ensures.items)
    (c.in_ok-imported_mode.ensures)
