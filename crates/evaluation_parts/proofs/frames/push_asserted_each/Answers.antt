use Rattle.std.proofs.Common.{◌∙◌, ◌++◌, refl, ap, slice_index_or}
use Rattle.lus_evaluation.specs.Frame.{asserted_below, no_text}
use Rattle.evaluation_parts.specs.Conditions.{calls_view}
use Rattle.evaluation_parts.specs.Framed.{asserted_each}
use Rattle.evaluation_parts.specs.PartViews.{parts_view}
use Rattle.evaluation_parts.specs.Texts.{frame_texts_view, setting_view}
use Rattle.evaluation_parts.specs.Views.{links_view, site_view}
use Rattle.evaluation_parts.proofs.Steps.{one_added}
use Rattle.evaluation_parts.proofs.frames.push_asserted_each.Goals as goal

pub loop-link-preserved : goal.loop-link-preserved
loop-link-preserved c =
    one_added (λ z. asserted_below (setting_view c.args.setting.now) (site_view z) ((calls_view c.args.setting.now) (site_view z).number)) (λ zs. asserted_each (setting_view c.args.setting.now) (calls_view c.args.setting.now) (links_view zs))
    (λ z zs. refl) c.args.links.now c.loop-link.link-index c.link-item.result
    (parts_view c.loop-link.all.items)
    (parts_view c.push_asserted.new.all.items) _ c.loop-link-test.true c.link-item.is (c.loop-link.invariant)
    (c.in_ok-push_asserted.ensures
    ∙ ap (λ z. parts_view c.loop-link.all.items ++ asserted_below (setting_view c.args.setting.now) (site_view c.link-item.result) z)
    (c.text_there-text.ensures ∙ ap (λ k. slice_index_or (frame_texts_view c.args.setting.now.texts.now) k no_text) c.from_zero.ensures))
