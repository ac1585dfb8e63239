use Rattle.std.proofs.Common.{◌∙◌, ◌++◌, refl, ap, slice_index_or}
use Rattle.lus_evaluation.specs.Frame.{text_at, no_text}
use Rattle.lus_evaluation.specs.Turn.{owed}
use Rattle.evaluation_parts.specs.PartViews.{parts_view}
use Rattle.evaluation_parts.specs.Texts.{frame_texts_view}
use Rattle.evaluation_parts.specs.Turns.{owed_each}
use Rattle.evaluation_parts.specs.Views.{links_view, site_view}
use Rattle.evaluation_parts.proofs.Steps.{one_added}
use Rattle.evaluation_parts.proofs.turn.push_owed_each.Goals as goal

pub loop-link-preserved : goal.loop-link-preserved
loop-link-preserved c =
    one_added (λ z. owed (site_view z) (site_view z).manner (text_at (frame_texts_view c.args.texts.now) (site_view z).number).contract) (λ zs. owed_each (text_at (frame_texts_view c.args.texts.now)) (links_view zs))
    (λ z zs. refl) c.args.links.now c.loop-link.link-index c.link-item.result
    (parts_view c.loop-link.all.items)
    (parts_view c.push_owed.new.all.items) _ c.loop-link-test.true c.link-item.is (c.loop-link.invariant)
    (c.in_ok-push_owed.ensures
    ∙ ap (λ z. parts_view c.loop-link.all.items ++ owed (site_view c.link-item.result) (site_view c.link-item.result).manner z.contract)
    (c.text_there-text.ensures ∙ ap (λ k. slice_index_or (frame_texts_view c.args.texts.now) k no_text) c.from_zero.ensures))
