use Rattle.std.proofs.Common.{◌≡◌, ap, ◌∙◌, ◌++◌, ◌∷◌, [], pred, refl}
use Rattle.lus_tree.specs.View.{program_view}
use Rattle.evaluation_parts.specs.Framed.{called_texts, orders_view, text_called}
use Rattle.evaluation_parts.specs.Texts.{frame_text_view, frame_texts_view}
use Rattle.evaluation_parts.specs.Views.{all_view, frame_declared, links_view}
use Rattle.evaluation_parts.proofs.Framed.{within_by}
use Rattle.evaluation_parts.proofs.Steps.{one_pushed}
use Rattle.evaluation_parts.proofs.frames.+texts.Goals as goal

pub frame_text-returns : goal.frame_text-returns
frame_text-returns t c = within_by (program_view c.args.frame.program.now) (all_view c.args.frame.all.now) (orders_view c.args.orders.now)
    c.args.frame.depth c.args.way.now c.args.place (frame_declared c.args.frame) (frame_texts_view c.deref.result.now) c.order_at.result.now
    (frame_text_view c.in_ok-text.text) (ap frame_texts_view c.deref.ensures.value ∙ c.in_ok-texts.ensures) c.order_at.ensures c.in_ok-text.ensures

pub each_text-loop-link-preserved : goal.each_text-loop-link-preserved
each_text-loop-link-preserved t c =
    one_pushed frame_text_view (λ z. text_called (program_view c.args.frame.program.now) (all_view c.args.frame.all.now) (orders_view c.args.orders.now) (pred c.args.frame.depth) (c.args.way.now ++ z.number ∷ []) z.place)
    (λ zs. called_texts (text_called (program_view c.args.frame.program.now) (all_view c.args.frame.all.now) (orders_view c.args.orders.now) (pred c.args.frame.depth)) c.args.way.now (links_view zs)) (λ z zs. refl)
    c.args.links.now c.loop-link.link-index c.link-item.result c.loop-link.all.items c.push.new.self.items c.in_ok-text_called.field-0 _
    c.loop-link-test.true c.link-item.is c.loop-link.invariant c.in_ok-push.ensures.items
    (c.in_ok-text_called.ensures ∙ ap (λ w. text_called (program_view c.args.frame.program.now) (all_view c.args.frame.all.now) (orders_view c.args.orders.now) (pred c.args.frame.depth) w c.link-item.result.place) (c.deref.ensures.value ∙ c.in_ok-longer.ensures))
