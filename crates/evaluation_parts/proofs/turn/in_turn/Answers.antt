use Rattle.std.proofs.Common.{rules, ◌≡◌, [], ◌++◌, List, ap, ◌∙◌}
use Rattle.lus_tree.specs.View.{program_view}
use Rattle.lus_meaning.specs.Scene.{Instance}
use Rattle.lus_evaluation.specs.Frame.{FrameText, text_at, text_over}
use Rattle.lus_evaluation.specs.Turn.{condition_parts}
use Rattle.evaluation_parts.specs.Framed.{orders_view}
use Rattle.evaluation_parts.specs.PartViews.{parts_view}
use Rattle.evaluation_parts.specs.Texts.{frame_text_view, frame_texts_view}
use Rattle.evaluation_parts.specs.Views.{all_view, frame_declared, frame_instance}
use Rattle.evaluation_parts.proofs.Framed.{turned}
use Rattle.evaluation_parts.proofs.turn.in_turn.Goals as goal

pub returns : goal.returns
returns c =
    let i : Instance = frame_instance c.args.frame in
    let x : List FrameText = frame_texts_view c.in_ok-texts.texts.items in
    let f : FrameText = frame_text_view c.in_ok-text.text in
    let b : parts_view c.push_all.new.all.items ≡ f.body = search rules in
    turned (program_view c.args.frame.program.now) (all_view c.args.frame.all.now) (orders_view c.args.orders.now) c.args.frame.depth c.args.place
    (frame_declared c.args.frame) x f (parts_view c.push_conditions.new.all.items)
    c.in_ok-texts.ensures
    (c.in_ok-text.ensures
    ∙ ap (λ z. text_over (text_at (frame_texts_view z)) c.order_at.result.now [] i) c.deref.ensures.value
    ∙ ap (λ z. text_over (text_at x) z [] i) c.order_at.ensures)
    (c.in_ok-push_conditions.ensures
    ∙ ap (λ z. z ++ condition_parts (text_at (frame_texts_view c.deref-3.result.now)) f i) b
    ∙ ap (λ z. f.body ++ condition_parts (text_at (frame_texts_view z)) f i) c.deref-3.ensures.value)
