use Rattle.std.proofs.Common.{◌∙◌, ◌++◌, ap, flat_map, option_to_list, slice_get, get_or}
use Rattle.std.proofs.lemmas.List.{get_or_default}
use Rattle.lus_evaluation.specs.Frame.{equation_parts, picked}
use Rattle.evaluation_parts.specs.Bodies.{sides_view}
use Rattle.evaluation_parts.specs.PartViews.{parts_view}
use Rattle.evaluation_parts.specs.Texts.{setting_view}
use Rattle.evaluation_parts.proofs.Picked.{picked_first}
use Rattle.evaluation_parts.proofs.Steps.{one_added}
use Rattle.evaluation_parts.proofs.bodies.push_sides.Goals as goal

pub loop-number-preserved : goal.loop-number-preserved
loop-number-preserved c =
    one_added (λ z. flat_map (equation_parts (setting_view c.args.setting.now)) (option_to_list (slice_get (sides_view c.args.sides.now) z))) (λ zs. flat_map (equation_parts (setting_view c.args.setting.now)) (picked zs (sides_view c.args.sides.now)))
    (λ z zs. picked_first (equation_parts (setting_view c.args.setting.now)) z zs (sides_view c.args.sides.now)) c.args.order.now c.loop-number.number-index (get_or c.args.order.now c.loop-number.number-index 0)
    (parts_view c.loop-number.all.items)
    (parts_view c.push_side_there.new.all.items) _ c.loop-number-test.true
    (get_or_default c.args.order.now c.loop-number.number-index 0 _ c.loop-number-test.true) c.loop-number.invariant
    (c.in_ok-push_side_there.ensures ∙ ap (λ z. parts_view c.loop-number.all.items ++ flat_map (equation_parts (setting_view c.args.setting.now)) (option_to_list z)) c.side_at.ensures)
