use Rattle.std.proofs.Common.{◌∙◌, ◌++◌, ◌∷◌, [], refl, ap, map, pred, get_or}
use Rattle.std.proofs.lemmas.List.{get_or_default}
use Rattle.evaluation_parts.proofs.Steps.{one_added}
use Rattle.evaluation_parts.proofs.placing.from_zero_each.Goals as goal

pub loop-number-preserved : goal.loop-number-preserved
loop-number-preserved c =
    one_added (λ z. pred z ∷ []) (λ zs. map pred zs)
    (λ z zs. refl) c.args.way.now c.loop-number.number-index (get_or c.args.way.now c.loop-number.number-index 0)
    (c.loop-number.places.items)
    (c.push.new.self.items) _ c.loop-number-test.true
    (get_or_default c.args.way.now c.loop-number.number-index 0 _ c.loop-number-test.true) c.loop-number.invariant
    (c.in_ok-push.ensures.items ∙ ap (λ z. c.loop-number.places.items ++ z ∷ []) c.from_zero.ensures)
