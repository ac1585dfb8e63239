use Rattle.std.proofs.Common.{◌++◌, ◌∙◌, [], ap, option_map}
use Rattle.lus_meaning.specs.Cycle.{next_places}
use Rattle.evaluation_parts.specs.PartViews.{places_view}
use Rattle.evaluation_parts.specs.Views.{frame_instance}
use Rattle.evaluation_order.specs.Steps.{all_under}
use Rattle.evaluation_order.proofs.Steps.{under_nothing}
use Rattle.evaluation_order.proofs.next.next_of.Goals as goal

pub returns : goal.returns
returns c =
    c.in_ok-push_next.ensures
    ∙ ap (λ z. places_view z ++ all_under [] (next_places (frame_instance c.args.frame) c.deref.result.now (option_map (λ x. x.now) c.args.place.now.name)))
    c.new-found.ensures.items
    ∙ under_nothing (next_places (frame_instance c.args.frame) c.deref.result.now (option_map (λ x. x.now) c.args.place.now.name))
    ∙ ap (λ z. next_places (frame_instance c.args.frame) z (option_map (λ x. x.now) c.args.place.now.name)) c.deref.ensures.value
