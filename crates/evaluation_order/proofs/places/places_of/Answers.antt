use Rattle.std.proofs.Common.{◌∙◌, ap, rules}
use Rattle.evaluation_parts.specs.PartViews.{parts_view, place_view, places_view}
use Rattle.evaluation_parts.specs.Views.{frame_instance}
use Rattle.evaluation_order.specs.Numbered.{met_all}
use Rattle.evaluation_order.proofs.Closing.{begins, ends_seen, goes_on_seen}
use Rattle.evaluation_order.proofs.places.places_of.Goals as goal

pub loop-turn-init : goal.loop-turn-init
loop-turn-init c = begins (frame_instance c.args.frame) (parts_view c.args.parts.now) _ (places_view c.meet_parts.new.places.items) c.in_ok-meet_parts.ensures

pub loop-turn-preserved : goal.loop-turn-preserved
loop-turn-preserved c =
    goes_on_seen place_view (frame_instance c.args.frame) (parts_view c.args.parts.now) c.loop-turn.places.items c.loop-turn.turn c.loop-turn.invariant
    (places_view c.meet_all.new.places.items) c.index.result.now c.index.ensures (search rules)
    (c.in_ok-meet_all.ensures ∙ ap (λ z. met_all (places_view c.loop-turn.places.items) (places_view z)) c.deref.ensures.value
    ∙ ap (met_all (places_view c.loop-turn.places.items)) c.in_ok-more.ensures)

pub returns : goal.returns
returns c =
    ends_seen place_view (frame_instance c.args.frame) (parts_view c.args.parts.now) c.loop-turn.places.items c.loop-turn.turn c.loop-turn.invariant
    (search rules)
