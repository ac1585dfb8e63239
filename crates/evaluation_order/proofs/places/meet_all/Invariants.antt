use Rattle.std.proofs.Common.{◌≡◌, drop}
use Rattle.evaluation_parts.specs.PartViews.{places_view}
use Rattle.evaluation_order.specs.Numbered.{met_all}
use Rattle.evaluation_order.proofs.places.meet_all.Given as goal

abbrev pub invariant-loop-place : goal.invariant-loop-place
invariant-loop-place l = met_all (places_view l.places.items) (places_view (drop l.place-index l.more))
    ≡ met_all (places_view l.initial.places.items) (places_view l.more)
