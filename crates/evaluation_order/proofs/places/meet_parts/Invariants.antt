use Rattle.std.proofs.Common.{◌≡◌, drop}
use Rattle.evaluation_parts.specs.PartViews.{parts_view, places_view}
use Rattle.evaluation_order.specs.Numbered.{met_parts}
use Rattle.evaluation_order.proofs.places.meet_parts.Given as goal

abbrev pub invariant-loop-part : goal.invariant-loop-part
invariant-loop-part l = met_parts (places_view l.places.items) (parts_view (drop l.part-index l.parts))
    ≡ met_parts (places_view l.initial.places.items) (parts_view l.parts)
