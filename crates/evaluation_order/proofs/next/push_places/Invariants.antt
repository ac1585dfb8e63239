use Rattle.std.proofs.Common.{◌≡◌, ◌++◌, drop}
use Rattle.evaluation_parts.specs.Needed.{needs_view}
use Rattle.evaluation_parts.specs.PartViews.{places_view}
use Rattle.evaluation_order.specs.Steps.{all_under, places_of}
use Rattle.evaluation_order.proofs.next.push_places.Given as goal

abbrev pub invariant-loop-need : goal.invariant-loop-need
invariant-loop-need l = places_view l.found.items ++ all_under l.before (places_of (needs_view (drop l.need-index l.needs)))
    ≡ places_view l.initial.found.items ++ all_under l.before (places_of (needs_view l.needs))
