use Rattle.std.proofs.Common.{◌≡◌, drop}
use Rattle.std.specs.List.{position_from}
use Rattle.evaluation_parts.specs.PartViews.{place_view, places_view}
use Rattle.evaluation_order.specs.Numbered.{number_of, same_place}
use Rattle.evaluation_order.proofs.places.number_of.Given as goal

abbrev pub invariant-loop-known : goal.invariant-loop-known
invariant-loop-known l = record {
  counted : l.number ≡ l.known-index;
  found : position_from (same_place (place_view l.place)) l.known-index (places_view (drop l.known-index l.places))
      ≡ number_of (places_view l.places) (place_view l.place);
}
