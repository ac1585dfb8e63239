use Rattle.std.proofs.Common.{◌≡◌, ◌++◌, drop}
use Rattle.evaluation_parts.specs.PartViews.{places_view}
use Rattle.evaluation_order.specs.Numbered.{numbers_of}
use Rattle.evaluation_order.proofs.places.numbers_of.Given as goal

abbrev pub invariant-loop-place : goal.invariant-loop-place
invariant-loop-place l = l.numbers.items ++ numbers_of (places_view l.places) (places_view (drop l.place-index l.more))
    ≡ numbers_of (places_view l.places) (places_view l.more)
