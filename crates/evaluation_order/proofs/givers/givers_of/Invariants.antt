use Rattle.std.proofs.Common.{◌≡◌, ◌++◌, drop}
use Rattle.evaluation_parts.specs.PartViews.{parts_view, places_view}
use Rattle.evaluation_order.specs.GiverViews.{givers_view}
use Rattle.evaluation_order.specs.Givers.{givers_from}
use Rattle.evaluation_order.proofs.givers.givers_of.Given as goal

abbrev pub invariant-loop-part : goal.invariant-loop-part
invariant-loop-part l = record {
  counted : l.number ≡ l.part-index;
  given : givers_view l.givers.items
      ++ givers_from (places_view l.places) (parts_view l.parts) l.part-index (parts_view (drop l.part-index l.parts))
      ≡ givers_from (places_view l.places) (parts_view l.parts) 0 (parts_view l.parts);
}
