use Rattle.std.proofs.Common.{◌-◌}
use Rattle.evaluation_parts.specs.PartViews.{parts_view, places_view}
use Rattle.evaluation_parts.specs.Views.{frame_instance}
use Rattle.evaluation_order.proofs.Closing.{IsClosing}
use Rattle.evaluation_order.proofs.places.places_of.Given as goal

abbrev pub invariant-loop-turn : goal.invariant-loop-turn
invariant-loop-turn l = IsClosing (frame_instance l.frame) (parts_view l.parts) (places_view l.places.items) l.turn

-- a list is no longer than a number of the machine tells
abbrev pub decreases-loop-turn : goal.decreases-loop-turn
decreases-loop-turn l = 18446744073709551615 - l.turn
