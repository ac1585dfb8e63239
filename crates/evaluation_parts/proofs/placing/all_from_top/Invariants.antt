use Rattle.std.proofs.Common.{◌≡◌, ◌++◌, map, drop}
use Rattle.lus_evaluation.specs.Part.{from_top}
use Rattle.evaluation_parts.specs.Needed.{needs_view}
use Rattle.evaluation_parts.specs.PartViews.{places_view}
use Rattle.evaluation_parts.proofs.placing.all_from_top.Given as goal

abbrev pub invariant-loop-need : goal.invariant-loop-need
invariant-loop-need l = places_view l.all.items ++ map (from_top l.way) (needs_view (drop l.need-index l.needs))
    ≡ map (from_top l.way) (needs_view l.needs)
