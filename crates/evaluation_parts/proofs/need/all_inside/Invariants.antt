use Rattle.std.proofs.Common.{◌≡◌, ◌++◌, map, drop}
use Rattle.lus_meaning.specs.Depends.{inside}
use Rattle.evaluation_parts.specs.Needed.{needs_view}
use Rattle.evaluation_parts.proofs.need.all_inside.Given as goal

abbrev pub invariant-loop-need : goal.invariant-loop-need
invariant-loop-need l = needs_view l.all.items ++ map (inside l.call) (needs_view (drop l.need-index l.needs)) ≡ map (inside l.call) (needs_view l.needs)
