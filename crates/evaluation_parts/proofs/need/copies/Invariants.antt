use Rattle.std.proofs.Common.{◌≡◌, ◌++◌, drop}
use Rattle.evaluation_parts.specs.Needed.{needs_view}
use Rattle.evaluation_parts.proofs.need.copies.Given as goal

abbrev pub invariant-loop-need : goal.invariant-loop-need
invariant-loop-need l = needs_view l.all.items ++ needs_view (drop l.need-index l.needs) ≡ needs_view l.needs
