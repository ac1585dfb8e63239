use Rattle.std.proofs.Common.{◌≡◌, take, map}
use Rattle.lus_meaning.specs.TraceView.{all_at, entry_view, placed_view}
use Rattle.lus_meaning.proofs.trace.placed_at.Given as goal

abbrev pub invariant-loop-value : goal.invariant-loop-value
invariant-loop-value l = map placed_view l.placed.items ≡ all_at l.at (map entry_view (take l.value-index l.values))
