use Rattle.std.proofs.Common.{◌≡◌, ◌≤◌, length, map}
use Rattle.lus_limits.specs.Needed.{AreTriedFrom}
use Rattle.lus_streams.specs.Owner.{owner_view}
use Rattle.lus_limits.proofs.settling.round_back.Given as goal

abbrev pub invariant-loop-left : goal.invariant-loop-left
invariant-loop-left l = record {
  below : l.left ≤ length l.parts;
  known : length l.known.items ≡ length l.names;
  tried : AreTriedFrom l.names (map owner_view l.parts) l.fn.known.items l.known.items l.left (length l.parts) l.more;
}

abbrev pub decreases-loop-left : goal.decreases-loop-left
decreases-loop-left l = l.left
