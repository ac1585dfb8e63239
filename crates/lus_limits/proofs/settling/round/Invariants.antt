use Rattle.std.proofs.Common.{◌≡◌, length, map}
use Rattle.lus_limits.specs.Needed.{AreTried}
use Rattle.lus_streams.specs.Owner.{owner_view}
use Rattle.lus_limits.proofs.settling.round.Given as goal

abbrev pub invariant-loop-number : goal.invariant-loop-number
invariant-loop-number l = record {
  known : length l.known.items ≡ length l.names;
  tried : AreTried l.names (map owner_view l.parts) l.fn.known.items l.known.items l.number l.more;
}
