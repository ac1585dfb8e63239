use Rattle.std.proofs.Common.{◌≡◌, length, map}
use Rattle.lus_limits.specs.Needed.{KeepsKnown, unknowns}
use Rattle.lus_streams.specs.Owner.{owner_view}
use Rattle.lus_limits.proofs.settling.settle.Given as goal

abbrev pub invariant-loop : goal.invariant-loop
invariant-loop l = record {
  many : length l.known.items ≡ length l.fn.known.items;
  kept : KeepsKnown l.names (map owner_view l.parts) l.fn.known.items l.known.items;
}

abbrev pub decreases-loop : goal.decreases-loop
decreases-loop l = unknowns l.known.items
