use Rattle.std.proofs.Common.{◌≡◌, None, replicate}
use Rattle.part_resolver.proofs.kept.none_kept.Given as goal

abbrev pub invariant-loop : goal.invariant-loop
invariant-loop l = l.kept.items ≡ replicate l.counter None
