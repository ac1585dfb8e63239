use Rattle.std.specs.Prelude.{◌≡◌, map, take}
use Rattle.int_simplex.specs.State.{plain}
use Rattle.int_simplex.specs.Inner.{standing}
use Rattle.int_simplex.proofs.run.plain_bounds.Given as goal

abbrev pub invariant-loop-a : goal.invariant-loop-a
invariant-loop-a l = l.bounds.items ≡ map plain (map standing (take l.a-index l.trail))
