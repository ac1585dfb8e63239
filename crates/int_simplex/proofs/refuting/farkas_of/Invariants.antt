use Rattle.std.specs.Prelude.{◌≡◌, map, take}
use Rattle.int_simplex.specs.Refuting.{part_of}
use Rattle.int_simplex.proofs.refuting.farkas_of.Given as goal

abbrev pub invariant-loop-t : goal.invariant-loop-t
invariant-loop-t l = l.parts.items ≡ map (part_of l.row l.x l.side l.lowers l.uppers) (take l.t-index l.row)
