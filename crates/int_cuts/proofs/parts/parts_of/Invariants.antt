use Rattle.std.specs.Prelude.{List, map, drop, ◌++◌}
use Rattle.int_cuts.specs.declared.parts.Part.{Part}
use Rattle.int_cuts.specs.Parts.{facing, AreParts}
use Rattle.int_cuts.proofs.parts.parts_of.Given as goal

abbrev pub invariant-loop-t : goal.invariant-loop-t
invariant-loop-t l =
    (more : List Part) → AreParts l.tableau l.x l.d (map (facing l.down) (drop l.t-index l.row)) more
    → AreParts l.tableau l.x l.d (map (facing l.down) l.row) (l.parts.items ++ more)
