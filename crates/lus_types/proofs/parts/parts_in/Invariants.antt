use Rattle.std.proofs.Common.{◌≡◌, ◌++◌, true, drop, flat_map}
use Rattle.lus_types.specs.Sides.{parts_of, sides_view}
use Rattle.lus_types.proofs.parts.parts_in.Given as goal

-- what is there, followed by what is to come, is all
abbrev pub invariant-loop-side : goal.invariant-loop-side
invariant-loop-side l = sides_view l.all.items ++ flat_map (parts_of true) (sides_view (drop l.side-index l.sides))
    ≡ flat_map (parts_of true) (sides_view l.sides)
