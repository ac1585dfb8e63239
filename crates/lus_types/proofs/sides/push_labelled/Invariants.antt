use Rattle.std.proofs.Common.{◌≡◌, ◌++◌, drop, map}
use Rattle.lus_tree.specs.View.{named_view}
use Rattle.lus_types.specs.Called.{values_of}
use Rattle.lus_types.specs.Sides.{sides_view}
use Rattle.lus_types.proofs.sides.push_labelled.Given as goal

-- what is there, followed by what is to come, is all
abbrev pub invariant-loop-named : goal.invariant-loop-named
invariant-loop-named l = sides_view l.sides.items ++ values_of (map named_view (drop l.named-index l.labelled))
    ≡ sides_view l.initial.sides.items ++ values_of (map named_view l.labelled)
