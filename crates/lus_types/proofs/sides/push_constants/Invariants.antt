use Rattle.std.proofs.Common.{◌≡◌, ◌++◌, drop, map}
use Rattle.lus_tree.specs.View.{definition_view}
use Rattle.lus_types.specs.Called.{constant_sides}
use Rattle.lus_types.specs.Sides.{sides_view}
use Rattle.lus_types.proofs.sides.push_constants.Given as goal

-- what is there, followed by what is to come, is all
abbrev pub invariant-loop-constant : goal.invariant-loop-constant
invariant-loop-constant l = sides_view l.sides.items ++ constant_sides (map definition_view (drop l.constant-index l.constants))
    ≡ sides_view l.initial.sides.items ++ constant_sides (map definition_view l.constants)
