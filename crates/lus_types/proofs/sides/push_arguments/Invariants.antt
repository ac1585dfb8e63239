use Rattle.std.proofs.Common.{◌≡◌, ◌++◌, drop, map}
use Rattle.lus_tree.specs.View.{expr_view}
use Rattle.lus_types.specs.Sides.{sides_view}
use Rattle.lus_types.proofs.sides.push_arguments.Given as goal

-- what is there, followed by what is to come, is all
abbrev pub invariant-loop-argument : goal.invariant-loop-argument
invariant-loop-argument l = sides_view l.sides.items ++ map expr_view (drop l.argument-index l.arguments)
    ≡ sides_view l.initial.sides.items ++ map expr_view l.arguments
