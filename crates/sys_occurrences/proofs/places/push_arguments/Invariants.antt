use Rattle.std.proofs.Common.{◌≡◌, ◌++◌, map, drop}
use Rattle.lus_tree.specs.View.{expr_view}
use Rattle.lus_meaning.specs.Scene.{base}
use Rattle.sys_occurrences.specs.Views.{placed_view}
use Rattle.sys_occurrences.proofs.places.push_arguments.Given as goal

-- what is there, and what is to come, is all
abbrev pub invariant-loop-argument : goal.invariant-loop-argument
invariant-loop-argument l =
    map placed_view l.places.items ++ map (λ a. (base, a)) (map expr_view (drop l.argument-index l.arguments))
    ≡ map placed_view l.initial.places.items ++ map (λ a. (base, a)) (map expr_view l.arguments)
