use Rattle.std.proofs.Common.{◌≡◌, ◌++◌, map, drop}
use Rattle.lus_tree.specs.View.{definition_view}
use Rattle.lus_meaning.specs.Occurrences.{constant_texts}
use Rattle.sys_occurrences.specs.Occurring.{placed}
use Rattle.sys_occurrences.specs.Views.{placed_view}
use Rattle.sys_occurrences.proofs.places.push_constants.Given as goal

-- what is there, and what is to come, is all
abbrev pub invariant-loop-constant : goal.invariant-loop-constant
invariant-loop-constant l =
    map placed_view l.places.items ++ map placed (constant_texts (map definition_view (drop l.constant-index l.constants)))
    ≡ map placed_view l.initial.places.items ++ map placed (constant_texts (map definition_view l.constants))
