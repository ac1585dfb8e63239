use Rattle.std.proofs.Common.{◌≡◌, ◌++◌, map, drop}
use Rattle.lus_tree.specs.View.{named_view}
use Rattle.lus_meaning.specs.Occurrences.{on_base}
use Rattle.sys_occurrences.specs.Occurring.{placed}
use Rattle.sys_occurrences.specs.Views.{placed_view}
use Rattle.sys_occurrences.proofs.places.push_labelled.Given as goal

-- what is there, and what is to come, is all
abbrev pub invariant-loop-named : goal.invariant-loop-named
invariant-loop-named l =
    map placed_view l.places.items ++ map placed (on_base (map named_view (drop l.named-index l.labelled)))
    ≡ map placed_view l.initial.places.items ++ map placed (on_base (map named_view l.labelled))
