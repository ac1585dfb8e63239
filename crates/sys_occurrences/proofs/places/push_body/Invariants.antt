use Rattle.std.proofs.Common.{◌≡◌, ◌++◌, map, flat_map, drop}
use Rattle.lus_tree.specs.View.{item_view}
use Rattle.lus_meaning.specs.Occurrences.{statement_texts}
use Rattle.lus_streams.specs.Names.{names_view}
use Rattle.sys_occurrences.specs.Occurring.{placed}
use Rattle.sys_occurrences.specs.Views.{placed_view}
use Rattle.sys_occurrences.proofs.places.push_body.Given as goal

-- what is there, and what is to come, is all
abbrev pub invariant-loop-item : goal.invariant-loop-item
invariant-loop-item l =
    map placed_view l.places.items ++ map placed (flat_map (statement_texts (names_view l.names)) (map item_view (drop l.item-index l.items)))
    ≡ map placed_view l.initial.places.items ++ map placed (flat_map (statement_texts (names_view l.names)) (map item_view l.items))
