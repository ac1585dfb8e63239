use Rattle.std.proofs.Common.{◌≡◌, ◌++◌, drop, map, flat_map}
use Rattle.lus_tree.specs.View.{item_view}
use Rattle.lus_meaning.specs.EquationFaults.{body_sides}
use Rattle.lus_order.specs.Names.{words_view}
use Rattle.lus_order.proofs.words.body_lefts.Given as goal

-- what is there, followed by what is to come, is all
abbrev pub invariant-loop-item : goal.invariant-loop-item
invariant-loop-item l = words_view l.words.items ++ flat_map (λ xs. xs) (body_sides (map item_view (drop l.item-index l.node.items.items)))
    ≡ flat_map (λ xs. xs) (body_sides (map item_view l.node.items.items))
