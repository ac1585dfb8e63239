use Rattle.std.proofs.Common.{◌≡◌, ◌++◌, map, flat_map, drop}
use Rattle.lus_tree.specs.Numbers.{statement_expressions}
use Rattle.lus_tree.specs.View.{item_view}
use Rattle.path_traces.specs.Kinds.{numbers_of}
use Rattle.path_traces.proofs.numbers.push_body.Given as goal

-- what is there, and what is to come, is all
abbrev pub invariant-loop-item : goal.invariant-loop-item
invariant-loop-item l =
    l.numbers.items ++ flat_map (numbers_of l.kind) (flat_map statement_expressions (map item_view (drop l.item-index l.items)))
    ≡ l.initial.numbers.items ++ flat_map (numbers_of l.kind) (flat_map statement_expressions (map item_view l.items))
