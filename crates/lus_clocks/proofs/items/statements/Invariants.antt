use Rattle.std.proofs.Common.{◌≡◌, drop, map, flat_map}
use Rattle.lus_tree.specs.View.{item_view}
use Rattle.lus_clocks.specs.Items.{statement_walk}
use Rattle.lus_streams.specs.Names.{names_view}
use Rattle.lus_scopes.specs.Least.{least_view, noted_all}
use Rattle.lus_clocks.proofs.items.statements.Given as goal

-- what was noted, followed by what is to come, is all
abbrev pub invariant-loop-item : goal.invariant-loop-item
invariant-loop-item l = noted_all (least_view l.least) (flat_map (statement_walk (names_view l.names)) (map item_view (drop l.item-index l.items)))
    ≡ noted_all (least_view l.initial.least) (flat_map (statement_walk (names_view l.names)) (map item_view l.items))
