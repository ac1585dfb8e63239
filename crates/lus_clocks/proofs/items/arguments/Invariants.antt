use Rattle.std.proofs.Common.{◌≡◌, drop, map, flat_map}
use Rattle.lus_tree.specs.View.{expr_view}
use Rattle.lus_meaning.specs.Scene.{base}
use Rattle.lus_clocks.specs.Items.{placed_walk}
use Rattle.lus_streams.specs.Names.{names_view}
use Rattle.lus_scopes.specs.Least.{least_view, noted_all}
use Rattle.lus_clocks.proofs.items.arguments.Given as goal

-- what was noted, followed by what is to come, is all
abbrev pub invariant-loop-argument : goal.invariant-loop-argument
invariant-loop-argument l = noted_all (least_view l.least) (flat_map (placed_walk (names_view l.names) base) (map expr_view (drop l.argument-index l.all)))
    ≡ noted_all (least_view l.initial.least) (flat_map (placed_walk (names_view l.names) base) (map expr_view l.all))
