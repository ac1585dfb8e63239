use Rattle.std.proofs.Common.{◌≡◌, drop, map, flat_map}
use Rattle.lus_tree.specs.View.{named_view}
use Rattle.lus_meaning.specs.Scene.{base}
use Rattle.lus_clocks.specs.Items.{placed_walk}
use Rattle.lus_streams.specs.Names.{names_view}
use Rattle.lus_scopes.specs.Least.{least_view, noted_all}
use Rattle.lus_clocks.proofs.items.labelled.Given as goal

-- what was noted, followed by what is to come, is all
abbrev pub invariant-loop-named : goal.invariant-loop-named
invariant-loop-named l = noted_all (least_view l.least)
    (flat_map (λ z. placed_walk (names_view l.names) base z.value) (map named_view (drop l.named-index l.all)))
    ≡ noted_all (least_view l.initial.least) (flat_map (λ z. placed_walk (names_view l.names) base z.value) (map named_view l.all))
