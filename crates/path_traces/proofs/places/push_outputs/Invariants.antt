use Rattle.std.proofs.Common.{◌≡◌, ◌++◌, ◌-◌, map, drop}
use Rattle.lus_tree.specs.View.{param_view}
use Rattle.path_traces.specs.Places.{output_places, place_seen}
use Rattle.path_traces.proofs.places.push_outputs.Given as goal

-- what is there, and what is to come, is all
abbrev pub invariant-loop-index : goal.invariant-loop-index
invariant-loop-index l =
    map place_seen l.places.items ++ output_places l.path (map param_view (drop l.index l.outputs)) (l.defaults - l.index)
    ≡ map place_seen l.initial.places.items ++ output_places l.path (map param_view l.outputs) l.defaults
