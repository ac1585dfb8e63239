use Rattle.std.proofs.Common.{◌≡◌, ◌++◌, ◌-◌, map}
use Rattle.path_traces.specs.Places.{no_places, place_seen}
use Rattle.path_traces.proofs.places.push_none.Given as goal

-- what is there, and what is to come, is all
abbrev pub invariant-loop-index : goal.invariant-loop-index
invariant-loop-index l =
    map place_seen l.places.items ++ no_places (l.count - l.index) ≡ map place_seen l.initial.places.items ++ no_places l.count
