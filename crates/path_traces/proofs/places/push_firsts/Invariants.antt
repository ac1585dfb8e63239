use Rattle.std.proofs.Common.{◌≡◌, ◌++◌, ◌-◌, suc, map}
use Rattle.path_traces.specs.Places.{first_places, place_seen}
use Rattle.path_traces.proofs.places.push_firsts.Given as goal

-- what is there, and what is to come, is all
abbrev pub invariant-loop-index : goal.invariant-loop-index
invariant-loop-index l =
    map place_seen l.places.items ++ first_places l.path (suc l.index) (l.count - l.index)
    ≡ map place_seen l.initial.places.items ++ first_places l.path 1 l.count
