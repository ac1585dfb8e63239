use Rattle.std.proofs.Common.{◌≡◌, ◌++◌, map, drop}
use Rattle.lus_streams.specs.Streams.{params_view}
use Rattle.path_traces.specs.Places.{name_place, place_seen}
use Rattle.path_traces.proofs.places.push_names.Given as goal

-- what is there, and what is to come, is all
abbrev pub invariant-loop-param : goal.invariant-loop-param
invariant-loop-param l =
    map place_seen l.places.items ++ map (name_place l.path) (params_view (drop l.param-index l.names))
    ≡ map place_seen l.initial.places.items ++ map (name_place l.path) (params_view l.names)
