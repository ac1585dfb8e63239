use Rattle.std.proofs.Common.{◌≡◌, ◌++◌, map, drop}
use Rattle.lus_streams.specs.Names.{names_view}
use Rattle.sys_conditions.specs.Views.{start_view}
use Rattle.sys_occurrences.specs.Views.{placed_view}
use Rattle.sys_occurrences.specs.Occurring.{starts_of}
use Rattle.sys_occurrences.proofs.starts.found.Given as goal

-- what is there, and what is to come, is all
abbrev pub invariant-loop-place : goal.invariant-loop-place
invariant-loop-place l =
    map start_view l.starts.items ++ starts_of (names_view l.names) (map placed_view (drop l.place-index l.places))
    ≡ starts_of (names_view l.names) (map placed_view l.places)
