use Rattle.std.proofs.Common.{◌≡◌, ◌++◌, map, drop}
use Rattle.lus_streams.specs.Names.{names_view}
use Rattle.sys_conditions.specs.Views.{memory_view}
use Rattle.sys_occurrences.specs.Views.{placed_view}
use Rattle.sys_occurrences.specs.Occurring.{memories_of}
use Rattle.sys_occurrences.proofs.memories.found.Given as goal

-- what is there, and what is to come, is all
abbrev pub invariant-loop-place : goal.invariant-loop-place
invariant-loop-place l =
    map memory_view l.memories.items ++ memories_of (names_view l.names) (map placed_view (drop l.place-index l.places))
    ≡ memories_of (names_view l.names) (map placed_view l.places)
