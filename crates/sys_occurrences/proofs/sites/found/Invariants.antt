use Rattle.std.proofs.Common.{◌≡◌, ◌++◌, map, drop}
use Rattle.lus_streams.specs.Names.{names_view}
use Rattle.sys_occurrences.specs.Views.{placed_view, site_view}
use Rattle.sys_occurrences.specs.Occurring.{sites_of}
use Rattle.sys_occurrences.proofs.sites.found.Given as goal

-- what is there, and what is to come, is all
abbrev pub invariant-loop-place : goal.invariant-loop-place
invariant-loop-place l =
    map site_view l.sites.items ++ sites_of (names_view l.names) (map placed_view (drop l.place-index l.places))
    ≡ sites_of (names_view l.names) (map placed_view l.places)
