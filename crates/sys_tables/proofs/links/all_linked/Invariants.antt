use Rattle.std.proofs.Common.{◌≡◌, ◌++◌, map, drop}
use Rattle.lus_streams.specs.Owner.{owner_view}
use Rattle.sys_occurrences.specs.Views.{site_view}
use Rattle.sys_tables.specs.Known.{values_seen}
use Rattle.sys_tables.specs.Made.{all_linked_by}
use Rattle.sys_tables.specs.Views.{linked_view}
use Rattle.sys_tables.proofs.links.all_linked.Given as goal

-- what is there, and what is to come, is all
abbrev pub invariant-loop-place : goal.invariant-loop-place
invariant-loop-place l =
    map linked_view l.calls.items
    ++ all_linked_by l.names (map owner_view l.parts) (values_seen l.known) (map site_view (drop l.place l.sites)) (drop l.place l.slots)
    ≡ all_linked_by l.names (map owner_view l.parts) (values_seen l.known) (map site_view l.sites) l.slots
