use Rattle.std.proofs.Common.{map, arith}
use Rattle.lus_streams.specs.Owner.{owner_view}
use Rattle.sys_occurrences.specs.Views.{site_view}
use Rattle.sys_tables.specs.Known.{values_seen}
use Rattle.sys_tables.specs.Made.{all_linked_by}
use Rattle.sys_tables.specs.Views.{linked_view}
use Rattle.sys_tables.proofs.Joined.{linked_all}
use Rattle.sys_tables.proofs.links.all_linked.Goals as goal

pub returns : goal.returns
returns c =
    linked_all c.args.names.now (map owner_view c.args.parts.now) (values_seen c.args.known.now) c.loop-place.place c.args.sites.now c.args.slots.now
    (map linked_view c.loop-place.calls.items)
    (all_linked_by c.args.names.now (map owner_view c.args.parts.now) (values_seen c.args.known.now) (map site_view c.args.sites.now) c.args.slots.now)
    (omega arith) c.loop-place.invariant
