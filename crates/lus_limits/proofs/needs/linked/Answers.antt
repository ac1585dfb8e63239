use Rattle.std.proofs.Common.{map, ap, ◌∙◌}
use Rattle.lus_limits.specs.Calls.{call_view}
use Rattle.lus_limits.specs.Contracted.{summaries_seen}
use Rattle.lus_streams.specs.Owner.{owner_view}
use Rattle.lus_limits.proofs.Needed.{needs_linked}
use Rattle.lus_limits.proofs.needs.linked.Goals as goal

pub returns : goal.returns
returns c =
    needs_linked c.args.names.now (map owner_view c.args.parts.now) c.args.known.now (owner_view c.args.owner) c.in_ok-needs.needs
    (map call_view c.args.calls.now) c.args.links.now (summaries_seen c.deref.result.now) c.requires.called c.requires.all c.requires.linked
    (ap summaries_seen c.deref.ensures.value ∙ c.in_ok-sizes.ensures) c.in_ok-needs.ensures.counts c.in_ok-needs.ensures.sizes
