use Rattle.lus_streams.specs.Owner.{owner_view}
use Rattle.lus_order.proofs.Settled.{names_within, summary_known}
use Rattle.lus_order.proofs.learned.known_by.Goals as goal

pub known_of-requires : goal.known_of-requires
known_of-requires c = names_within (owner_view c.args.owner) c.args.library.now c.in_ok-own.own c.requires.consistent c.requires.distinct c.in_ok-own.ensures

pub returns : goal.returns
returns c = summary_known (owner_view c.args.owner) c.args.library.now c.in_ok-own.own c.requires.consistent c.requires.distinct c.in_ok-own.ensures
    c.in_ok-known.known c.in_ok-known.ensures.known
