use Rattle.lus_streams.specs.Owner.{owner_view}
use Rattle.path_traces.proofs.Lefts.{both_added}
use Rattle.path_traces.proofs.defined.add_defined.Goals as goal

pub returns : goal.returns
returns c =
    both_added c.add_lefts.result (owner_view c.args.owner) _ _ _ _ _ c.in_ok-add_ghosts.ensures c.contract.ensures c.add_lefts.ensures c.body.ensures
