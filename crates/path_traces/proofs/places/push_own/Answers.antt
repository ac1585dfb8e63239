use Rattle.std.proofs.Common.{ap}
use Rattle.lus_streams.specs.Streams.{params_view}
use Rattle.path_traces.specs.Plans.{plan_view}
use Rattle.path_traces.proofs.Placed.{own_pushed}
use Rattle.path_traces.proofs.places.push_own.Goals as goal

pub returns : goal.returns
returns c =
    own_pushed c.push_none-3.result _ _ _ _ _ _ c.args.way c.args.path.now (plan_view c.args.plan.now) _ _ c.in_ok-push_none.ensures
    c.in_ok-push_names.ensures (ap params_view c.deref.ensures.value) c.in_ok-push_memories.ensures c.in_ok-push_none-2.ensures
    c.push_none-3.ensures c.sofar_count.ensures
