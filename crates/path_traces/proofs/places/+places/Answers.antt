use Rattle.std.proofs.Common.{rules, ◌≡◌, ◌-◌, suc, map, ap}
use Rattle.lus_limits.specs.Calls.{call_view}
use Rattle.path_traces.specs.Plans.{plan_view}
use Rattle.path_traces.proofs.Placed.{frame_pushed}
use Rattle.path_traces.proofs.places.+places.Goals as goal

pub push_frame-returns : goal.push_frame-returns
push_frame-returns t c =
    let e : c.args.depth ≡ suc (c.args.depth - 1) = search rules in
    frame_pushed c.push_calls.result _ _ _ (map plan_view c.args.tables.now.plans.items) c.args.depth (c.args.depth - 1) c.args.way c.args.path.now
    (plan_view c.args.plan.now) _ e c.in_ok-push_own.ensures (ap (map call_view) c.deref.ensures.value) c.push_calls.ensures
