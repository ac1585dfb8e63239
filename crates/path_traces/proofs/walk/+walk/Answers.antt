use Rattle.std.proofs.Common.{rules, ◌≡◌, ◌+◌, ◌-◌, suc, map, ap}
use Rattle.lus_limits.specs.Calls.{call_view}
use Rattle.lus_streams.specs.Streams.{params_view}
use Rattle.sys_terms.specs.View.{states_view}
use Rattle.path_traces.specs.Plans.{plan_view}
use Rattle.path_traces.proofs.Gathered.{frame_on}
use Rattle.path_traces.proofs.walk.+walk.Goals as goal

pub visit_frame-returns-clause-lines : goal.visit_frame-returns-clause-lines
visit_frame-returns-clause-lines t c =
    let e : c.args.depth ≡ suc (c.args.depth - 1) = search rules in
    frame_on c.visit_calls.result (states_view c.args.source.now.states.now) (map plan_view c.args.source.now.tables.now.plans.items) c.args.depth (c.args.depth - 1)
    c.args.way c.args.path.now c.args.visit.now.next (params_view c.args.listed.now) (plan_view c.args.plan.now) _ _ _ _ _ e c.in_ok-push_own.ensures
    (ap (λ k. c.args.visit.now.next + k) c.own_width.ensures) (ap (map call_view) c.deref.ensures.value) c.visit_calls.ensures.lines
