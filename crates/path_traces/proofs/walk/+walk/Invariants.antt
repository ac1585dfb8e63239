use Rattle.std.proofs.Common.{◌≡◌, ◌++◌, ◌+◌, ◌*◌, map, drop}
use Rattle.lus_limits.specs.Calls.{call_view}
use Rattle.lus_meaning.specs.TraceView.{bare_view}
use Rattle.sys_terms.specs.View.{states_view}
use Rattle.path_traces.specs.Plans.{plan_view}
use Rattle.path_traces.specs.Walked.{calls_lines, calls_width, walk}
use Rattle.path_traces.proofs.walk.+walk.Given as goal

abbrev pub decreases-visit_frame : goal.decreases-visit_frame
decreases-visit_frame l = 3 * l.depth

abbrev pub decreases-visit_calls : goal.decreases-visit_calls
decreases-visit_calls l = 3 * l.depth + 2

abbrev pub decreases-visit_call : goal.decreases-visit_call
decreases-visit_call l = 3 * l.depth + 1

-- what is there, and what is to come, is all
abbrev pub invariant-visit_calls-loop-call : goal.invariant-visit_calls-loop-call
invariant-visit_calls-loop-call l =
    (map bare_view l.visit.lines.items ++ calls_lines (walk (states_view l.source.states.now) (map plan_view l.source.tables.now.plans.items) l.depth)
    (map plan_view l.source.tables.now.plans.items) l.path l.visit.next (map call_view (drop l.call-index l.calls))
    ≡ map bare_view l.initial.visit.lines.items ++ calls_lines (walk (states_view l.source.states.now) (map plan_view l.source.tables.now.plans.items) l.depth)
    (map plan_view l.source.tables.now.plans.items) l.path l.initial.visit.next (map call_view l.calls))
    × (l.visit.next + calls_width (walk (states_view l.source.states.now) (map plan_view l.source.tables.now.plans.items) l.depth)
    (map plan_view l.source.tables.now.plans.items) (map call_view (drop l.call-index l.calls))
    ≡ l.initial.visit.next + calls_width (walk (states_view l.source.states.now) (map plan_view l.source.tables.now.plans.items) l.depth)
    (map plan_view l.source.tables.now.plans.items) (map call_view l.calls))
