use Rattle.std.proofs.Common.{◌≡◌, ◌++◌, ◌+◌, ◌*◌, map, flat_map, drop}
use Rattle.lus_limits.specs.Calls.{call_view}
use Rattle.path_traces.specs.Places.{named_places, place_seen, places_within}
use Rattle.path_traces.specs.Plans.{plan_view}
use Rattle.path_traces.proofs.places.+places.Given as goal

abbrev pub decreases-push_frame : goal.decreases-push_frame
decreases-push_frame l = 3 * l.depth

abbrev pub decreases-push_calls : goal.decreases-push_calls
decreases-push_calls l = 3 * l.depth + 2

abbrev pub decreases-push_call : goal.decreases-push_call
decreases-push_call l = 3 * l.depth + 1

-- what is there, and what is to come, is all
abbrev pub invariant-push_calls-loop-call : goal.invariant-push_calls-loop-call
invariant-push_calls-loop-call l =
    map place_seen l.places.items
    ++ flat_map (named_places (places_within l.depth (map plan_view l.tables.plans.items)) (map plan_view l.tables.plans.items) l.path)
    (map call_view (drop l.call-index l.calls))
    ≡ map place_seen l.initial.places.items
    ++ flat_map (named_places (places_within l.depth (map plan_view l.tables.plans.items)) (map plan_view l.tables.plans.items) l.path) (map call_view l.calls)
