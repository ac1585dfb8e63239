use Rattle.std.proofs.Common.{ap, map, ◌∙◌}
use Rattle.path_traces.specs.Indexed.{place_from}
use Rattle.path_traces.specs.Plans.{plan_names, plan_view}
use Rattle.path_traces.proofs.tables.tables_of.Goals as goal

pub invariant_of-result : goal.invariant_of-result
invariant_of-result c = record {
  missing = c.no_plan.ensures;
  indexed = λ x. c.in_ok-places.ensures x ∙ ap (λ ps. place_from 0 (plan_names (map plan_view ps)) x) c.deref.ensures.value;
}
