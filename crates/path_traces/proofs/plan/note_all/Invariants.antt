use Rattle.std.proofs.Common.{◌≡◌, map, drop}
use Rattle.std.specs.Option.{option_or}
use Rattle.lus_tree.specs.Tree.{Name}
use Rattle.path_traces.specs.Indexed.{by_name, place_from}
use Rattle.path_traces.specs.Plans.{plan_names, plan_view}
use Rattle.path_traces.proofs.plan.note_all.Given as goal

-- what is noted, and what is to come, is all
abbrev pub invariant-loop-plan : goal.invariant-loop-plan
invariant-loop-plan l = record {
  at : l.place ≡ l.plan-index;
  noted : (x : Name) → option_or (by_name l.places x) (place_from l.place (plan_names (map plan_view (drop l.plan-index l.plans))) x)
      ≡ option_or (by_name l.initial.places x) (place_from 0 (plan_names (map plan_view l.plans)) x);
}
