use Rattle.std.proofs.Common.{◌≡◌, ◌++◌, map, drop}
use Rattle.lus_tree.specs.View.{decl_view, program_view}
use Rattle.lus_meaning.specs.ClockFaults.{components}
use Rattle.path_traces.specs.Plans.{plan_of, plan_view}
use Rattle.path_traces.proofs.plan.plans_of.Given as goal

-- what is there, and what is to come, is all
abbrev pub invariant-loop-decl : goal.invariant-loop-decl
invariant-loop-decl l =
    map plan_view l.plans.items ++ map plan_of (components (map decl_view (drop l.decl-index l.program.decls.items)))
    ≡ map plan_of (components (program_view l.program))
