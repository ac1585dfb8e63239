use Rattle.std.specs.Prelude.{◌∷◌, [], map}
use Rattle.std.proofs.Common.{ap, subst, ◌∙◌}
use Rattle.std.proofs.lemmas.List.{map-append}
use Rattle.proof_steps.specs.View.{step_view}
use Rattle.sat_core.specs.Shown.{Adds}
use Rattle.smt_solver.specs.Run.{work_view}
use Rattle.smt_solver.proofs.Adding.{added-as}
use Rattle.smt_solver.proofs.work.take_step.Goals as goal

pub returns-clause-run : goal.returns-clause-run
returns-clause-run c =
    added-as (work_view c.args.work.now) c.add.new.self c.requires.run (step_view c.args.step) _ c.requires.taken
    (subst (Adds c.args.work.now.search c.add.new.self) c.added_clause.ensures c.in_ok-add.ensures.ok)
    (ap (map step_view) c.in_ok-push.ensures.items
    ∙ map-append step_view c.args.work.now.steps.items (c.args.step ∷ []))
