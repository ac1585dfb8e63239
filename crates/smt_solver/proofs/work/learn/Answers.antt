use Rattle.std.specs.Prelude.{◌∷◌, [], map}
use Rattle.std.proofs.Common.{ap, ◌∙◌}
use Rattle.std.proofs.lemmas.List.{map-append}
use Rattle.proof_steps.specs.View.{clause_view, step_view}
use Rattle.smt_solver.specs.Run.{work_view}
use Rattle.smt_solver.proofs.Turns.{learnt-as}
use Rattle.smt_solver.proofs.work.learn.Goals as goal

pub returns-clause-run : goal.returns-clause-run
returns-clause-run c =
    learnt-as c.learnt_steps_are_accepted.ensures (work_view c.args.work.now) c.learn.new.self c.requires.run
    c.in_ok-learn.ensures.ok _ _ (step_view c.in_ok-step.step) (clause_view c.in_ok-clause.clause)
    (ap (map step_view) c.in_ok-push-2.ensures.items
    ∙ map-append step_view c.args.work.now.steps.items (c.in_ok-step.step ∷ []))
    (ap (map clause_view) c.in_ok-push.ensures.items
    ∙ map-append clause_view c.args.work.now.listed.items (c.in_ok-clause.clause ∷ []))
    (c.in_ok-clause.ensures ∙ c.added_clause.ensures)
    (λ before x e. c.in_ok-step.ensures before x (c.log.ensures ∙ e))
