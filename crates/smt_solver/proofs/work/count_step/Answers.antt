use Rattle.std.specs.Prelude.{◌∷◌, [], ◌++◌, map}
use Rattle.std.proofs.Common.{ap, subst, ◌∙◌}
use Rattle.std.proofs.lemmas.List.{map-append}
use Rattle.proof_steps.specs.View.{clause_view, step_view}
use Rattle.sat_core.specs.Shown.{Adds}
use Rattle.smt_solver.specs.Run.{work_view}
use Rattle.smt_solver.proofs.Adding.{counted-as}
use Rattle.smt_solver.proofs.work.count_step.Goals as goal

pub returns-clause-run : goal.returns-clause-run
returns-clause-run c =
    counted-as (work_view c.args.work.now) c.add.new.self c.requires.run (step_view c.args.step) _ _ c.requires.taken
    c.requires.says_more
    (subst (Adds c.args.work.now.search c.add.new.self) (c.in_ok-clause.ensures ∙ c.added_clause.ensures) c.in_ok-add.ensures.ok)
    (ap (map step_view) c.in_ok-push-2.ensures.items
    ∙ map-append step_view c.args.work.now.steps.items (c.args.step ∷ []))
    (ap (map clause_view) c.in_ok-push.ensures.items
    ∙ map-append clause_view c.args.work.now.listed.items (c.in_ok-clause.clause ∷ [])
    ∙ ap (λ x. map clause_view c.args.work.now.listed.items ++ x ∷ []) (c.in_ok-clause.ensures ∙ c.added_clause.ensures))
