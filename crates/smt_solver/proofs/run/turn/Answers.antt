use Rattle.std.specs.Prelude.{◌∷◌, [], map, length, ◌≡◌}
use Rattle.std.proofs.Common.{ap, sym, ◌∙◌, arith}
use Rattle.std.proofs.lemmas.List.{map-append, length-map, append-nil}
use Rattle.proof_steps.specs.View.{step_view, clause_view}
use Rattle.smt_solver.specs.Kept.{own_form, solver_view}
use Rattle.smt_solver.specs.Run.{work_view}
use Rattle.smt_solver.proofs.Turns.{conflict-run, empty-end}
use Rattle.smt_solver.proofs.Ends.{at-full, listed-end, after-learning, refuted-end}
use Rattle.smt_solver.proofs.run.turn.Goals as goal

pub at_full-requires-clause-full : goal.at_full-requires-clause-full
at_full-requires-clause-full c =
    let s = solver_view c.args.solver.now in
    at-full (own_form s) s c.requires.kept c.decide_or_conflict.new.self c.in_ok-decide_or_conflict.field-0
    c.in_ok-decide_or_conflict.ensures.ok c.in-Full.is

pub returns-then-len-budgets : goal.returns-then-len-budgets
returns-then-len-budgets c =
    let s = solver_view c.args.solver.now in
    let n : c.len.result ≡ length c.args.solver.now.work.listed.items = c.len.ensures ∙ c.args.solver.now.work.listed.ok.0 in
    let m = length-map c.args.solver.now.work.listed.items clause_view in
    let a = c.if-len-budgets.true in
    let b = c.requires.within.conflicts in
    listed-end c.listed_are_of_the_query.ensures (own_form s) c.args.budgets s c.requires.kept s.work.listed [] (sym (append-nil s.work.listed))
    (omega arith)

pub learn-requires-clause-run : goal.learn-requires-clause-run
learn-requires-clause-run c =
    conflict-run (work_view c.args.solver.now.work) c.decide_or_conflict.new.self c.in_ok-decide_or_conflict.field-0
    c.requires.kept.run c.in_ok-decide_or_conflict.ensures.ok c.in-Conflict.is

pub returns-in_ok-push-in-Empty : goal.returns-in_ok-push-in-Empty
returns-in_ok-push-in-Empty c =
    let s = solver_view c.args.solver.now in
    refuted-end c.refutations_are_of_the_query.ensures (own_form s) s c.requires.kept (map step_view c.push.new.self.items)
    (empty-end c.learnt_steps_are_accepted.ensures s.work c.decide_or_conflict.new.self
    c.in_ok-decide_or_conflict.field-0 c.requires.kept.run c.in_ok-decide_or_conflict.ensures.ok c.in-Empty.is
    (map step_view c.push.new.self.items) (step_view c.in_ok-step-in-Empty.step)
    (ap (map step_view) c.in_ok-push-in-Empty.ensures.items
    ∙ map-append step_view c.args.solver.now.work.steps.items (c.in_ok-step-in-Empty.step ∷ []))
    (λ before x e. c.in_ok-step-in-Empty.ensures before x (c.log.ensures ∙ e)))

pub returns-in_ok-learn-in-Conflict : goal.returns-in_ok-learn-in-Conflict
returns-in_ok-learn-in-Conflict c =
    let s = solver_view c.args.solver.now in
    let n : c.len.result ≡ length c.args.solver.now.work.listed.items = c.len.ensures ∙ c.args.solver.now.work.listed.ok.0 in
    let m = length-map c.args.solver.now.work.listed.items clause_view in
    let a = c.if-len-budgets.false in
    after-learning (own_form s) c.args.budgets s c.requires.kept c.requires.within (work_view c.learn.new.work)
    c.in_ok-learn-in-Conflict.ensures.form c.in_ok-learn-in-Conflict.ensures.run
    (c.in_ok-learn-in-Conflict.ensures.variables ∙ c.in_ok-decide_or_conflict.ensures.ok.variables)
    c.in_ok-learn-in-Conflict.ensures.more (omega arith)
