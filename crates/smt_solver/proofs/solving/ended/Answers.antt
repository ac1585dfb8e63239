use Rattle.std.specs.Prelude.{map, length}
use Rattle.std.proofs.Common.{ap, ◌∙◌, subst, sym, arith}
use Rattle.proof_steps.specs.Bounds.{split_atom}
use Rattle.sys_terms.specs.View.{query_view}
use Rattle.sys_terms.specs.Answers.{states_in}
use Rattle.smt_solver.specs.Answered.{AreOf}
use Rattle.smt_solver.specs.Kept.{solver_view}
use Rattle.smt_solver.specs.NumberStates.{number_entries}
use Rattle.smt_solver.proofs.Answering.{number-length, whole, enough-columns, conflict-pairs, no-splits, no-pivots, no-past}
use Rattle.smt_solver.proofs.solving.ended.Goals as goal

pub entries-requires-clause-columns : goal.entries-requires-clause-columns
entries-requires-clause-columns c =
    let q = query_view c.args.query.now in
    let s = solver_view c.args.solver in
    let a = enough-columns q c.args.budgets s c.args.end c.requires.ended c.requires.fit c.in-Full.is in
    let b = ap length c.deref.ensures.value in
    omega arith

pub states-requires : goal.states-requires
states-requires c =
    let s = solver_view c.args.solver in
    let a = ap length c.deref-in-Full.ensures.value in
    let b = ap length c.in_ok-values-in-Full.ensures in
    let d = number-length s.work.search.trail s.tableau.values 0 c.deref.result.now in
    let e = ap length c.deref.ensures.value in
    let r = c.requires.room in
    omega arith

pub returns-in-Full-clause-answer : goal.returns-in-Full-clause-answer
returns-in-Full-clause-answer c =
    let q = query_view c.args.query.now in
    let s = solver_view c.args.solver in
    let h = c.requires.ended in
    let w = whole q c.args.budgets s c.args.end h c.in-Full.is in
    record {
      form = h.form;
      is_form = h.is_form;
      is_true = subst (AreOf q c.args.size c.args.count)
          (sym (c.in_ok-states-in-Full.ensures
          ∙ ap (states_in c.args.size c.args.count)
          (c.deref-in-Full.ensures.value ∙ c.in_ok-values-in-Full.ensures
          ∙ ap (number_entries s.work.search.trail s.tableau.values 0) c.deref.ensures.value)))
          (c.whole_values_meet.ensures q c.args.size c.args.count h.form (map split_atom s.pairs) s.meanings s.work.search.trail
          s.tableau c.requires.fit h.is_form w.full w.met);
    }

pub returns-in-Conflicts-clause-stops : goal.returns-in-Conflicts-clause-stops
returns-in-Conflicts-clause-stops c = λ none.
    conflict-pairs (query_view c.args.query.now) c.args.budgets (solver_view c.args.solver) c.args.end c.requires.ended none c.in-Conflicts.is

pub returns-clause-stops : goal.returns-clause-stops
returns-clause-stops c = λ none.
    absurd (no-past (query_view c.args.query.now) c.args.budgets (solver_view c.args.solver) c.args.end c.requires.ended none
    c.in-Past.step c.in-Past.is)

pub returns-in-Splits-clause-stops : goal.returns-in-Splits-clause-stops
returns-in-Splits-clause-stops c = λ none.
    absurd (no-splits (query_view c.args.query.now) c.args.budgets (solver_view c.args.solver) c.args.end c.requires.ended none c.in-Splits.is)

pub returns-in-Pivots-clause-stops : goal.returns-in-Pivots-clause-stops
returns-in-Pivots-clause-stops c = λ none.
    absurd (no-pivots (query_view c.args.query.now) c.args.budgets (solver_view c.args.solver) c.args.end c.requires.ended none
    c.in-Pivots.start c.in-Pivots.is)
