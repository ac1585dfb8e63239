use Rattle.std.specs.Prelude.{map}
use Rattle.std.proofs.Common.{sym, subst, ap, ◌∙◌}
use Rattle.proof_steps.specs.View.{atom_view, row_view, added}
use Rattle.smt_solver.specs.Growing.{IsTaken, SaysMore}
use Rattle.smt_solver.specs.Run.{work_view}
use Rattle.smt_solver.specs.Shares.{AreInOrder, a_past_step, row_by}
use Rattle.smt_solver.proofs.Refuting.{in-order-all, shares-same, taken, past-of}
use Rattle.smt_solver.proofs.numbers.turns.refuted.Goals as goal

pub step_past-requires-clause-in_order : goal.step_past-requires-clause-in_order
step_past-requires-clause-in_order c =
    subst AreInOrder (sym c.deref.ensures.value)
    (in-order-all (work_view c.args.work.now).form.shapes c.args.work.now.cnf.atoms.items c.requires.refuted.plain)

pub returns-in-Some : goal.returns-in-Some
returns-in-Some c =
    let s = work_view c.args.work.now in
    let conflict = c.refuted_bounds_conflict.ensures s c.args.meanings.now c.args.parts.now c.requires.refuted in
    past-of c.past_sums_are_past.ensures s c.args.meanings.now c.args.parts.now c.deref-2.result.now c.deref.result.now
    (ap (map atom_view) c.deref.ensures.value) conflict
    (shares-same s c.args.meanings.now c.args.parts.now c.deref-2.result.now conflict (c.deref-2.ensures.value ∙ c.in_ok-shares.ensures))
    c.in-Some.past c.in_ok-past.field-0 c.in-Some.is c.in_ok-past.ensures (row_view c.args.first.now) _
    (c.in_ok-past_step.ensures ∙ ap (λ xs. a_past_step (row_by xs) (row_view c.args.first.now) c.in-Some.past)
    (c.deref-in-Some.ensures.value ∙ sym c.deref-2.ensures.value))

pub count_step-requires-clause-taken : goal.count_step-requires-clause-taken
count_step-requires-clause-taken c =
    let s = work_view c.args.work.now in
    let conflict = c.refuted_bounds_conflict.ensures s c.args.meanings.now c.args.parts.now c.requires.refuted in
    subst (IsTaken s)
    (sym (c.in_ok-step.ensures conflict.step.parts (conflict.uses ∙ sym c.in_ok-used.ensures ∙ sym c.deref-3.ensures.value)))
    (taken c.fitting_sums_fit.ensures c.fitting_steps_are_taken.ensures s c.args.meanings.now c.args.parts.now
    c.deref-2.result.now c.deref.result.now (ap (map atom_view) c.deref.ensures.value)
    c.requires.refuted.plain c.requires.meant conflict
    (shares-same s c.args.meanings.now c.args.parts.now c.deref-2.result.now conflict (c.deref-2.ensures.value ∙ c.in_ok-shares.ensures))
    c.in_ok-past.field-0 c.in_default.is c.in_ok-past.ensures)

pub count_step-requires-clause-says_more : goal.count_step-requires-clause-says_more
count_step-requires-clause-says_more c =
    let s = work_view c.args.work.now in
    let conflict = c.refuted_bounds_conflict.ensures s c.args.meanings.now c.args.parts.now c.requires.refuted in
    subst (λ m. SaysMore s.search.known (added m))
    (sym (c.in_ok-step.ensures conflict.step.parts (conflict.uses ∙ sym c.in_ok-used.ensures ∙ sym c.deref-3.ensures.value)))
    conflict.more
