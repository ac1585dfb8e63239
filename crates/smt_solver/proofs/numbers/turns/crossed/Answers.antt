use Rattle.std.specs.Prelude.{refl, map}
use Rattle.std.proofs.Common.{sym, subst, ap, ◌∙◌}
use Rattle.proof_steps.specs.View.{added}
use Rattle.smt_solver.specs.Asserting.{both_parts}
use Rattle.smt_solver.specs.Growing.{IsTaken, SaysMore}
use Rattle.smt_solver.specs.Run.{work_view}
use Rattle.smt_solver.specs.Used.{used_by}
use Rattle.smt_solver.proofs.Crossed.{crossing-taken}
use Rattle.smt_solver.proofs.numbers.turns.crossed.Goals as goal

pub count_step-requires-clause-taken : goal.count_step-requires-clause-taken
count_step-requires-clause-taken c =
    let s = work_view c.args.work.now in
    let conflict = c.refuted_bounds_conflict.ensures s c.args.meanings.now (both_parts c.args.first c.args.second) c.requires.refuted in
    subst (IsTaken s)
    (sym (c.in_ok-step.ensures conflict.step.parts
    (conflict.uses ∙ sym (ap (map (used_by s.search.trail c.args.meanings.now)) (c.deref.ensures.value ∙ c.in_ok-parts.ensures.items))
    ∙ sym c.in_ok-used.ensures ∙ sym c.deref-2.ensures.value)))
    (crossing-taken c.fitting_sums_fit.ensures c.refuted_bounds_sum_to_nothing.ensures s.form c.requires.refuted.plain
    c.requires.meant c.fitting_steps_are_taken.ensures s refl c.args.meanings.now c.requires.near c.args.first c.args.second conflict)

pub count_step-requires-clause-says_more : goal.count_step-requires-clause-says_more
count_step-requires-clause-says_more c =
    let s = work_view c.args.work.now in
    let conflict = c.refuted_bounds_conflict.ensures s c.args.meanings.now (both_parts c.args.first c.args.second) c.requires.refuted in
    subst (λ m. SaysMore s.search.known (added m))
    (sym (c.in_ok-step.ensures conflict.step.parts
    (conflict.uses ∙ sym (ap (map (used_by s.search.trail c.args.meanings.now)) (c.deref.ensures.value ∙ c.in_ok-parts.ensures.items))
    ∙ sym c.in_ok-used.ensures ∙ sym c.deref-2.ensures.value)))
    conflict.more
