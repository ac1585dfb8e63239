use Rattle.std.specs.Prelude.{suc, ◌≤◌, ◌++◌, ◌∷◌, [], Some, None, refl}
use Rattle.std.proofs.Common.{sym, subst, arith}
use Rattle.proof_steps.specs.View.{clause_view}
use Rattle.sat_core.specs.declared.visiting.Visit.TheVariants.{Next}
use Rattle.sat_core.specs.Visiting.{IsVisit, IsReplacement}
use Rattle.sat_core.proofs.Places.{within}
use Rattle.sat_core.proofs.Visits.{other_is, entry_number, found_apart, replaced, failed, pushed, pushed_advance, watched_same, advance_none, advance_as, kept, due_moved, due_some, due_pushed}
use Rattle.sat_core.specs.Charged.{due}
use Rattle.sat_core.proofs.Holders.{charged_next, charged_failed}
use Rattle.sat_core.proofs.Kept.{kept_same, kept_pairs}
use Rattle.sat_core.proofs.Worked.{worked_none, worked_moved, worked_failed, worked_pushed}
use Rattle.sat_core.proofs.visiting.look.Goals as goal

pub returns-then-is_true-clause-visit : goal.returns-then-is_true-clause-visit
returns-then-is_true-clause-visit c = let k = c.args.clauses.now in
    subst (λ n. IsVisit k c.args.assignment.now c.args.watches.now c.args.watches.now c.args.head c.args.literal c.args.at (Next n))
    (sym c.requires.next)
    (other_is k c.args.assignment.now c.requires.is_trail c.args.watches.now c.args.head c.args.literal c.args.at c.requires.visiting
    c.args.number c.requires.entry c.args.other c.requires.other (sym c.if-is_true.ensures))

pub look-clause-requires-clause-positive : goal.look-clause-requires-clause-positive
look-clause-requires-clause-positive c = let k = c.args.clauses.now in
    (entry_number k c.args.assignment.now c.requires.is_trail c.args.watches.now c.args.head c.args.literal c.args.at c.requires.visiting
    c.args.number c.requires.entry).0

pub look-clause-requires-clause-within : goal.look-clause-requires-clause-within
look-clause-requires-clause-within c = let k = c.args.clauses.now in
    let n = (entry_number k c.args.assignment.now c.requires.is_trail c.args.watches.now c.args.head c.args.literal c.args.at c.requires.visiting
    c.args.number c.requires.entry).1 in
    omega arith

pub replace-requires-clause-entry : goal.replace-requires-clause-entry
replace-requires-clause-entry c = within _ c.args.at c.args.number c.requires.entry

pub replace-requires-clause-within : goal.replace-requires-clause-within
replace-requires-clause-within c = let k = c.args.clauses.now in
    let n = (entry_number k c.args.assignment.now c.requires.is_trail c.args.watches.now c.args.head c.args.literal c.args.at c.requires.visiting
    c.args.number c.requires.entry).1 in
    let m = c.requires.visiting.watched.watching.count in omega arith

pub replace-requires-clause-apart : goal.replace-requires-clause-apart
replace-requires-clause-apart c = let k = c.args.clauses.now in
    found_apart k c.args.assignment.now c.requires.is_trail c.args.watches.now c.args.head c.args.literal c.args.at c.requires.visiting
    c.args.number c.requires.entry c.args.other c.requires.other (clause_view c.look-clause.result.now) c.in-Some.found
    c.look-clause.ensures.clause
    (subst (λ x. IsReplacement c.args.assignment.now x c.args.other (Some c.in-Some.found)) c.as_slice.ensures c.in-Some.ensures)

pub returns-in-Err-clause-watched : goal.returns-in-Err-clause-watched
returns-in-Err-clause-watched c = watched_same c.args.clauses.now c.args.assignment.now c.args.watches.now c.replace.new.self
    c.args.head c.in-Err.ensures.err c.requires.visiting.watched

pub returns-in-Ok-clause-visit : goal.returns-in-Ok-clause-visit
returns-in-Ok-clause-visit c = let k = c.args.clauses.now in
    replaced k c.args.assignment.now c.requires.is_trail c.args.watches.now c.args.head c.args.literal c.args.at c.requires.visiting
    c.args.number c.requires.entry c.args.other c.requires.other (clause_view c.look-clause.result.now) c.in-Some.found
    c.replace.new.self c.look-clause.ensures.clause
    (subst (λ x. IsReplacement c.args.assignment.now x c.args.other (Some c.in-Some.found)) c.as_slice.ensures c.in-Some.ensures)
    c.in-Ok.ensures.ok

pub returns-then-is_false-clause-visit : goal.returns-then-is_false-clause-visit
returns-then-is_false-clause-visit c = let k = c.args.clauses.now in
    failed k c.args.assignment.now c.requires.is_trail c.args.watches.now c.args.head c.args.literal c.args.at c.requires.visiting
    c.args.number c.requires.entry c.args.other c.requires.other (clause_view c.look-clause.result.now)
    c.look-clause.ensures.clause
    (subst (λ x. IsReplacement c.args.assignment.now x c.args.other None) c.as_slice.ensures c.in-None.ensures)
    (sym c.if-is_false.ensures)

pub returns-in-Ok-push-clause-visit : goal.returns-in-Ok-push-clause-visit
returns-in-Ok-push-clause-visit c = let k = c.args.clauses.now in
    subst (λ t. IsVisit k t c.args.watches.now c.args.watches.now c.args.head c.args.literal c.args.at (Next c.args.next)) (sym c.in-Ok-push.ensures.ok)
    (subst (λ n. IsVisit k (c.args.assignment.now ++ record { literal = c.args.other; reason = c.args.number } ∷ [])
    c.args.watches.now c.args.watches.now c.args.head c.args.literal c.args.at (Next n)) (sym c.requires.next)
    (pushed k c.args.assignment.now c.requires.is_trail c.args.watches.now c.args.head c.args.literal c.args.at c.requires.visiting
    c.args.number c.requires.entry c.args.other c.requires.other (clause_view c.look-clause.result.now)
    c.look-clause.ensures.clause
    (subst (λ x. IsReplacement c.args.assignment.now x c.args.other None) c.as_slice.ensures c.in-None.ensures)
    (sym c.if-is_true.ensures) (sym c.if-is_false.ensures)))

pub returns-in-Ok-push-clause-advance : goal.returns-in-Ok-push-clause-advance
returns-in-Ok-push-clause-advance c = let k = c.args.clauses.now in
    advance_as k c.args.assignment.now _ _ c.in-Ok-push.ensures.ok
    (pushed_advance k c.args.assignment.now c.requires.is_trail c.args.watches.now c.args.head c.args.literal c.args.at c.requires.visiting
    c.args.number c.requires.entry c.args.other c.requires.other (clause_view c.look-clause.result.now)
    c.look-clause.ensures.clause
    (subst (λ x. IsReplacement c.args.assignment.now x c.args.other None) c.as_slice.ensures c.in-None.ensures)
    (sym c.if-is_true.ensures) (sym c.if-is_false.ensures))

pub returns-in-Err-push-clause-advance : goal.returns-in-Err-push-clause-advance
returns-in-Err-push-clause-advance c = let k = c.args.clauses.now in
    advance_as k c.args.assignment.now _ _ c.in-Err-push.ensures.err (advance_none k c.args.assignment.now c.requires.is_trail)

pub returns-then-is_true-clause-kept : goal.returns-then-is_true-clause-kept
returns-then-is_true-clause-kept c = kept_same c.args.assignment.now c.args.head c.args.watches.now

pub returns-in-Err-clause-kept : goal.returns-in-Err-clause-kept
returns-in-Err-clause-kept c = kept_pairs c.args.assignment.now c.args.head c.args.watches.now c.replace.new.self c.in-Err.ensures.err.pairs

pub returns-in-Ok-clause-kept : goal.returns-in-Ok-clause-kept
returns-in-Ok-clause-kept c =
    kept c.args.clauses.now c.args.assignment.now c.requires.is_trail c.args.watches.now c.args.head c.args.literal c.args.at
    c.requires.visiting
    c.args.number c.requires.entry c.args.other c.requires.other (clause_view c.look-clause.result.now) c.in-Some.found
    c.replace.new.self c.look-clause.ensures.clause
    (subst (λ x. IsReplacement c.args.assignment.now x c.args.other (Some c.in-Some.found)) c.as_slice.ensures c.in-Some.ensures)
    c.in-Ok.ensures.ok

pub returns-then-is_false-clause-kept : goal.returns-then-is_false-clause-kept
returns-then-is_false-clause-kept c = kept_same c.args.assignment.now c.args.head c.args.watches.now

pub returns-in-Ok-push-clause-kept : goal.returns-in-Ok-push-clause-kept
returns-in-Ok-push-clause-kept c = kept_same c.args.assignment.now c.args.head c.args.watches.now

pub returns-in-Err-push-clause-kept : goal.returns-in-Err-push-clause-kept
returns-in-Err-push-clause-kept c = kept_same c.args.assignment.now c.args.head c.args.watches.now

pub returns-then-is_true-clause-looks : goal.returns-then-is_true-clause-looks
returns-then-is_true-clause-looks c = (omega arith, omega arith)

pub returns-in-Ok-clause-looks : goal.returns-in-Ok-clause-looks
returns-in-Ok-clause-looks c = charged_next c.args.at c.look-clause.ensures.looked
    (due_moved c.args.clauses.now c.args.assignment.now c.requires.is_trail c.args.watches.now c.args.head c.args.literal c.args.at c.requires.visiting
    c.args.number c.requires.entry c.args.other c.requires.other (sym c.if-is_true.ensures)
    (clause_view c.look-clause.result.now) c.in-Some.found c.replace.new.self c.look-clause.ensures.clause
    (subst (λ x. IsReplacement c.args.assignment.now x c.args.other (Some c.in-Some.found)) c.as_slice.ensures c.in-Some.ensures)
    c.in-Ok.ensures.ok)

pub returns-then-is_false-clause-looks : goal.returns-then-is_false-clause-looks
returns-then-is_false-clause-looks c = charged_failed 0 c.args.number c.look-clause.ensures.looked
    (due_some c.args.clauses.now c.args.assignment.now c.requires.is_trail c.args.watches.now c.args.head c.args.literal c.args.at c.requires.visiting
    c.args.number c.requires.entry c.args.other c.requires.other (sym c.if-is_true.ensures))

pub returns-in-Ok-push-clause-looks : goal.returns-in-Ok-push-clause-looks
returns-in-Ok-push-clause-looks c = charged_next c.args.next c.look-clause.ensures.looked
    (subst (λ t. suc (due t c.args.watches.now c.args.literal) ≤ due c.args.assignment.now c.args.watches.now c.args.literal)
    (sym c.in-Ok-push.ensures.ok)
    (due_pushed c.args.clauses.now c.args.assignment.now c.requires.is_trail c.args.watches.now c.args.head c.args.literal c.args.at c.requires.visiting
    c.args.number c.requires.entry c.args.other c.requires.other (sym c.if-is_true.ensures)))

pub returns-then-is_true-clause-worked : goal.returns-then-is_true-clause-worked
returns-then-is_true-clause-worked c = λ before. worked_none c.args.assignment.now c.args.assignment.now c.args.watches.now c.args.watches.now refl refl

pub returns-in-Ok-clause-worked : goal.returns-in-Ok-clause-worked
returns-in-Ok-clause-worked c = λ before. worked_moved c.args.assignment.now c.args.watches.now c.replace.new.self c.args.literal c.args.at
    c.args.number c.args.other c.in-Some.found c.look-clause.ensures.looked c.in-Ok.ensures.ok

pub returns-then-is_false-clause-worked : goal.returns-then-is_false-clause-worked
returns-then-is_false-clause-worked c = λ before. worked_failed c.args.assignment.now c.args.watches.now c.look-clause.ensures.looked

pub returns-in-Ok-push-clause-worked : goal.returns-in-Ok-push-clause-worked
returns-in-Ok-push-clause-worked c = λ before. worked_pushed c.args.assignment.now _ c.args.watches.now
    record { literal = c.args.other; reason = c.args.number } c.in-Ok-push.ensures.ok c.look-clause.ensures.looked
