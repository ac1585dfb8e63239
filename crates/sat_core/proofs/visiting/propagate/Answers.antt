use Rattle.std.specs.Prelude.{◌≡◌, ◌+◌, length, suc, get_or, false, refl}
use Rattle.std.proofs.Common.{sym, ap, subst, arith, ◌∙◌}
use Rattle.proof_steps.specs.declared.Literal.TheVariants.{Flag}
use Rattle.proof_steps.specs.Meaning.{opposite}
use Rattle.sat_core.specs.declared.assigned.Assigned.{Assigned}
use Rattle.sat_core.specs.Watching.{IsWatched}
use Rattle.sat_core.specs.Visiting.{IsVisitedAll}
use Rattle.sat_core.proofs.Bounded.{bounded}
use Rattle.sat_core.proofs.Places.{read}
use Rattle.sat_core.proofs.Guards.{visit_first}
use Rattle.sat_core.proofs.Visits.{advance_none, advance_more}
use Rattle.sat_core.proofs.Holders.{spent_less, spent_on}
use Rattle.sat_core.specs.Charged.{IsWorked, false_by}
use Rattle.sat_core.proofs.Kept.{kept_same, kept_on}
use Rattle.sat_core.proofs.Worked.{worked_none, worked_more}
use Rattle.sat_core.proofs.visiting.propagate.Goals as goal

abbrev blank : Assigned
blank = record { literal = Flag 0 false; reason = 0 }

pub loop-head-smaller : goal.loop-head-smaller
loop-head-smaller c =
    let a = c.loop-head.invariant.1 in
    let t = c.loop-head-test.true in
    let l : length c.entries.result.now ≡ length c.loop-head.assignment = ap length c.entries.ensures.entries in
    let b = bounded c.args.variables.now c.loop-head.assignment a.is_trail.apart
    (a.within c.args.variables.now c.requires.covers c.requires.within) in omega arith

pub loop-head-init : goal.loop-head-init
loop-head-init c = let t = c.args.assignment.now in let w = c.args.watches.now in (
  c.requires.watched,
  advance_none c.args.clauses.now t c.requires.is_trail,
  refl,
  omega arith,
  kept_same t c.args.head.now w,
  omega arith,
  omega arith,
  (λ before. worked_none t t w w refl refl),
)

pub visit_all-requires-clause-visiting : goal.visit_all-requires-clause-visiting
visit_all-requires-clause-visiting c =
    let t = c.loop-head-test.true in
    let l : length c.entries.result.now ≡ length c.loop-head.assignment = ap length c.entries.ensures.entries in
    let e = c.opposite-literal.ensures
    ∙ ap (λ xs. opposite (get_or xs c.loop-head.head blank).literal) c.entries-in-loop-head.ensures.entries in
    visit_first c.args.clauses.now c.loop-head.assignment c.loop-head.watches c.loop-head.head c.opposite-literal.result
    (get_or c.loop-head.assignment c.loop-head.head blank) (read c.loop-head.assignment c.loop-head.head blank (omega arith)) (sym e)
    c.loop-head.invariant.0

pub loop-head-preserved : goal.loop-head-preserved
loop-head-preserved c =
    let k = c.args.clauses.now in
    let q : suc c.loop-head.head ≡ c.loop-head.head + 1 = omega arith in (
      subst (IsWatched k c.visit_all.new.assignment c.visit_all.new.watches) q
          (subst (IsVisitedAll k c.visit_all.new.assignment c.visit_all.new.watches c.loop-head.head) c.in_default.is
          c.in_ok-number.ensures.visited),
      advance_more k c.args.assignment.now c.loop-head.assignment c.visit_all.new.assignment c.loop-head.invariant.1
          c.visit_all.ensures.advance,
      c.visit_all.ensures.shorts ∙ c.loop-head.invariant.2,
      (let h = c.loop-head.invariant.3 in omega arith),
      kept_on c.args.assignment.now c.loop-head.assignment c.args.head.now c.loop-head.head c.args.watches.now c.loop-head.watches
          c.visit_all.new.watches c.loop-head.invariant.1.grows c.loop-head.invariant.3 c.loop-head.invariant.4 c.visit_all.ensures.kept,
      (let i = c.loop-head.invariant in
          let t = c.loop-head-test.true in
          let l : length c.entries.result.now ≡ length c.loop-head.assignment = ap length c.entries.ensures.entries in
          let e = c.opposite-literal.ensures
          ∙ ap (λ xs. opposite (get_or xs c.loop-head.head blank).literal) c.entries-in-loop-head.ensures.entries in
          let x = spent_on k c.loop-head.assignment c.visit_all.new.assignment c.loop-head.head blank c.opposite-literal.result
          c.visit_all.ensures.advance.grows (omega arith) e in
          let a = i.5 in let b = c.in_ok-number.ensures.looks.0 in omega arith),
      (let x = c.loop-head.invariant.6 in let y = c.in_ok-number.ensures.looks.1 in omega arith),
      (λ before. worked_more c.args.assignment.now c.loop-head.assignment c.visit_all.new.assignment c.args.watches.now c.loop-head.watches
          c.visit_all.new.watches (c.loop-head.invariant.7 before)
          (subst (λ r. IsWorked k before c.loop-head.assignment c.visit_all.new.assignment c.loop-head.watches c.visit_all.new.watches
          c.loop-head.looks c.visit_all.new.looks (false_by r)) c.in_default.is (c.in_ok-number.ensures.worked before))
          c.in_ok-number.ensures.looks.1),
    )

pub returns-in_err-number-clause-kept : goal.returns-in_err-number-clause-kept
returns-in_err-number-clause-kept c =
    kept_on c.args.assignment.now c.loop-head.assignment c.args.head.now c.loop-head.head c.args.watches.now c.loop-head.watches
    c.visit_all.new.watches c.loop-head.invariant.1.grows c.loop-head.invariant.3 c.loop-head.invariant.4 c.visit_all.ensures.kept

pub returns-in-Some-clause-kept : goal.returns-in-Some-clause-kept
returns-in-Some-clause-kept c =
    kept_on c.args.assignment.now c.loop-head.assignment c.args.head.now c.loop-head.head c.args.watches.now c.loop-head.watches
    c.visit_all.new.watches c.loop-head.invariant.1.grows c.loop-head.invariant.3 c.loop-head.invariant.4 c.visit_all.ensures.kept

pub returns-in-Some-clause-looks : goal.returns-in-Some-clause-looks
returns-in-Some-clause-looks c =
    let k = c.args.clauses.now in
    let i = c.loop-head.invariant in
    let t = c.loop-head-test.true in
    let l : length c.entries.result.now ≡ length c.loop-head.assignment = ap length c.entries.ensures.entries in
    let e = c.opposite-literal.ensures
    ∙ ap (λ xs. opposite (get_or xs c.loop-head.head blank).literal) c.entries-in-loop-head.ensures.entries in
    let x = spent_on k c.loop-head.assignment c.visit_all.new.assignment c.loop-head.head blank c.opposite-literal.result
    c.visit_all.ensures.advance.grows (omega arith) e in
    let a = i.5 in let b = c.in_ok-number.ensures.looks in let d = b.0 in let f = b.1 in let g = i.6 in
    let y = spent_less k c.visit_all.new.assignment (c.loop-head.head + 1) in (omega arith, omega arith)

pub returns-clause-looks : goal.returns-clause-looks
returns-clause-looks c =
    let s = spent_less c.args.clauses.now c.loop-head.assignment c.loop-head.head in
    let x = c.loop-head.invariant.5 in (omega arith, c.loop-head.invariant.6)

pub returns-in-Some-clause-worked : goal.returns-in-Some-clause-worked
returns-in-Some-clause-worked c = λ before.
    worked_more c.args.assignment.now c.loop-head.assignment c.visit_all.new.assignment c.args.watches.now c.loop-head.watches
    c.visit_all.new.watches (c.loop-head.invariant.7 before)
    (subst (λ r. IsWorked c.args.clauses.now before c.loop-head.assignment c.visit_all.new.assignment c.loop-head.watches c.visit_all.new.watches
    c.loop-head.looks c.visit_all.new.looks (false_by r)) c.in-Some.is (c.in_ok-number.ensures.worked before))
    c.in_ok-number.ensures.looks.1
