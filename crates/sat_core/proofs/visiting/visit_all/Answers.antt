use Rattle.std.specs.Prelude.{refl}
use Rattle.std.proofs.Common.{subst, arith, ◌∙◌}
use Rattle.sat_core.specs.Charged.{due, IsCharged, IsWorked, failed_by}
use Rattle.sat_core.specs.Visiting.{IsVisit}
use Rattle.sat_core.proofs.Guards.{visit_done}
use Rattle.sat_core.proofs.Visits.{advance_none, advance_more}
use Rattle.sat_core.proofs.Holders.{due_holders}
use Rattle.sat_core.proofs.Kept.{kept_same, kept_more, kept_down}
use Rattle.sat_core.proofs.Worked.{worked_none, worked_more}
use Rattle.sat_core.proofs.visiting.visit_all.Goals as goal

pub returns-clause-visited : goal.returns-clause-visited
returns-clause-visited c = visit_done c.args.clauses.now c.loop-at.assignment c.loop-at.watches c.args.head c.args.literal c.loop-at.at
    (omega arith) c.loop-at.invariant.0

pub returns-in_err-next-clause-kept : goal.returns-in_err-next-clause-kept
returns-in_err-next-clause-kept c = kept_more c.args.assignment.now c.args.head c.args.watches.now c.loop-at.watches c.visit_entry.new.watches
    c.loop-at.invariant.3
    (kept_down c.args.assignment.now c.loop-at.assignment c.args.head c.args.head c.loop-at.watches c.visit_entry.new.watches
    c.loop-at.invariant.1.grows (omega arith) c.visit_entry.ensures.kept)

pub returns-in-Failed-clause-kept : goal.returns-in-Failed-clause-kept
returns-in-Failed-clause-kept c = kept_more c.args.assignment.now c.args.head c.args.watches.now c.loop-at.watches c.visit_entry.new.watches
    c.loop-at.invariant.3
    (kept_down c.args.assignment.now c.loop-at.assignment c.args.head c.args.head c.loop-at.watches c.visit_entry.new.watches
    c.loop-at.invariant.1.grows (omega arith) c.visit_entry.ensures.kept)

pub loop-at-init : goal.loop-at-init
loop-at-init c = let t = c.args.assignment.now in let w = c.args.watches.now in (
  c.requires.visiting,
  advance_none c.args.clauses.now t c.requires.is_trail,
  refl,
  kept_same t c.args.head w,
  omega arith,
  omega arith,
  (λ before. worked_none t t w w refl refl),
)

pub loop-at-preserved : goal.loop-at-preserved
loop-at-preserved c =
    let v = subst (IsVisit c.args.clauses.now c.visit_entry.new.assignment c.loop-at.watches c.visit_entry.new.watches c.args.head
    c.args.literal c.loop-at.at) c.in-Next.is c.in_ok-next.ensures.visit in
    let g = subst (IsCharged (due c.loop-at.assignment c.loop-at.watches c.args.literal)
    (due c.visit_entry.new.assignment c.visit_entry.new.watches c.args.literal) c.loop-at.looks c.visit_entry.new.looks)
    c.in-Next.is c.in_ok-next.ensures.looks in
    let i = c.loop-at.invariant in (
      v.0,
      advance_more c.args.clauses.now c.args.assignment.now c.loop-at.assignment c.visit_entry.new.assignment i.1 c.visit_entry.ensures.advance,
      c.visit_entry.ensures.shorts ∙ i.2,
      kept_more c.args.assignment.now c.args.head c.args.watches.now c.loop-at.watches c.visit_entry.new.watches i.3
          (kept_down c.args.assignment.now c.loop-at.assignment c.args.head c.args.head c.loop-at.watches c.visit_entry.new.watches
          i.1.grows (omega arith) c.visit_entry.ensures.kept),
      (let a = g.0 in let b = i.4 in omega arith),
      (let a = g.1 in let b = i.5 in omega arith),
      (λ before. worked_more c.args.assignment.now c.loop-at.assignment c.visit_entry.new.assignment c.args.watches.now c.loop-at.watches
          c.visit_entry.new.watches (i.6 before)
          (subst (λ r. IsWorked c.args.clauses.now before c.loop-at.assignment c.visit_entry.new.assignment c.loop-at.watches
          c.visit_entry.new.watches c.loop-at.looks c.visit_entry.new.looks (failed_by r)) c.in-Next.is (c.in_ok-next.ensures.worked before)) g.1),
    )

pub returns-in-Failed-clause-looks : goal.returns-in-Failed-clause-looks
returns-in-Failed-clause-looks c =
    let g = subst (IsCharged (due c.loop-at.assignment c.loop-at.watches c.args.literal)
    (due c.visit_entry.new.assignment c.visit_entry.new.watches c.args.literal) c.loop-at.looks c.visit_entry.new.looks)
    c.in-Failed.is c.in_ok-next.ensures.looks in
    let h = due_holders c.args.clauses.now c.args.assignment.now c.args.watches.now c.args.literal c.requires.visiting.watched.watching in
    let i = c.loop-at.invariant in let a = g.0 in let b = g.1 in let d = i.4 in let e = i.5 in (omega arith, omega arith)

pub returns-clause-looks : goal.returns-clause-looks
returns-clause-looks c =
    let h = due_holders c.args.clauses.now c.args.assignment.now c.args.watches.now c.args.literal c.requires.visiting.watched.watching in
    let d = c.loop-at.invariant.4 in (omega arith, c.loop-at.invariant.5)

pub returns-in-Failed-clause-worked : goal.returns-in-Failed-clause-worked
returns-in-Failed-clause-worked c = λ before.
    let g = subst (IsCharged (due c.loop-at.assignment c.loop-at.watches c.args.literal)
    (due c.visit_entry.new.assignment c.visit_entry.new.watches c.args.literal) c.loop-at.looks c.visit_entry.new.looks)
    c.in-Failed.is c.in_ok-next.ensures.looks in
    worked_more c.args.assignment.now c.loop-at.assignment c.visit_entry.new.assignment c.args.watches.now c.loop-at.watches
    c.visit_entry.new.watches (c.loop-at.invariant.6 before)
    (subst (λ r. IsWorked c.args.clauses.now before c.loop-at.assignment c.visit_entry.new.assignment c.loop-at.watches
    c.visit_entry.new.watches c.loop-at.looks c.visit_entry.new.looks (failed_by r)) c.in-Failed.is (c.in_ok-next.ensures.worked before)) g.1
