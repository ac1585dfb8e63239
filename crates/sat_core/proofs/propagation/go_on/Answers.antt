use Rattle.std.specs.Prelude.{[], ◌≡◌, ◌≤◌, ◌+◌, All, length, refl, true}
use Rattle.std.proofs.Common.{sym, ◌∙◌, ap, subst, arith}
use Rattle.std.proofs.lemmas.List.{append-nil}
use Rattle.sat_core.specs.declared.short.Short.{Short}
use Rattle.sat_core.specs.Visiting.{IsGoneThrough, IsImpliedShort}
use Rattle.sat_core.proofs.Bounded.{falls, grown}
use Rattle.sat_core.proofs.Shorts.{hold_more, all_done, grows_more}
use Rattle.sat_core.proofs.Guards.{all_beside}
use Rattle.sat_core.proofs.Holders.{spent_grown, spent_all}
use Rattle.sat_core.specs.Looking.{late}
use Rattle.sat_core.specs.Charged.{IsWorked, false_by}
use Rattle.sat_core.proofs.Kept.{kept_same, kept_on}
use Rattle.sat_core.proofs.Worked.{late_decided, worked_none, worked_more}
use Rattle.sat_core.proofs.propagation.go_on.Goals as goal

pub loop-number-init : goal.loop-number-init
loop-number-init c = let t = c.args.assignment.now in let w = c.args.watches.now in (
  c.requires.is_trail,
  c.requires.within,
  ([], sym (append-nil t)),
  c.requires.watched,
  c.requires.shorts,
  omega arith,
  kept_same t c.args.head.now w,
  omega arith,
  omega arith,
  (λ before. worked_none t t w w refl refl),
)

pub returns-in-None-clause-still : goal.returns-in-None-clause-still
returns-in-None-clause-still c = (
  all_done c.args.clauses.now c.loop-number.assignment c.propagate.new.assignment c.loop-number.watches c.propagate.new.watches
      c.propagate.new.head
      c.propagate.ensures.advance (subst (IsGoneThrough c.args.clauses.now c.propagate.new.assignment c.propagate.new.head) c.in_default.is
      c.in_ok-number.ensures.gone)
      c.propagate.ensures.watched c.propagate.ensures.shorts c.loop-number.invariant.4,
  c.in-None.ensures,
)

pub decide-requires-clause-settled : goal.decide-requires-clause-settled
decide-requires-clause-settled c =
    all_done c.args.clauses.now c.loop-number.assignment c.propagate.new.assignment c.loop-number.watches c.propagate.new.watches
    c.propagate.new.head
    c.propagate.ensures.advance (subst (IsGoneThrough c.args.clauses.now c.propagate.new.assignment c.propagate.new.head) c.in_default.is
    c.in_ok-number.ensures.gone)
    c.propagate.ensures.watched c.propagate.ensures.shorts c.loop-number.invariant.4

pub loop-number-preserved : goal.loop-number-preserved
loop-number-preserved c = let k = c.args.clauses.now in (
  c.decide.ensures.is_trail,
  c.decide.ensures.within,
  grows_more c.args.assignment.now c.propagate.new.assignment c.decide.new.assignment
      (grows_more c.args.assignment.now c.loop-number.assignment c.propagate.new.assignment c.loop-number.invariant.2 c.propagate.ensures.advance.grows)
      c.decide.ensures.grows,
  c.decide.ensures.watched,
  subst (All (λ (s : Short). IsImpliedShort k c.decide.new.assignment s.number true)) (sym c.propagate.ensures.shorts)
      (hold_more k c.loop-number.assignment c.decide.new.assignment c.loop-number.watches.shorts
      (grows_more c.loop-number.assignment c.propagate.new.assignment c.decide.new.assignment c.propagate.ensures.advance.grows c.decide.ensures.grows)
      c.loop-number.invariant.4),
  (
      let h = c.loop-number.invariant.5 in let b = c.loop-number.invariant.3.within in
      let l = grown _ _ c.propagate.ensures.advance.grows in
      let e : c.propagate.new.head ≡ length c.propagate.new.assignment =
      subst (IsGoneThrough k c.propagate.new.assignment c.propagate.new.head) c.in_default.is c.in_ok-number.ensures.gone in omega arith),
  kept_on c.args.assignment.now c.loop-number.assignment c.args.head.now c.loop-number.head c.args.watches.now c.loop-number.watches
      c.propagate.new.watches c.loop-number.invariant.2 c.loop-number.invariant.5 c.loop-number.invariant.6 c.propagate.ensures.kept,
  (
      let a = c.loop-number.invariant.7 in let b = c.in_ok-number.ensures.looks.0 in
      let e : c.propagate.new.head ≡ length c.propagate.new.assignment =
      subst (IsGoneThrough k c.propagate.new.assignment c.propagate.new.head) c.in_default.is c.in_ok-number.ensures.gone in
      let x = spent_grown k c.propagate.new.assignment c.decide.new.assignment c.propagate.new.head c.decide.ensures.grows (omega arith) in
      let y = spent_all k c.propagate.new.assignment c.propagate.new.head e in omega arith),
  (let a = c.loop-number.invariant.8 in let b = c.in_ok-number.ensures.looks.1 in omega arith),
  (λ before.
      let p = worked_more c.args.assignment.now c.loop-number.assignment c.propagate.new.assignment c.args.watches.now c.loop-number.watches
      c.propagate.new.watches (c.loop-number.invariant.9 before)
      (subst (λ r. IsWorked k before c.loop-number.assignment c.propagate.new.assignment c.loop-number.watches c.propagate.new.watches
      c.loop-number.looks c.propagate.new.looks (false_by r)) c.in_default.is (c.in_ok-number.ensures.worked before))
      c.in_ok-number.ensures.looks.1 in
      worked_more c.args.assignment.now c.propagate.new.assignment c.decide.new.assignment c.args.watches.now c.propagate.new.watches
      c.propagate.new.watches p
      (worked_none c.propagate.new.assignment c.decide.new.assignment c.propagate.new.watches c.propagate.new.watches
      (ap (late k before) c.in_ok-decide-in-Some-next_open.ensures.pushed ∙ late_decided k before c.propagate.new.assignment c.side-side.result) refl)
      (omega arith)),
)

pub loop-number-smaller : goal.loop-number-smaller
loop-number-smaller c =
    let g : length c.loop-number.assignment ≤ length c.propagate.new.assignment = grown _ _ c.propagate.ensures.advance.grows in
    let l : length c.decide.new.assignment ≡ length c.propagate.new.assignment + 1 = c.in_ok-decide-in-Some-next_open.ensures.longer in
    falls c.args.variables.now c.loop-number.assignment c.decide.new.assignment (omega arith) c.decide.ensures.is_trail.apart c.decide.ensures.within

pub returns-in-None-clause-beside : goal.returns-in-None-clause-beside
returns-in-None-clause-beside c = λ e.
    all_beside c.args.clauses.now c.propagate.new.assignment c.propagate.new.watches c.propagate.new.head
    (subst (IsGoneThrough c.args.clauses.now c.propagate.new.assignment c.propagate.new.head) c.in_default.is c.in_ok-number.ensures.gone)
    c.propagate.ensures.watched

pub returns-in_err-number-clause-kept : goal.returns-in_err-number-clause-kept
returns-in_err-number-clause-kept c =
    kept_on c.args.assignment.now c.loop-number.assignment c.args.head.now c.loop-number.head c.args.watches.now c.loop-number.watches
    c.propagate.new.watches c.loop-number.invariant.2 c.loop-number.invariant.5 c.loop-number.invariant.6 c.propagate.ensures.kept

pub returns-in-Some-clause-kept : goal.returns-in-Some-clause-kept
returns-in-Some-clause-kept c =
    kept_on c.args.assignment.now c.loop-number.assignment c.args.head.now c.loop-number.head c.args.watches.now c.loop-number.watches
    c.propagate.new.watches c.loop-number.invariant.2 c.loop-number.invariant.5 c.loop-number.invariant.6 c.propagate.ensures.kept

pub returns-in-None-clause-kept : goal.returns-in-None-clause-kept
returns-in-None-clause-kept c =
    kept_on c.args.assignment.now c.loop-number.assignment c.args.head.now c.loop-number.head c.args.watches.now c.loop-number.watches
    c.propagate.new.watches c.loop-number.invariant.2 c.loop-number.invariant.5 c.loop-number.invariant.6 c.propagate.ensures.kept

pub returns-in-Some-clause-looks : goal.returns-in-Some-clause-looks
returns-in-Some-clause-looks c =
    let a = c.loop-number.invariant.7 in let b = c.in_ok-number.ensures.looks in let d = b.0 in let e = b.1 in
    let f = c.loop-number.invariant.8 in (omega arith, omega arith)

pub returns-in-None-clause-looks : goal.returns-in-None-clause-looks
returns-in-None-clause-looks c =
    let a = c.loop-number.invariant.7 in let b = c.in_ok-number.ensures.looks in let d = b.0 in let e = b.1 in
    let f = c.loop-number.invariant.8 in (omega arith, omega arith)

pub returns-in-None-clause-gone : goal.returns-in-None-clause-gone
returns-in-None-clause-gone c = λ e.
    subst (IsGoneThrough c.args.clauses.now c.propagate.new.assignment c.propagate.new.head) c.in_default.is c.in_ok-number.ensures.gone

pub returns-in_err-decide-in-Some-next_open-clause-kept : goal.returns-in_err-decide-in-Some-next_open-clause-kept
returns-in_err-decide-in-Some-next_open-clause-kept c =
    kept_on c.args.assignment.now c.loop-number.assignment c.args.head.now c.loop-number.head c.args.watches.now c.loop-number.watches
    c.propagate.new.watches c.loop-number.invariant.2 c.loop-number.invariant.5 c.loop-number.invariant.6 c.propagate.ensures.kept

pub returns-in-Some-clause-worked : goal.returns-in-Some-clause-worked
returns-in-Some-clause-worked c = λ before.
    worked_more c.args.assignment.now c.loop-number.assignment c.propagate.new.assignment c.args.watches.now c.loop-number.watches
    c.propagate.new.watches (c.loop-number.invariant.9 before)
    (subst (λ r. IsWorked c.args.clauses.now before c.loop-number.assignment c.propagate.new.assignment c.loop-number.watches
    c.propagate.new.watches c.loop-number.looks c.propagate.new.looks (false_by r)) c.in-Some.is (c.in_ok-number.ensures.worked before))
    c.in_ok-number.ensures.looks.1

pub returns-in-None-clause-worked : goal.returns-in-None-clause-worked
returns-in-None-clause-worked c = λ before.
    worked_more c.args.assignment.now c.loop-number.assignment c.propagate.new.assignment c.args.watches.now c.loop-number.watches
    c.propagate.new.watches (c.loop-number.invariant.9 before)
    (subst (λ r. IsWorked c.args.clauses.now before c.loop-number.assignment c.propagate.new.assignment c.loop-number.watches
    c.propagate.new.watches c.loop-number.looks c.propagate.new.looks (false_by r)) c.in_default.is (c.in_ok-number.ensures.worked before))
    c.in_ok-number.ensures.looks.1
