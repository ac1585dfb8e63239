use Rattle.std.specs.Prelude.{List, IfSome}
use Rattle.sat_core.specs.declared.assigned.Assigned.{Assigned}
use Rattle.sat_core.specs.Charged.{IsWorkedOut}
use Rattle.std.proofs.Common.{arith, subst}
use Rattle.sat_core.specs.Looking.{IsEarly}
use Rattle.sat_core.proofs.Kept.{kept_down}
use Rattle.sat_core.proofs.Worked.{worked_on, worked_out, worked_early, if_ok_both}
use Rattle.sat_core.proofs.propagation.run_on.Goals as goal

pub returns-in-None-clause-kept : goal.returns-in-None-clause-kept
returns-in-None-clause-kept c = kept_down c.args.assignment.now c.hold_shorts.new.assignment c.args.head.now c.args.head.now c.args.watches.now
    c.go_on.new.watches c.hold_shorts.ensures.advance.grows (omega arith) c.go_on.ensures.kept

pub returns-in-Some-clause-worked : goal.returns-in-Some-clause-worked
returns-in-Some-clause-worked c = λ before. worked_early c.args.clauses.now before c.args.assignment.now c.hold_shorts.new.assignment c.args.watches.now c.args.looks.now
    c.in-Some.number (c.hold_shorts.ensures.quiet before)
    (subst (λ r. IfSome r (IsEarly c.args.clauses.now before)) c.in-Some.is (c.in_ok-number.ensures.early before))

pub returns-in-None-clause-worked : goal.returns-in-None-clause-worked
returns-in-None-clause-worked c =
    let k = c.args.clauses.now in
    if_ok_both c.go_on.result _ _ (λ r. (before : List Assigned) → IsWorkedOut k before c.args.assignment.now c.go_on.new.assignment
    c.args.watches.now c.go_on.new.watches c.args.looks.now c.go_on.new.looks r)
    (λ r p q before. worked_on k before c.args.assignment.now c.hold_shorts.new.assignment c.go_on.new.assignment c.args.watches.now
    c.go_on.new.watches r (c.hold_shorts.ensures.quiet before)
    (worked_out k before c.hold_shorts.new.assignment c.go_on.new.assignment c.args.watches.now c.go_on.new.watches _ _ r (p before)) q.1)
    c.go_on.ensures.worked c.go_on.ensures.looks
