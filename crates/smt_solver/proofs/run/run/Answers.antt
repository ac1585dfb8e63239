use Rattle.std.proofs.Common.{subst, sym}
use Rattle.smt_solver.specs.Kept.{IsKept, IsEnd, Turns, own_form, solver_view}
use Rattle.smt_solver.proofs.Kept.{own}
use Rattle.smt_solver.proofs.run.run.Goals as goal

pub turn-requires-clause-kept : goal.turn-requires-clause-kept
turn-requires-clause-kept c =
    let now = solver_view c.loop-end.solver in
    subst (λ g. IsKept g now) (sym (own (own_form (solver_view c.args.solver.now)) now c.loop-end.invariant.0)) c.loop-end.invariant.0

pub returns-in-Some : goal.returns-in-Some
returns-in-Some c =
    let f = own_form (solver_view c.args.solver.now) in
    let now = solver_view c.loop-end.solver in
    let last = solver_view c.turn.new.solver in
    subst (λ g. IsEnd g c.args.budgets last c.in-Some.end) (own f now c.loop-end.invariant.0)
    (subst (Turns (own_form now) c.args.budgets now last) c.in-Some.is c.in_ok-end.ensures)
