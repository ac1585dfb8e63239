use Rattle.std.specs.Prelude.{get_or, false}
use Rattle.std.proofs.Common.{subst, arith, ◌∙◌}
use Rattle.proof_steps.specs.declared.Literal.TheVariants.{Flag}
use Rattle.sat_core.specs.declared.assigned.Assigned.{Assigned}
use Rattle.sat_core.specs.Waiting.{IsWaited}
use Rattle.sat_core.proofs.Places.{read}
use Rattle.sat_core.proofs.Visits.{advance_more}
use Rattle.sat_core.proofs.Waits.{but_done}
use Rattle.sat_core.proofs.Worked.{late_waiting, early_waiting}
use Rattle.sat_core.proofs.propagation.imply_all_waiting.Goals as goal

abbrev blank : Assigned
blank = record { literal = Flag 0 false; reason = 0 }

pub imply_waiting-requires-clause-entry : goal.imply_waiting-requires-clause-entry
imply_waiting-requires-clause-entry c = read c.args.waiting.now c.loop-i.i blank (omega arith)

pub loop-i-preserved : goal.loop-i-preserved
loop-i-preserved c = (
  subst (IsWaited c.args.clauses.now c.imply_waiting.new.assignment c.args.watches.now c.args.head c.args.waiting.now c.loop-i.i
      (get_or c.args.waiting.now c.loop-i.i blank)) c.if-not-branch.false c.in_ok-imply_waiting.ensures.waited,
  advance_more c.args.clauses.now c.args.assignment.now c.loop-i.assignment c.imply_waiting.new.assignment c.loop-i.invariant.1
      c.imply_waiting.ensures.advance,
  (late_waiting c.args.clauses.now c.args.assignment.now c.args.watches.now (get_or c.args.waiting.now c.loop-i.i blank)
      (c.requires.watched.waits c.loop-i.i (get_or c.args.waiting.now c.loop-i.i blank) (read c.args.waiting.now c.loop-i.i blank (omega arith)))
      c.loop-i.assignment c.imply_waiting.new.assignment c.imply_waiting.ensures.pushed ∙ c.loop-i.invariant.2),
)

pub returns-then-not-branch-clause-waited : goal.returns-then-not-branch-clause-waited
returns-then-not-branch-clause-waited c =
    let r = subst (IsWaited c.args.clauses.now c.imply_waiting.new.assignment c.args.watches.now c.args.head c.args.waiting.now c.loop-i.i
    (get_or c.args.waiting.now c.loop-i.i blank)) c.if-not-branch.true c.in_ok-imply_waiting.ensures.waited in
    (r.0, (c.loop-i.i, r.1))

pub returns-clause-waited : goal.returns-clause-waited
returns-clause-waited c = but_done c.args.clauses.now c.loop-i.assignment c.args.watches.now c.args.head c.args.waiting.now c.loop-i.i (omega arith)
    c.loop-i.invariant.0

pub returns-then-not-branch-clause-quiet : goal.returns-then-not-branch-clause-quiet
returns-then-not-branch-clause-quiet c = late_waiting c.args.clauses.now c.args.assignment.now c.args.watches.now (get_or c.args.waiting.now c.loop-i.i blank)
    (c.requires.watched.waits c.loop-i.i (get_or c.args.waiting.now c.loop-i.i blank) (read c.args.waiting.now c.loop-i.i blank (omega arith)))
    c.loop-i.assignment c.imply_waiting.new.assignment c.imply_waiting.ensures.pushed ∙ c.loop-i.invariant.2

pub returns-in_err-imply_waiting-clause-quiet : goal.returns-in_err-imply_waiting-clause-quiet
returns-in_err-imply_waiting-clause-quiet c = late_waiting c.args.clauses.now c.args.assignment.now c.args.watches.now (get_or c.args.waiting.now c.loop-i.i blank)
    (c.requires.watched.waits c.loop-i.i (get_or c.args.waiting.now c.loop-i.i blank) (read c.args.waiting.now c.loop-i.i blank (omega arith)))
    c.loop-i.assignment c.imply_waiting.new.assignment c.imply_waiting.ensures.pushed ∙ c.loop-i.invariant.2

pub returns-then-not-branch-clause-early : goal.returns-then-not-branch-clause-early
returns-then-not-branch-clause-early c = early_waiting c.args.clauses.now c.args.assignment.now c.args.watches.now
    (get_or c.args.waiting.now c.loop-i.i blank)
    (c.requires.watched.waits c.loop-i.i (get_or c.args.waiting.now c.loop-i.i blank) (read c.args.waiting.now c.loop-i.i blank (omega arith)))
