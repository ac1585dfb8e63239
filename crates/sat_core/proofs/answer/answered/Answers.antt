use Rattle.std.specs.Prelude.{[], length, refl}
use Rattle.std.proofs.lemmas.List.{append-nil}
use Rattle.std.proofs.Common.{sym, subst}
use Rattle.sat_core.specs.Propagation.{IsFalseAt}
use Rattle.sat_core.specs.Charged.{IsWorkedOut}
use Rattle.sat_core.proofs.Deciding.{has_decision, still_none, still_some}
use Rattle.sat_core.proofs.Kept.{kept_more, kept_pairs, on_err_so}
use Rattle.sat_core.proofs.Worked.{costs_full, costs_false}
use Rattle.sat_core.proofs.answer.answered.Goals as goal

pub returns-in_default-clause-answer : goal.returns-in_default-clause-answer
returns-in_default-clause-answer c = (
  record { clauses = refl; steps = refl },
  still_none c.args.clauses.now _ c.args.variables.now _ c.run.new.assignment c.in_ok-number.field-0
      refl refl c.in_default.is c.in_ok-number.ensures.still,
)

pub end-requires-clause-is_false : goal.end-requires-clause-is_false
end-requires-clause-is_false c = subst (λ t. IsFalseAt c.args.clauses.now t c.in-Some.number) (sym c.trail-trail.ensures.entries)
    (still_some c.args.clauses.now _ c.args.variables.now c.args.variables.now c.run.new.assignment
    c.in_ok-number.field-0 c.in-Some.number refl c.in-Some.is c.in_ok-number.ensures.still)

pub returns-in-Some-last_decision-clause-answer : goal.returns-in-Some-last_decision-clause-answer
returns-in-Some-last_decision-clause-answer c = (
  record { clauses = refl; steps = refl },
  still_some c.args.clauses.now _ c.args.variables.now c.args.variables.now c.run.new.assignment
      c.in_ok-number.field-0 c.in-Some.number refl c.in-Some.is c.in_ok-number.ensures.still,
  has_decision c.run.new.assignment _ _ c.trail-trail.ensures.entries c.in-Some-last_decision.ensures,
)

pub returns-in_default-clause-beside : goal.returns-in_default-clause-beside
returns-in_default-clause-beside c = λ e. c.in_ok-number.ensures.beside c.in_default.is

pub returns-in_default-clause-gone : goal.returns-in_default-clause-gone
returns-in_default-clause-gone c = λ e. c.in_ok-number.ensures.gone c.in_default.is

pub returns-in_err-end-in-None-clause-kept : goal.returns-in_err-end-in-None-clause-kept
returns-in_err-end-in-None-clause-kept c = on_err_so c.from_residual-in_err-end-in-None.result
    (kept_more c.args.assignment.now (length c.args.assignment.now) c.args.watches.now c.run.new.watches c.end.new.watches c.run.ensures.kept
    (kept_pairs c.args.assignment.now (length c.args.assignment.now) c.run.new.watches c.end.new.watches c.in_err-end-in-None.ensures.pairs))

pub returns-in_default-clause-cost : goal.returns-in_default-clause-cost
returns-in_default-clause-cost c = costs_full c.args.clauses.now c.args.assignment.now c.run.new.assignment c.run.ensures.grows c.args.watches.now
    c.run.new.watches
    (subst (IsWorkedOut c.args.clauses.now c.args.assignment.now c.args.assignment.now c.run.new.assignment c.args.watches.now
    c.run.new.watches c.args.looks.now c.run.new.looks) c.in_default.is c.in_ok-number.ensures.worked)

pub returns-in-Some-last_decision-clause-cost : goal.returns-in-Some-last_decision-clause-cost
returns-in-Some-last_decision-clause-cost c = costs_false c.args.clauses.now c.args.assignment.now c.run.new.assignment c.run.ensures.grows
    c.args.watches.now c.run.new.watches c.in-Some.number
    (subst (IsWorkedOut c.args.clauses.now c.args.assignment.now c.args.assignment.now c.run.new.assignment c.args.watches.now
    c.run.new.watches c.args.looks.now c.run.new.looks) c.in-Some.is c.in_ok-number.ensures.worked)
    c.run.new.watches.pairs ([], sym (append-nil c.run.new.watches.pairs))

pub returns-in_ok-end-in-None-clause-cost : goal.returns-in_ok-end-in-None-clause-cost
returns-in_ok-end-in-None-clause-cost c = costs_false c.args.clauses.now c.args.assignment.now c.run.new.assignment c.run.ensures.grows
    c.args.watches.now c.run.new.watches c.in-Some.number
    (subst (IsWorkedOut c.args.clauses.now c.args.assignment.now c.args.assignment.now c.run.new.assignment c.args.watches.now
    c.run.new.watches c.args.looks.now c.run.new.looks) c.in-Some.is c.in_ok-number.ensures.worked)
    c.end.new.watches.pairs c.in_ok-end-in-None.ensures.longer
