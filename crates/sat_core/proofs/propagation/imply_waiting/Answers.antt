use Rattle.std.specs.Prelude.{true}
use Rattle.std.proofs.Common.{sym, subst}
use Rattle.sat_core.specs.Waiting.{IsWaited}
use Rattle.sat_core.proofs.Standings.{value_none}
use Rattle.sat_core.proofs.Visits.{advance_none, advance_as}
use Rattle.sat_core.proofs.Waits.{waited_value, waited_advance, waited_push}
use Rattle.sat_core.proofs.propagation.imply_waiting.Goals as goal

pub returns-in-Some-clause-waited : goal.returns-in-Some-clause-waited
returns-in-Some-clause-waited c = waited_value c.args.clauses.now c.args.assignment.now c.requires.is_trail c.args.watches.now c.args.head
    c.args.waiting.now c.args.at c.requires.watched c.args.entry c.requires.entry c.in-Some.is_true c.in-Some.ensures

pub returns-in-Ok-clause-waited : goal.returns-in-Ok-clause-waited
returns-in-Ok-clause-waited c = subst (λ t. IsWaited c.args.clauses.now t c.args.watches.now c.args.head c.args.waiting.now c.args.at c.args.entry true)
    (sym c.in-Ok.ensures.ok)
    (waited_push c.args.clauses.now c.args.assignment.now c.requires.is_trail c.args.watches.now c.args.head
    c.args.waiting.now c.args.at c.requires.watched c.args.entry c.requires.entry
    (value_none c.args.assignment.now c.args.entry.literal c.in-None.ensures))

pub returns-in-Ok-clause-advance : goal.returns-in-Ok-clause-advance
returns-in-Ok-clause-advance c = advance_as c.args.clauses.now c.args.assignment.now _ _ c.in-Ok.ensures.ok
    (waited_advance c.args.clauses.now c.args.assignment.now c.requires.is_trail c.args.watches.now c.args.head
    c.args.waiting.now c.args.at c.requires.watched c.args.entry c.requires.entry
    (value_none c.args.assignment.now c.args.entry.literal c.in-None.ensures))

pub returns-in-Err-clause-advance : goal.returns-in-Err-clause-advance
returns-in-Err-clause-advance c = advance_as c.args.clauses.now c.args.assignment.now _ _ c.in-Err.ensures.err
    (advance_none c.args.clauses.now c.args.assignment.now c.requires.is_trail)
