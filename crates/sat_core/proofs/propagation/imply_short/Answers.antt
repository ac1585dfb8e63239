use Rattle.std.specs.Prelude.{true}
use Rattle.std.proofs.Common.{sym, ◌∙◌, ap, subst}
use Rattle.sat_core.specs.Looking.{late}
use Rattle.sat_core.specs.Watching.{IsWatched}
use Rattle.sat_core.specs.Visiting.{IsImpliedShort}
use Rattle.sat_core.proofs.Standings.{value_none}
use Rattle.sat_core.proofs.Visits.{advance_none, advance_as}
use Rattle.sat_core.proofs.Shorts.{empty_false, short_value, unit_advance, unit_watched, unit_holds}
use Rattle.sat_core.proofs.Worked.{late_short}
use Rattle.sat_core.proofs.propagation.imply_short.Goals as goal

pub returns-in_default-clause-holds : goal.returns-in_default-clause-holds
returns-in_default-clause-holds c = empty_false c.args.clauses.now c.args.assignment.now c.args.short c.requires.short c.in_default.is

pub returns-in-Some-value-clause-holds : goal.returns-in-Some-value-clause-holds
returns-in-Some-value-clause-holds c = short_value c.args.clauses.now c.args.assignment.now c.args.short c.requires.short c.in-Some.literal c.in-Some.is
    c.in-Some-value.is_true c.in-Some-value.ensures

pub returns-in-Ok-clause-holds : goal.returns-in-Ok-clause-holds
returns-in-Ok-clause-holds c = subst (λ t. IsImpliedShort c.args.clauses.now t c.args.short.number true) (sym c.in-Ok.ensures.ok)
    (unit_holds c.args.clauses.now c.args.assignment.now c.args.short c.requires.short c.in-Some.literal c.in-Some.is c.args.watches.now c.args.head
    c.requires.is_trail c.requires.watched (value_none c.args.assignment.now c.in-Some.literal c.in-None.ensures))

pub returns-in-Ok-clause-watched : goal.returns-in-Ok-clause-watched
returns-in-Ok-clause-watched c = subst (λ t. IsWatched c.args.clauses.now t c.args.watches.now c.args.head) (sym c.in-Ok.ensures.ok)
    (unit_watched c.args.clauses.now c.args.assignment.now c.args.short c.requires.short c.in-Some.literal c.in-Some.is c.args.watches.now c.args.head
    c.requires.is_trail c.requires.watched (value_none c.args.assignment.now c.in-Some.literal c.in-None.ensures))

pub returns-in-Ok-clause-advance : goal.returns-in-Ok-clause-advance
returns-in-Ok-clause-advance c = advance_as c.args.clauses.now c.args.assignment.now _ _ c.in-Ok.ensures.ok
    (unit_advance c.args.clauses.now c.args.assignment.now c.args.short c.requires.short c.in-Some.literal c.in-Some.is c.args.watches.now c.args.head
    c.requires.is_trail c.requires.watched (value_none c.args.assignment.now c.in-Some.literal c.in-None.ensures))

pub returns-in-Err-clause-advance : goal.returns-in-Err-clause-advance
returns-in-Err-clause-advance c = advance_as c.args.clauses.now c.args.assignment.now _ _ c.in-Err.ensures.err
    (advance_none c.args.clauses.now c.args.assignment.now c.requires.is_trail)

pub returns-in-Ok-clause-quiet : goal.returns-in-Ok-clause-quiet
returns-in-Ok-clause-quiet c = λ before. ap (late c.args.clauses.now before) c.in-Ok.ensures.ok
    ∙ late_short c.args.clauses.now before c.args.short c.requires.short c.args.assignment.now c.in-Some.literal c.in-Some.is

pub returns-in-Err-clause-quiet : goal.returns-in-Err-clause-quiet
returns-in-Err-clause-quiet c = λ before. ap (late c.args.clauses.now before) c.in-Err.ensures.err
