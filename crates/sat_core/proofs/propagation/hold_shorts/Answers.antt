use Rattle.sat_core.proofs.Shorts.{decided_shorts}
use Rattle.sat_core.proofs.propagation.hold_shorts.Goals as goal

pub returns-in-Some-clause-hold : goal.returns-in-Some-clause-hold
returns-in-Some-clause-hold c = decided_shorts c.args.clauses.now c.args.assignment.now _ c.args.watches.now c.args.head _
    c.requires.is_trail c.trail.ensures.entries c.in-Some.ensures c.requires.watched
