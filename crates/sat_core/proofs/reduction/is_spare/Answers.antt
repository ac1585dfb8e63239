use Rattle.std.specs.Prelude.{false}
use Rattle.std.proofs.Common.{arith}
use Rattle.proof_steps.specs.declared.Literal.TheVariants.{Flag}
use Rattle.sat_core.specs.declared.assigned.Assigned.{Assigned}
use Rattle.sat_core.proofs.Places.{read}
use Rattle.sat_core.proofs.Reduced.{reason_at, spare}
use Rattle.sat_core.proofs.reduction.is_spare.Goals as goal

abbrev blank : Assigned
blank = record { literal = Flag 0 false; reason = 0 }

pub look-reason-requires-clause-within : goal.look-reason-requires-clause-within
look-reason-requires-clause-within c =
    let r = reason_at c.args.clauses.now c.args.trail.now c.requires.is_trail c.args.at _
    (read c.args.trail.now c.args.at blank c.requires.within) c.if-entry-eq0.false in
    omega (arith, r)

pub returns-clause-spare : goal.returns-clause-spare
returns-clause-spare c = λ t. spare c.args.clauses.now c.args.trail.now c.args.marked.now c.args.at _ _ _
    (read c.args.trail.now c.args.at blank c.requires.within) c.if-entry-eq0.false c.look-reason.ensures.clause c.as_slice.ensures
    (c.all_marked.ensures t)
