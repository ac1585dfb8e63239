use Rattle.std.specs.Prelude.{Some, length, false}
use Rattle.std.proofs.Common.{sym, ap, subst}
use Rattle.sat_core.specs.Trail.{IsApart}
use Rattle.sat_core.specs.Placing.{IsPlaced}
use Rattle.sat_core.proofs.Placed.{two_open}
use Rattle.sat_core.proofs.placing.placed.Goals as goal

pub latest_two-requires-clause-apart : goal.latest_two-requires-clause-apart
latest_two-requires-clause-apart c = subst IsApart (sym c.entries-trail.ensures.entries) c.entries-trail.ensures.apart

pub beside_open-requires-clause-apart : goal.beside_open-requires-clause-apart
beside_open-requires-clause-apart c = subst IsApart (sym c.entries-trail.ensures.entries) c.entries-trail.ensures.apart

pub returns-in-Some-replacement : goal.returns-in-Some-replacement
returns-in-Some-replacement c =
    let f = c.in-Some.ensures in
    let s = c.in-Some-replacement.ensures in
    subst (λ x. IsPlaced c.args.assignment.now c.args.clause.now (Some (c.in-Some.first, c.in-Some-replacement.second)) x false)
    (sym (ap length c.entries-trail.ensures.entries))
    (two_open c.args.assignment.now c.entries-trail.ensures.apart c.args.clause.now c.in-Some.first c.in-Some-replacement.second f.0 f.1 s.0 s.1)
