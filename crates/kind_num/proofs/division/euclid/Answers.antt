use Rattle.std.specs.Prelude.{◌≡◌}
use Rattle.std.proofs.Common.{rules, refl, subst}
use Rattle.std.specs.Int.{w128, int_div_euclid, int_rem_euclid}
use mir.Val.{SFits}
use Rattle.std.proofs.lemmas.Int.{to_z-of_z}
use Rattle.kind_num.proofs.Within.{within-fits, least_over_minus_one}
use Rattle.kind_num.proofs.Quotients.{division_is}
use Rattle.kind_num.proofs.division.euclid.Goals as goal

pub returns-then-d-eqminus1-clause-exact : goal.returns-then-d-eqminus1-clause-exact
returns-then-d-eqminus1-clause-exact c =
    let f : SFits w128 c.args.n = c.ranges.n in
    let g : SFits w128 c.args.d = c.ranges.d in
    (least_over_minus_one _ _ f g c.if-n-eqminus170141183460469231731687303715884105728.true c.if-d-eqminus1.true, simp to_z-of_z refl)

pub returns-clause-exact : goal.returns-clause-exact
returns-clause-exact c =
    let f : SFits w128 c.args.n = c.ranges.n in
    let g : SFits w128 c.args.d = c.ranges.d in
    let q : SFits w128 c.div_euclid.result = search rules in
    let r : SFits w128 c.rem_euclid.result = search rules in
    let e = simp to_z-of_z at c.div_euclid.ensures in
    let m = simp to_z-of_z at c.rem_euclid.ensures.value in
    let p : (c.div_euclid.result, c.rem_euclid.result) ≡ (int_div_euclid c.args.n c.args.d, int_rem_euclid c.args.n c.args.d) = cc in
    (within-fits _ (subst (SFits w128) e q), simp to_z-of_z p)

pub returns-clause-division : goal.returns-clause-division
returns-clause-division c =
    let f : SFits w128 c.args.n = c.ranges.n in
    let g : SFits w128 c.args.d = c.ranges.d in
    let q : SFits w128 c.div_euclid.result = search rules in
    let r : SFits w128 c.rem_euclid.result = search rules in
    let e = simp to_z-of_z at c.div_euclid.ensures in
    let m = simp to_z-of_z at c.rem_euclid.ensures.value in
    simp to_z-of_z (rw (e, m) (division_is c.args.n c.args.d c.requires))
