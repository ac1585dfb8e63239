use Rattle.std.specs.Int.{w128}
use Rattle.std.proofs.Common.{rules}
use mir.Val.{SFits}
use lib.Signed.{lt_z}
use Rattle.std.proofs.lemmas.Int.{to_z-of_z}
use Rattle.kind_num.specs.Division.{IsFloor}
use Rattle.int_simplex.proofs.Floors.{below_high, not_below_low, whether, is_below, not_below}
use Rattle.int_simplex.proofs.choosing.is_below.Goals as goal

pub returns : goal.returns
returns c =
    let fl : SFits w128 c.args.limit = c.ranges.limit in
    let ff : SFits w128 c.floor_of.result = search rules in
    let f0 : SFits w128 c.args.v.0 = search rules in
    let f1 : SFits w128 c.args.v.1 = search rules in
    let w : IsFloor c.args.v.0 c.args.v.1 c.floor_of.result = c.floor_of.ensures in
    simp to_z-of_z (whether (lt_z c.floor_of.result c.args.limit)
    (λ e. below_high c.args.v.0 c.args.v.1 c.floor_of.result c.args.limit c.requires w (is_below c.floor_of.result c.args.limit e))
    (λ e. not_below_low c.args.v.0 c.args.v.1 c.floor_of.result c.args.limit c.requires w (not_below c.floor_of.result c.args.limit e)))
