use Rattle.std.proofs.Common.{rules, refl}
use Rattle.std.specs.Int.{w128}
use mir.Val.{SFits}
use Rattle.std.proofs.lemmas.Int.{to_z-of_z}
use Rattle.kind_num.proofs.Within.{within-fits, within-not}
use Rattle.kind_num.proofs.arithmetic.add.Goals as goal

pub returns-in-Some : goal.returns-in-Some
returns-in-Some c =
    let f : SFits w128 c.args.left = c.ranges.left in
    let g : SFits w128 c.args.right = c.ranges.right in
    let k : SFits w128 c.in-Some.sum = search rules in
    let e = simp to_z-of_z at c.in-Some.ensures in
    (within-fits _ e.0, simp to_z-of_z e.1)

pub returns-in-None : goal.returns-in-None
returns-in-None c =
    let f : SFits w128 c.args.left = c.ranges.left in
    let g : SFits w128 c.args.right = c.ranges.right in
    let e = simp to_z-of_z at c.in-None.ensures in
    (within-not _ e, simp to_z-of_z refl)
