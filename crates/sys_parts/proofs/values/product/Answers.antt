use Rattle.std.proofs.Common.{◌*ℤ◌, arith}
use Rattle.std.specs.Int.{w128}
use mir.Val.{SFits}
use Rattle.std.proofs.lemmas.Int.{to_z-of_z, fits_signed_mul}
use Rattle.sys_parts.proofs.values.product.Goals as goal

pub returns : goal.returns
returns c =
    let f : SFits w128 c.args.left = c.ranges.left in
    let g : SFits w128 c.args.right = c.ranges.right in
    let p : SFits w128 (c.args.left *ℤ c.args.right) = fits_signed_mul w128 c.args.left c.args.right 9223372036854775808 9223372036854775808
    (omega (arith, c.requires.left)) (omega (arith, c.requires.right)) (omega arith) in
    simp to_z-of_z at c.of_whole.ensures
