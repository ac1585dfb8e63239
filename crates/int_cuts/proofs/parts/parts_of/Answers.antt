use Rattle.std.specs.Int.{w128}
use lib.IntN.{pos}
use mir.Val.{SFits}
use Rattle.std.proofs.lemmas.Int.{to_z-of_z}
use Rattle.int_cuts.proofs.Steps.{parts_next, parts_all}
use Rattle.int_cuts.proofs.parts.parts_of.Goals as goal

pub loop-t-preserved : goal.loop-t-preserved
loop-t-preserved c =
    let fd : SFits w128 c.args.d = c.ranges.d in
    let h = simp to_z-of_z at c.part_of.ensures in
    let i = simp to_z-of_z at c.loop-t.invariant in
    simp to_z-of_z (parts_next c.args.tableau.now c.args.x c.args.d c.args.down c.args.row.now c.loop-t.t-index
    (0, pos 0) c.part_of.result c.loop-t.parts.items c.push_part.new.parts.items
    c.loop-t-test.true h c.in_ok-push_part.ensures i)

pub returns : goal.returns
returns c =
    let fd : SFits w128 c.args.d = c.ranges.d in
    let i = simp to_z-of_z at c.loop-t.invariant in
    parts_all c.args.tableau.now c.args.x c.args.d c.args.down c.args.row.now c.loop-t.t-index c.loop-t.parts.items c.loop-t-test.false i
