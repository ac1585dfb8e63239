use Rattle.std.specs.Int.{w128}
use Rattle.std.specs.Prelude.{◌≡◌}
use Rattle.std.proofs.Common.{ap}
use Rattle.std.proofs.lemmas.Int.{to_z-of_z}
use mir.Val.{SFits, to_z}
use lib.IntN.{pos}
use Rattle.int_simplex.proofs.Content.{not_zero}
use Rattle.int_simplex.proofs.Holding.{put_noted, noted_taken, noted_none}
use Rattle.int_simplex.proofs.holders.note.Goals as goal

pub returns-then-is-eq0 : goal.returns-then-is-eq0
returns-then-is-eq0 c =
    let f : SFits w128 c.args.is = c.ranges.is in
    let o : c.args.is ≡ pos 0 = simp to_z-of_z at (ap (to_z w128) c.if-is-eq0.true) in
    noted_taken c.args.column c.args.k c.args.was c.args.is _ _ o c.take_out.ensures

pub returns-then-was-eq0 : goal.returns-then-was-eq0
returns-then-was-eq0 c = put_noted c.args.column c.args.k c.args.was c.args.is _ _ c.put.result c.put.ensures

pub returns : goal.returns
returns c = noted_none c.args.column c.args.k c.args.was c.args.is _ (not_zero c.args.was c.if-was-eq0.false)
