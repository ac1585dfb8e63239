use Rattle.std.specs.Int.{w128}
use Rattle.std.proofs.Common.{rules, get_or}
use mir.Val.{SFits}
use lib.IntN.{pos}
use Rattle.std.proofs.lemmas.Int.{to_z-of_z}
use Rattle.int_simplex.proofs.Sorting.{scan_more, scan_found, scan_none}
use Rattle.int_cuts.proofs.parts.entry_in.Goals as goal

pub returns-then-t-column : goal.returns-then-t-column
returns-then-t-column c =
    let f : SFits w128 (get_or c.args.row.now c.loop-t.t-index (0, pos 0)).1 = search rules in
    simp to_z-of_z (scan_found c.args.column c.args.row.now c.loop-t.t-index (0, pos 0) c.loop-t-test.true c.if-t-column.true c.requires)

pub loop-t-preserved : goal.loop-t-preserved
loop-t-preserved c = scan_more c.args.column c.args.row.now c.loop-t.t-index (0, pos 0) c.loop-t-test.true c.if-t-column.false c.loop-t.invariant

pub returns : goal.returns
returns c = scan_none c.args.column c.args.row.now c.loop-t.t-index c.loop-t-test.false c.loop-t.invariant
