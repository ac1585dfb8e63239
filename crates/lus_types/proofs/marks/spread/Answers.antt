use Rattle.std.proofs.Common.{map, sym}
use Rattle.lus_types.specs.Marks.{row_view}
use Rattle.lus_types.proofs.Spread.{nothing_spreads, both_spread, both_less}
use Rattle.lus_types.proofs.marks.spread.Goals as goal

pub loop-marks-init : goal.loop-marks-init
loop-marks-init c = nothing_spreads (map row_view c.args.rows.now) c.args.marks.now

pub loop-marks-smaller : goal.loop-marks-smaller
loop-marks-smaller c = both_less (map row_view c.args.rows.now) c.loop-marks.marks c.pass_down.new.marks c.pass_up.new.marks
    (sym c.loop-marks-test.ensures) c.pass_down.ensures c.pass_up.ensures

pub loop-marks-preserved : goal.loop-marks-preserved
loop-marks-preserved c = both_spread (map row_view c.args.rows.now) c.loop-marks.marks c.pass_down.new.marks c.pass_up.new.marks c.args.marks.now
    c.pass_down.ensures c.pass_up.ensures c.loop-marks.invariant
