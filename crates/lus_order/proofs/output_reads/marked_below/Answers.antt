use Rattle.lus_order.proofs.MarkedBelow.{below_more}
use Rattle.lus_order.proofs.output_reads.marked_below.Goals as goal

pub loop-number-preserved : goal.loop-number-preserved
loop-number-preserved c =
    below_more c.args.marks.now c.loop-number.number c.loop-number.numbers.items c.push_marked.new.numbers.items c.loop-number.invariant c.in_ok-push_marked.ensures
