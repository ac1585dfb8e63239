use Rattle.lus_order.proofs.Added.{one_added}
use Rattle.lus_order.proofs.words.add_streams.Goals as goal

pub loop-param-preserved : goal.loop-param-preserved
loop-param-preserved c = one_added c.args.table.now c.loop-param.table c.add.new.self c.args.params.now c.loop-param.param-index c.param-item.result
    c.loop-param-test.true c.param-item.is c.loop-param.invariant (rw c.deref.ensures at c.in_ok-add.ensures.names)
