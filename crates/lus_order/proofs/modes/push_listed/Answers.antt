use Rattle.std.proofs.Common.{drop}
use Rattle.lus_order.specs.Library.{texts_seen}
use Rattle.lus_order.specs.Rows.{modes_view}
use Rattle.lus_order.proofs.Statements.{arguments_end}
use Rattle.lus_order.proofs.modes.push_listed.Goals as goal

pub returns-after-loop-argument : goal.returns-after-loop-argument
returns-after-loop-argument c = arguments_end c.args.clocks.now c.args.callees.now (modes_view c.args.modes.now) c.args.reads.now
    (texts_seen (drop c.loop-argument.place c.args.inputs.now)) c.args.arguments.now c.loop-argument.argument-index c.loop-argument.row.items _
    c.loop-argument-test.false c.loop-argument.invariant.rest
