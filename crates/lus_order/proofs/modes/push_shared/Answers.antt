use Rattle.lus_order.specs.Library.{texts_seen}
use Rattle.std.proofs.Common.{drop}
use Rattle.lus_order.proofs.Statements.{words_end}
use Rattle.lus_order.proofs.modes.push_shared.Goals as goal

pub returns-after-loop-word : goal.returns-after-loop-word
returns-after-loop-word c = words_end c.args.names.now c.args.reads.now (texts_seen (drop c.loop-word.place c.args.outputs.now)) c.args.words.now
    c.loop-word.word-index c.loop-word.row.items _ c.loop-word-test.false c.loop-word.invariant.rest
