use Rattle.std.proofs.Common.{length}
use Rattle.lus_grammar.specs.Stream.{stream}
use Rattle.lus_reader.proofs.Operands.{begins, start_inside}
use Rattle.lus_reader.proofs.start.start_at.Goals as goal

pub returns-clause-begins : goal.returns-clause-begins
returns-clause-begins c = λ bytes. rw c.start_of.ensures (begins (stream bytes c.args.tokens.now) c.args.at c.class_at.result (c.class_at.ensures.class bytes))

pub returns-clause-inside : goal.returns-clause-inside
returns-clause-inside c = rw c.start_of.ensures (start_inside c.args.at (length c.args.tokens.now) c.class_at.result c.class_at.ensures.inside)
