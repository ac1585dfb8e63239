use Rattle.std.proofs.Common.{length}
use Rattle.lus_grammar.specs.Stream.{stream}
use Rattle.lus_reader.specs.View.{level_view}
use Rattle.lus_reader.proofs.Operands.{joins, operator_inside}
use Rattle.lus_reader.proofs.operator.operator_at.Goals as goal

pub returns-clause-joins : goal.returns-clause-joins
returns-clause-joins c = λ bytes. rw c.operator_of.ensures (joins (stream bytes c.args.tokens.now) c.args.at
    (level_view c.args.level) c.class_at.result (c.class_at.ensures.class bytes))

pub returns-clause-inside : goal.returns-clause-inside
returns-clause-inside c = rw c.operator_of.ensures (operator_inside c.args.at (length c.args.tokens.now)
    (level_view c.args.level) c.class_at.result c.class_at.ensures.inside)
