use Rattle.std.proofs.Common.{length}
use Rattle.lus_grammar.specs.Stream.{stream}
use Rattle.lus_reader.proofs.Operands.{relates, relation_inside}
use Rattle.lus_reader.proofs.operator.relation_at.Goals as goal

pub returns-clause-relates : goal.returns-clause-relates
returns-clause-relates c = λ bytes. rw c.relation_of.ensures (relates (stream bytes c.args.tokens.now) c.args.at c.class_at.result
    (c.class_at.ensures.class bytes))

pub returns-clause-inside : goal.returns-clause-inside
returns-clause-inside c = rw c.relation_of.ensures (relation_inside c.args.at (length c.args.tokens.now) c.class_at.result c.class_at.ensures.inside)
