use Rattle.lus_grammar.specs.Grammar.{when}
use Rattle.lus_grammar.specs.Phrase.{identifier}
use Rattle.lus_grammar.specs.Stream.{stream}
use Rattle.lus_reader.specs.declared.stop.Found.{Found}
use Rattle.lus_reader.specs.declared.stop.Stop.{Stop}
use Rattle.lus_reader.specs.Look.{Stopped}
use Rattle.lus_reader.specs.Outcome.{IsSampled}
use Rattle.lus_reader.specs.View.{counts_view}
use Rattle.lus_reader.proofs.Exits.{at_err, stopped}
use Rattle.lus_reader.proofs.Conditions.{when_off, when_not_off, when_read, when_not_read}
use Rattle.lus_reader.proofs.expression.read_sample.Goals as goal

pub returns-in_err-expect_name-clause-turn : goal.returns-in_err-expect_name-clause-turn
returns-in_err-expect_name-clause-turn c =
    let s = stream c.args.bytes.now c.args.tokens.now in
    at_err (λ (f : Found). IsSampled s c.args.of f) (λ (e : Stop). Stopped s when c.args.of.next (counts_view c.args.of.counts) e)
    c.from_residual.result c.in_err-expect_name.field-0.0 c.from_residual.ensures.1
    (stopped s when c.args.of.next (counts_view c.args.of.counts) identifier _ _ c.in_err-expect_name.field-0.0
    (when_not_off c.requires.when (c.if-is_keyword.ensures.stands c.args.bytes.now))
    (c.in_err-expect_name.ensures.expects c.args.bytes.now (counts_view c.args.of.counts)))

pub returns-then-is_keyword-clause-turn : goal.returns-then-is_keyword-clause-turn
returns-then-is_keyword-clause-turn c = when_not_read c.in_ok-sampled.field-0 c.requires.when
    (c.if-is_keyword.ensures.stands c.args.bytes.now) (c.in_ok-expect_name.ensures.expects c.args.bytes.now)
    (c.pos_at-pos.ensures c.args.bytes.now) c.in_ok-clock.ensures c.in_ok-sampled.ensures.rest c.in_ok-sampled.ensures.tree

pub returns-in_err-expect_name-2-clause-turn : goal.returns-in_err-expect_name-2-clause-turn
returns-in_err-expect_name-2-clause-turn c =
    let s = stream c.args.bytes.now c.args.tokens.now in
    at_err (λ (f : Found). IsSampled s c.args.of f) (λ (e : Stop). Stopped s when c.args.of.next (counts_view c.args.of.counts) e)
    c.from_residual-in_err-expect_name-2.result c.in_err-expect_name-2.field-0.0 c.from_residual-in_err-expect_name-2.ensures.1
    (stopped s when c.args.of.next (counts_view c.args.of.counts) identifier _ _ c.in_err-expect_name-2.field-0.0
    (when_off c.requires.when (c.if-is_keyword.ensures.stands c.args.bytes.now))
    (c.in_err-expect_name-2.ensures.expects c.args.bytes.now (counts_view c.args.of.counts)))

pub returns-clause-turn : goal.returns-clause-turn
returns-clause-turn c = when_read c.in_ok-sampled-2.field-0 c.requires.when (c.if-is_keyword.ensures.stands c.args.bytes.now)
    (c.in_ok-expect_name-2.ensures.expects c.args.bytes.now) (c.pos_at-pos.ensures c.args.bytes.now) c.in_ok-clock-2.ensures
    c.in_ok-sampled-2.ensures.rest c.in_ok-sampled-2.ensures.tree
