-- At each exit of the readers of expressions, what it owes.
use Rattle.std.proofs.Common.{inl, List, [], ◌∷◌, ◌++◌, refl, sym, ap, ◌∙◌, subst, arith}
use Rattle.lus_tree.specs.Tree.{Expression as Tree}
use Rattle.lus_tree.specs.View.{joined}
use Rattle.lus_tree.proofs.Views.{view-Name}
use Rattle.lus_lexer.specs.declared.token.Sign.TheVariants as S
use Rattle.lus_grammar.specs.Answers.{Reads}
use Rattle.lus_grammar.specs.Grammar.{operand, bracketed}
use Rattle.lus_grammar.specs.Phrase.{Phrase, part, sign, word, optional, ◌⨾◌, Expression, Condition, Arrow, Implication, Relation, Unary, Primary, Chain, Expressions}
use Rattle.lus_grammar.specs.Phrase as P
use Rattle.lus_grammar.specs.Run.{token, line_stop, both, first_stop, second_stop}
use Rattle.lus_grammar.specs.Stream.{stream}
use Rattle.lus_grammar.specs.Syntax.{leaf}
use Rattle.lus_grammar.specs.Trees.{arguments_of, listed_of}
use Rattle.lus_reader.specs.declared.operator.Level.{Level}
use Rattle.lus_reader.specs.declared.stop.Found.{Found}
use Rattle.lus_reader.specs.declared.stop.List.{List as Exprs}
use Rattle.lus_reader.specs.declared.stop.Stop.{Stop}
use Rattle.lus_reader.specs.Look.{Stopped}
use Rattle.lus_reader.specs.Outcome.{Answers, IsBranch, IsBracketed, onto, trees_of, tree_of, more_expressions}
use Rattle.lus_reader.specs.View.{counts_view, level_view}
use Rattle.lus_reader.proofs.Exits.{failed, as_found, lifted, at_err, stopped, take, here, lead_at}
use Rattle.lus_reader.proofs.Conditions.{if_0, if_1, if_2, if_3, if_4, if_read, no_if, no_if_read, arrow_left, arrow_right, arrow_none, arrow_read, implication_left, implication_right, implication_none, implication_read, led, led_end, led_off, led_on}
use Rattle.lus_reader.proofs.Chains.{grouped_first, grouped_end, grouped_off, grouped_found, relation_left, relation_right, relation_none, relation_read, chain_first, operand_first}
use Rattle.lus_reader.proofs.Unaries.{not_off, not_read, minus_off, minus_read, pre_off, pre_read, plain_off, plain_read, none_off}
use Rattle.lus_reader.proofs.Primaries.{name_read, call_0, call_read, round_1, round_read, activate_0, activate_read, merge_0, branch_taken, merge_read, branch_0, branch_1, branch_read, condact_0, condact_read}
use Rattle.lus_reader.proofs.Lists.{listed_start, listed_end, listed_off, listed_found, listed_none, argued_empty, argued_first, argued_all}
use Rattle.lus_reader.proofs.+reader.Goals as goal

pub expression::read_arrow-returns-in_err-left-clause-reads : goal.expression::read_arrow-returns-in_err-left-clause-reads
expression::read_arrow-returns-in_err-left-clause-reads t c =
    failed (stream c.args.bytes.now c.args.tokens.now) Arrow c.args.at
    (counts_view c.args.counts) c.from_residual.result c.in_err-left.field-0.0 c.from_residual.ensures.1 (arrow_left)
    (c.in_err-left.ensures.reads)

pub expression::read_arrow-returns-in_err-right-clause-reads : goal.expression::read_arrow-returns-in_err-right-clause-reads
expression::read_arrow-returns-in_err-right-clause-reads t c =
    failed (stream c.args.bytes.now c.args.tokens.now) Arrow c.args.at
    (counts_view c.args.counts) c.from_residual-in_err-right.result c.in_err-right.field-0.0 c.from_residual-in_err-right.ensures.1
    (arrow_right c.in_ok-left.ensures.reads (c.if-not-is_sign.ensures.stands c.args.bytes.now) c.in_ok-behind.ensures.counted)
    (c.in_err-right.ensures.reads)

pub expression::read_arrow-returns-then-not-is_sign-clause-reads : goal.expression::read_arrow-returns-then-not-is_sign-clause-reads
expression::read_arrow-returns-then-not-is_sign-clause-reads t c =
    arrow_none c.in_ok-left.ensures.reads (c.if-not-is_sign.ensures.stands c.args.bytes.now)

pub expression::read_arrow-returns-clause-reads : goal.expression::read_arrow-returns-clause-reads
expression::read_arrow-returns-clause-reads t c =
    as_found c.in_ok-arrow.field-0 c.in_ok-right.right.counts (arrow_read c.in_ok-left.ensures.reads
    (c.if-not-is_sign.ensures.stands c.args.bytes.now) c.in_ok-behind.ensures.counted c.in_ok-right.ensures.reads
    (c.pos_at-pos.ensures c.args.bytes.now) refl) c.in_ok-arrow.ensures.rest c.in_ok-arrow.ensures.tree

pub expression::read_implication-returns-in_err-left-clause-reads : goal.expression::read_implication-returns-in_err-left-clause-reads
expression::read_implication-returns-in_err-left-clause-reads t c =
    failed (stream c.args.bytes.now c.args.tokens.now) Implication c.args.at
    (counts_view c.args.counts) c.from_residual.result c.in_err-left.field-0.0 c.from_residual.ensures.1 (implication_left)
    (c.in_err-left.ensures.reads)

pub expression::read_implication-returns-in_err-right-clause-reads : goal.expression::read_implication-returns-in_err-right-clause-reads
expression::read_implication-returns-in_err-right-clause-reads t c =
    failed (stream c.args.bytes.now c.args.tokens.now) Implication c.args.at
    (counts_view c.args.counts) c.from_residual-in_err-right.result c.in_err-right.field-0.0 c.from_residual-in_err-right.ensures.1
    (implication_right c.in_ok-left.ensures.reads (c.if-not-is_sign.ensures.stands c.args.bytes.now)) (c.in_err-right.ensures.reads)

pub expression::read_implication-returns-then-not-is_sign-clause-reads : goal.expression::read_implication-returns-then-not-is_sign-clause-reads
expression::read_implication-returns-then-not-is_sign-clause-reads t c =
    implication_none c.in_ok-left.ensures.reads (c.if-not-is_sign.ensures.stands c.args.bytes.now)

pub expression::read_implication-returns-clause-reads : goal.expression::read_implication-returns-clause-reads
expression::read_implication-returns-clause-reads t c =
    as_found c.in_ok-binary.field-0 c.in_ok-right.right.counts (implication_read c.in_ok-left.ensures.reads
    (c.if-not-is_sign.ensures.stands c.args.bytes.now) c.in_ok-right.ensures.reads (c.pos_at-pos.ensures c.args.bytes.now) refl)
    c.in_ok-binary.ensures.rest c.in_ok-binary.ensures.tree

pub expression::read_chain-returns-in_err-first-clause-reads : goal.expression::read_chain-returns-in_err-first-clause-reads
expression::read_chain-returns-in_err-first-clause-reads t c =
    failed (stream c.args.bytes.now c.args.tokens.now) (Chain (level_view c.args.level)) c.args.at
    (counts_view c.args.counts) c.from_residual.result c.in_err-first.field-0.0 c.from_residual.ensures.1 (chain_first)
    (c.in_err-first.ensures.reads)

pub expression::read_operand-returns-in_err-unary-clause-reads : goal.expression::read_operand-returns-in_err-unary-clause-reads
expression::read_operand-returns-in_err-unary-clause-reads t c =
    failed (stream c.args.bytes.now c.args.tokens.now) (operand (level_view c.args.level)) c.args.at
    (counts_view c.args.counts) c.from_residual.result c.in_err-unary.field-0.0 c.from_residual.ensures.1
    (operand_first (level_view c.args.level)) (c.in_err-unary.ensures.reads)

pub expression::read_condition-returns-clause-reads : goal.expression::read_condition-returns-clause-reads
expression::read_condition-returns-clause-reads t c =
    lifted (stream c.args.bytes.now c.args.tokens.now) Condition Arrow c.args.at (counts_view c.args.counts) c.read_arrow.result
    (λ f x. no_if_read (c.if-is_keyword.ensures.stands c.args.bytes.now) x)
    (no_if (c.if-is_keyword.ensures.stands c.args.bytes.now)) c.read_arrow.ensures.reads

pub expression::read_expression-loop-alloc-init : goal.expression::read_expression-loop-alloc-init
expression::read_expression-loop-alloc-init t c =
    let o = c.in_ok-found.ensures.onward in record { led = led c.in_ok-found.ensures.reads; past = o.0; within = o.1 }

pub expression::read_expression-loop-alloc-preserved : goal.expression::read_expression-loop-alloc-preserved
expression::read_expression-loop-alloc-preserved t c =
    let o = c.in_ok-found-2.ensures.onward in let p = c.loop-alloc.invariant.past
    in record {
      led = led_on c.loop-alloc.invariant.led (c.loop-alloc-test.ensures.stands c.args.bytes.now)
          c.in_ok-found-2.ensures.turn;
      past = omega arith;
      within = o.1;
    }

pub expression::read_expression-returns-in_err-found-clause-reads : goal.expression::read_expression-returns-in_err-found-clause-reads
expression::read_expression-returns-in_err-found-clause-reads t c =
    failed (stream c.args.bytes.now c.args.tokens.now) Expression c.args.at
    (counts_view c.args.counts) c.from_residual.result c.in_err-found.field-0.0 c.from_residual.ensures.1
    (λ k r. line_stop (first_stop r)) (c.in_err-found.ensures.reads)

pub expression::read_expression-returns-in_err-found-2-clause-reads : goal.expression::read_expression-returns-in_err-found-2-clause-reads
expression::read_expression-returns-in_err-found-2-clause-reads t c =
    failed (stream c.args.bytes.now c.args.tokens.now) Expression c.args.at
    (counts_view c.args.counts) c.from_residual-in_err-found-2.result c.in_err-found-2.field-0.0
    c.from_residual-in_err-found-2.ensures.1 (led_off c.loop-alloc.invariant.led (c.loop-alloc-test.ensures.stands c.args.bytes.now))
    (c.in_err-found-2.ensures.turn)

pub expression::read_expression-returns-clause-reads : goal.expression::read_expression-returns-clause-reads
expression::read_expression-returns-clause-reads t c =
    led_end c.loop-alloc.invariant.led (c.loop-alloc-test.ensures.stands c.args.bytes.now)

pub expression::read_if-returns-in_err-test-clause-reads : goal.expression::read_if-returns-in_err-test-clause-reads
expression::read_if-returns-in_err-test-clause-reads t c =
    failed (stream c.args.bytes.now c.args.tokens.now) Condition c.args.at
    (counts_view c.args.counts) c.from_residual.result c.in_err-test.field-0.0 c.from_residual.ensures.1 (here (if_0 c.requires.here))
    (c.in_err-test.ensures.reads)

pub expression::read_if-returns-in_err-expect_keyword-clause-reads : goal.expression::read_if-returns-in_err-expect_keyword-clause-reads
expression::read_if-returns-in_err-expect_keyword-clause-reads t c =
    failed (stream c.args.bytes.now c.args.tokens.now) Condition c.args.at
    (counts_view c.args.counts) c.from_residual-in_err-expect_keyword.result c.in_err-expect_keyword.field-0.0
    c.from_residual-in_err-expect_keyword.ensures.1 (here (if_1 c.requires.here c.in_ok-test.ensures.reads))
    (c.in_err-expect_keyword.ensures.expects c.args.bytes.now (counts_view c.in_ok-test.test.counts))

pub expression::read_if-returns-in_err-yes-clause-reads : goal.expression::read_if-returns-in_err-yes-clause-reads
expression::read_if-returns-in_err-yes-clause-reads t c =
    failed (stream c.args.bytes.now c.args.tokens.now) Condition c.args.at
    (counts_view c.args.counts) c.from_residual-in_err-yes.result c.in_err-yes.field-0.0 c.from_residual-in_err-yes.ensures.1
    (here (if_2 c.requires.here c.in_ok-test.ensures.reads (c.in_ok-expect_keyword.ensures.expects c.args.bytes.now)))
    (c.in_err-yes.ensures.reads)

pub expression::read_if-returns-in_err-expect_keyword-2-clause-reads : goal.expression::read_if-returns-in_err-expect_keyword-2-clause-reads
expression::read_if-returns-in_err-expect_keyword-2-clause-reads t c =
    failed (stream c.args.bytes.now c.args.tokens.now) Condition c.args.at
    (counts_view c.args.counts) c.from_residual-in_err-expect_keyword-2.result c.in_err-expect_keyword-2.field-0.0
    c.from_residual-in_err-expect_keyword-2.ensures.1 (here (if_3 c.requires.here c.in_ok-test.ensures.reads
    (c.in_ok-expect_keyword.ensures.expects c.args.bytes.now) c.in_ok-yes.ensures.reads))
    (c.in_err-expect_keyword-2.ensures.expects c.args.bytes.now (counts_view c.in_ok-yes.yes.counts))

pub expression::read_if-returns-in_err-no-clause-reads : goal.expression::read_if-returns-in_err-no-clause-reads
expression::read_if-returns-in_err-no-clause-reads t c =
    failed (stream c.args.bytes.now c.args.tokens.now) Condition c.args.at
    (counts_view c.args.counts) c.from_residual-in_err-no.result c.in_err-no.field-0.0 c.from_residual-in_err-no.ensures.1
    (if_4 c.requires.here c.in_ok-test.ensures.reads (c.in_ok-expect_keyword.ensures.expects c.args.bytes.now) c.in_ok-yes.ensures.reads
    (c.in_ok-expect_keyword-2.ensures.expects c.args.bytes.now)) (c.in_err-no.ensures.reads)

pub expression::read_if-returns-clause-reads : goal.expression::read_if-returns-clause-reads
expression::read_if-returns-clause-reads t c =
    as_found c.in_ok-choice.field-0 c.in_ok-no.no.counts (if_read c.requires.here c.in_ok-test.ensures.reads
    (c.in_ok-expect_keyword.ensures.expects c.args.bytes.now) c.in_ok-yes.ensures.reads
    (c.in_ok-expect_keyword-2.ensures.expects c.args.bytes.now) c.in_ok-no.ensures.reads (c.pos_at.ensures c.args.bytes.now) refl)
    c.in_ok-choice.ensures.rest c.in_ok-choice.ensures.tree

pub expression::read_unary-returns-in_err-of-clause-reads : goal.expression::read_unary-returns-in_err-of-clause-reads
expression::read_unary-returns-in_err-of-clause-reads t c =
    failed (stream c.args.bytes.now c.args.tokens.now) Unary c.args.at
    (counts_view c.args.counts) c.from_residual.result c.in_err-of.field-0.0 c.from_residual.ensures.1
    (not_off (c.if-is_keyword.ensures.stands c.args.bytes.now)) (c.in_err-of.ensures.reads)

pub expression::read_unary-returns-then-is_keyword-clause-reads : goal.expression::read_unary-returns-then-is_keyword-clause-reads
expression::read_unary-returns-then-is_keyword-clause-reads t c =
    as_found c.in_ok-negation.field-0 c.in_ok-of.of.counts (not_read
    (c.if-is_keyword.ensures.stands c.args.bytes.now) c.in_ok-of.ensures.reads (c.pos_at.ensures c.args.bytes.now) refl)
    c.in_ok-negation.ensures.rest c.in_ok-negation.ensures.tree

pub expression::read_unary-returns-in_err-of-2-clause-reads : goal.expression::read_unary-returns-in_err-of-2-clause-reads
expression::read_unary-returns-in_err-of-2-clause-reads t c =
    failed (stream c.args.bytes.now c.args.tokens.now) Unary c.args.at
    (counts_view c.args.counts) c.from_residual-in_err-of-2.result c.in_err-of-2.field-0.0 c.from_residual-in_err-of-2.ensures.1
    (minus_off (c.if-is_sign.ensures.stands c.args.bytes.now)) (c.in_err-of-2.ensures.reads)

pub expression::read_unary-returns-then-is_sign-clause-reads : goal.expression::read_unary-returns-then-is_sign-clause-reads
expression::read_unary-returns-then-is_sign-clause-reads t c =
    as_found c.in_ok-minus.field-0 c.in_ok-of-2.of.counts (minus_read
    (c.if-is_sign.ensures.stands c.args.bytes.now) c.in_ok-of-2.ensures.reads (c.pos_at-then-is_sign.ensures c.args.bytes.now) refl)
    c.in_ok-minus.ensures.rest c.in_ok-minus.ensures.tree

pub expression::read_unary-returns-in_err-of-3-clause-reads : goal.expression::read_unary-returns-in_err-of-3-clause-reads
expression::read_unary-returns-in_err-of-3-clause-reads t c =
    failed (stream c.args.bytes.now c.args.tokens.now) Unary c.args.at
    (counts_view c.args.counts) c.from_residual-in_err-of-3.result c.in_err-of-3.field-0.0 c.from_residual-in_err-of-3.ensures.1
    (pre_off (c.if-is_keyword-2.ensures.stands c.args.bytes.now) c.in_ok-behind.ensures.counted) (c.in_err-of-3.ensures.reads)

pub expression::read_unary-returns-then-is_keyword-2-clause-reads : goal.expression::read_unary-returns-then-is_keyword-2-clause-reads
expression::read_unary-returns-then-is_keyword-2-clause-reads t c =
    as_found c.in_ok-pre.field-0 c.in_ok-of-3.of.counts (pre_read (c.if-is_keyword-2.ensures.stands c.args.bytes.now)
    c.in_ok-behind.ensures.counted c.in_ok-of-3.ensures.reads (c.pos_at-then-is_keyword-2.ensures c.args.bytes.now) refl)
    c.in_ok-pre.ensures.rest c.in_ok-pre.ensures.tree

pub expression::read_unary-returns-clause-reads : goal.expression::read_unary-returns-clause-reads
expression::read_unary-returns-clause-reads t c =
    lifted (stream c.args.bytes.now c.args.tokens.now) Unary Primary c.args.at (counts_view c.args.counts) c.read_primary.result
    (λ f x. plain_read (c.if-is_keyword.ensures.stands c.args.bytes.now) (c.if-is_sign.ensures.stands c.args.bytes.now)
    (c.if-is_keyword-2.ensures.stands c.args.bytes.now) x) (plain_off (c.if-is_keyword.ensures.stands c.args.bytes.now)
    (c.if-is_sign.ensures.stands c.args.bytes.now) (c.if-is_keyword-2.ensures.stands c.args.bytes.now)) c.read_primary.ensures.reads

pub expression::read_upward-returns-in_err-product-in-Conjunctions-clause-goes : goal.expression::read_upward-returns-in_err-product-in-Conjunctions-clause-goes
expression::read_upward-returns-in_err-product-in-Conjunctions-clause-goes t c =
    λ i n d. subst (λ (l : Level). Answers (stream c.args.bytes.now c.args.tokens.now) (operand (level_view l)) i n c.from_residual.result)
    (sym c.in-Conjunctions.is) (failed (stream c.args.bytes.now c.args.tokens.now) Relation i n c.from_residual.result
    c.in_err-product-in-Conjunctions.field-0.0 c.from_residual.ensures.1 (λ k r. relation_left k (chain_first k r))
    (c.in_err-product-in-Conjunctions.ensures.goes i n d))

pub expression::read_upward-returns-in_err-sum-in-Conjunctions-clause-goes : goal.expression::read_upward-returns-in_err-sum-in-Conjunctions-clause-goes
expression::read_upward-returns-in_err-sum-in-Conjunctions-clause-goes t c =
    λ i n d. subst (λ (l : Level). Answers (stream c.args.bytes.now c.args.tokens.now)
    (operand (level_view l)) i n c.from_residual-in_err-sum-in-Conjunctions.result) (sym c.in-Conjunctions.is)
    (failed (stream c.args.bytes.now c.args.tokens.now) Relation i n c.from_residual-in_err-sum-in-Conjunctions.result
    c.in_err-sum-in-Conjunctions.field-0.0 c.from_residual-in_err-sum-in-Conjunctions.ensures.1 (relation_left)
    (c.in_err-sum-in-Conjunctions.ensures.goes i n (c.in_ok-product-in-Conjunctions.ensures.goes i n d)))

pub expression::read_upward-returns-in_err-relation-in-Disjunctions-clause-goes :
    goal.expression::read_upward-returns-in_err-relation-in-Disjunctions-clause-goes
expression::read_upward-returns-in_err-relation-in-Disjunctions-clause-goes t c =
    λ i n d. subst (λ (l : Level). Answers (stream c.args.bytes.now c.args.tokens.now)
    (operand (level_view l)) i n c.from_residual-in_err-relation-in-Disjunctions.result) (sym c.in-Disjunctions.is)
    (failed (stream c.args.bytes.now c.args.tokens.now) (Chain P.Conjunctions) i n
    c.from_residual-in_err-relation-in-Disjunctions.result c.in_err-relation-in-Disjunctions.field-0.0
    c.from_residual-in_err-relation-in-Disjunctions.ensures.1 (chain_first) (c.in_err-relation-in-Disjunctions.ensures.goes i n d))

pub expression::read_rest-loop-operator-init : goal.expression::read_rest-loop-operator-init
expression::read_rest-loop-operator-init t c =
    record { grouped = λ i n d. grouped_first d; past = omega arith; within = λ h. h }

pub expression::read_rest-loop-operator-preserved : goal.expression::read_rest-loop-operator-preserved
expression::read_rest-loop-operator-preserved t c =
    let o = c.in_ok-right.ensures.onward in let r = c.in_ok-left.ensures.rest in let p = c.loop-operator.invariant.past
    in record {
      grouped = λ i n d. grouped_found c.loop-operator.left c.in_ok-right.right c.in_ok-left.left
          (c.loop-operator.invariant.grouped i n d) (c.in-Some.ensures.joins c.args.bytes.now) c.in_ok-right.ensures.reads
          (c.pos_at.ensures c.args.bytes.now) c.in_ok-left.ensures.rest c.in_ok-left.ensures.tree;
      past = omega arith;
      within = λ h. omega
          arith;
    }

pub expression::read_rest-returns-clause-goes : goal.expression::read_rest-returns-clause-goes
expression::read_rest-returns-clause-goes t c =
    λ i n d. grouped_end (c.loop-operator.invariant.grouped i n d) (c.in_default.ensures.joins c.args.bytes.now)

pub expression::read_rest-returns-in_err-right-clause-goes : goal.expression::read_rest-returns-in_err-right-clause-goes
expression::read_rest-returns-in_err-right-clause-goes t c =
    λ i n d. failed (stream c.args.bytes.now c.args.tokens.now) (Chain (level_view c.args.level)) i n c.from_residual.result
    c.in_err-right.field-0.0 c.from_residual.ensures.1 (grouped_off (c.loop-operator.invariant.grouped i n d)
    (c.in-Some.ensures.joins c.args.bytes.now)) c.in_err-right.ensures.reads

pub expression::read_comparison-returns-in-None-clause-goes : goal.expression::read_comparison-returns-in-None-clause-goes
expression::read_comparison-returns-in-None-clause-goes t c =
    λ i n d. relation_none d (c.in-None.ensures.relates c.args.bytes.now)

pub expression::read_comparison-returns-in_err-right-in-Some-clause-goes : goal.expression::read_comparison-returns-in_err-right-in-Some-clause-goes
expression::read_comparison-returns-in_err-right-in-Some-clause-goes t c =
    λ i n d. failed (stream c.args.bytes.now c.args.tokens.now) Relation i n c.from_residual.result c.in_err-right-in-Some.field-0.0
    c.from_residual.ensures.1 (relation_right d (c.in-Some.ensures.relates c.args.bytes.now)) c.in_err-right-in-Some.ensures.reads

pub expression::read_comparison-returns-in_ok-binary-in-Some-clause-goes : goal.expression::read_comparison-returns-in_ok-binary-in-Some-clause-goes
expression::read_comparison-returns-in_ok-binary-in-Some-clause-goes t c =
    λ i n d. as_found c.in_ok-binary-in-Some.field-0 c.in_ok-right-in-Some.right.counts
    (relation_read d (c.in-Some.ensures.relates c.args.bytes.now) c.in_ok-right-in-Some.ensures.reads
    (c.pos_at.ensures c.args.bytes.now) refl) c.in_ok-binary-in-Some.ensures.rest c.in_ok-binary-in-Some.ensures.tree

pub primary::read_name-returns-clause-reads : goal.primary::read_name-returns-clause-reads
primary::read_name-returns-clause-reads t c =
    as_found c.in_ok-found.field-0 c.args.counts (name_read c.requires.here (c.if-is_sign.ensures.stands c.args.bytes.now)
    (c.pos_at-pos.ensures c.args.bytes.now) c.in_ok-string_at.ensures refl) c.in_ok-found.ensures.rest
    (c.in_ok-found.ensures.tree ∙ view-Name _ _)

pub primary::read_call-returns-in_err-arguments-clause-reads : goal.primary::read_call-returns-in_err-arguments-clause-reads
primary::read_call-returns-in_err-arguments-clause-reads t c =
    failed (stream c.args.bytes.now c.args.tokens.now) Primary c.args.at
    (counts_view c.args.counts) c.from_residual-in_err-arguments.result c.in_err-arguments.field-0.0
    c.from_residual-in_err-arguments.ensures.1 (here (call_0 c.requires.here c.requires.open c.in_ok-behind.ensures.counted))
    (c.in_err-arguments.ensures.reads)

pub primary::read_call-returns-in_err-expect_sign-clause-reads : goal.primary::read_call-returns-in_err-expect_sign-clause-reads
primary::read_call-returns-in_err-expect_sign-clause-reads t c =
    failed (stream c.args.bytes.now c.args.tokens.now) Primary c.args.at
    (counts_view c.args.counts) c.from_residual-in_err-expect_sign.result c.in_err-expect_sign.field-0.0
    c.from_residual-in_err-expect_sign.ensures.1 (take (call_0 c.requires.here c.requires.open c.in_ok-behind.ensures.counted)
    c.in_ok-arguments.ensures.reads.run) (c.in_err-expect_sign.ensures.expects c.args.bytes.now
    (counts_view c.in_ok-arguments.arguments.counts))

pub primary::read_call-returns-clause-reads : goal.primary::read_call-returns-clause-reads
primary::read_call-returns-clause-reads t c =
    as_found c.in_ok-called.field-0 c.in_ok-arguments.arguments.counts
    (call_read c.requires.here c.requires.open c.in_ok-behind.ensures.counted c.in_ok-arguments.ensures.reads
    (c.in_ok-expect_sign.ensures.expects c.args.bytes.now) c.in_ok-callee.ensures refl) c.in_ok-called.ensures.rest
    c.in_ok-called.ensures.tree

pub primary::read_primary-returns-in-Other-clause-reads : goal.primary::read_primary-returns-in-Other-clause-reads
primary::read_primary-returns-in-Other-clause-reads t c =
    none_off (c.in-Other.ensures.begins c.args.bytes.now)

pub primary::read_round-returns-in_err-inner-clause-reads : goal.primary::read_round-returns-in_err-inner-clause-reads
primary::read_round-returns-in_err-inner-clause-reads t c =
    failed (stream c.args.bytes.now c.args.tokens.now) Primary c.args.at
    (counts_view c.args.counts) c.from_residual.result c.in_err-inner.field-0.0 c.from_residual.ensures.1
    (here (round_1 c.requires.here (c.if-is_keyword.ensures.stands c.args.bytes.now))) (c.in_err-inner.ensures.reads)

pub primary::read_round-returns-in_err-expect_sign-clause-reads : goal.primary::read_round-returns-in_err-expect_sign-clause-reads
primary::read_round-returns-in_err-expect_sign-clause-reads t c =
    failed (stream c.args.bytes.now c.args.tokens.now) Primary c.args.at
    (counts_view c.args.counts) c.from_residual-in_err-expect_sign.result c.in_err-expect_sign.field-0.0
    c.from_residual-in_err-expect_sign.ensures.1 (take (round_1 c.requires.here (c.if-is_keyword.ensures.stands c.args.bytes.now))
    c.in_ok-inner.ensures.reads.run) (c.in_err-expect_sign.ensures.expects c.args.bytes.now (counts_view c.in_ok-inner.inner.counts))

pub primary::read_round-returns-clause-reads : goal.primary::read_round-returns-clause-reads
primary::read_round-returns-clause-reads t c =
    as_found c.enclosed.result c.in_ok-inner.inner.counts (round_read c.requires.here
    (c.if-is_keyword.ensures.stands c.args.bytes.now) c.in_ok-inner.ensures.reads (c.in_ok-expect_sign.ensures.expects c.args.bytes.now)
    (c.pos_at.ensures c.args.bytes.now) refl) c.enclosed.ensures.rest c.enclosed.ensures.tree

pub primary::read_merge-returns-in_err-expect_name-clause-reads : goal.primary::read_merge-returns-in_err-expect_name-clause-reads
primary::read_merge-returns-in_err-expect_name-clause-reads t c =
    failed (stream c.args.bytes.now c.args.tokens.now) Primary c.args.at
    (counts_view c.args.counts) c.from_residual.result c.in_err-expect_name.field-0.0 c.from_residual.ensures.1
    (here (merge_0 c.requires.here)) (c.in_err-expect_name.ensures.expects c.args.bytes.now (counts_view c.args.counts))

pub primary::read_merge-returns-in_err-yes-clause-reads : goal.primary::read_merge-returns-in_err-yes-clause-reads
primary::read_merge-returns-in_err-yes-clause-reads t c =
    failed (stream c.args.bytes.now c.args.tokens.now) Primary c.args.at
    (counts_view c.args.counts) c.from_residual-in_err-yes.result c.in_err-yes.field-0.0 c.from_residual-in_err-yes.ensures.1
    ((take (merge_0 c.requires.here) (token (inl (c.in_ok-expect_name.ensures.expects c.args.bytes.now)))))
    (c.in_err-yes.ensures.reads _)

pub primary::read_merge-returns-in_err-expect_sign-clause-reads : goal.primary::read_merge-returns-in_err-expect_sign-clause-reads
primary::read_merge-returns-in_err-expect_sign-clause-reads t c =
    failed (stream c.args.bytes.now c.args.tokens.now) Primary c.args.at
    (counts_view c.args.counts) c.from_residual-in_err-expect_sign.result c.in_err-expect_sign.field-0.0
    c.from_residual-in_err-expect_sign.ensures.1 (here (branch_taken
    (take (merge_0 c.requires.here) (token (inl (c.in_ok-expect_name.ensures.expects c.args.bytes.now)))) c.in_ok-yes.ensures.reads))
    (c.in_err-expect_sign.ensures.expects c.args.bytes.now (counts_view c.in_ok-yes.yes.counts))

pub primary::read_merge-returns-in_err-no-clause-reads : goal.primary::read_merge-returns-in_err-no-clause-reads
primary::read_merge-returns-in_err-no-clause-reads t c =
    failed (stream c.args.bytes.now c.args.tokens.now) Primary c.args.at
    (counts_view c.args.counts) c.from_residual-in_err-no.result c.in_err-no.field-0.0 c.from_residual-in_err-no.ensures.1
    ((take (branch_taken (take (merge_0 c.requires.here) (token (inl (c.in_ok-expect_name.ensures.expects c.args.bytes.now))))
    c.in_ok-yes.ensures.reads) (token (inl (c.in_ok-expect_sign.ensures.expects c.args.bytes.now))))) (c.in_err-no.ensures.reads _)

pub primary::read_merge-returns-in_err-expect_sign-2-clause-reads : goal.primary::read_merge-returns-in_err-expect_sign-2-clause-reads
primary::read_merge-returns-in_err-expect_sign-2-clause-reads t c =
    failed (stream c.args.bytes.now c.args.tokens.now) Primary c.args.at
    (counts_view c.args.counts) c.from_residual-in_err-expect_sign-2.result c.in_err-expect_sign-2.field-0.0
    c.from_residual-in_err-expect_sign-2.ensures.1 ((branch_taken
    (take (branch_taken (take (merge_0 c.requires.here) (token (inl (c.in_ok-expect_name.ensures.expects c.args.bytes.now))))
    c.in_ok-yes.ensures.reads) (token (inl (c.in_ok-expect_sign.ensures.expects c.args.bytes.now)))) c.in_ok-no.ensures.reads))
    (c.in_err-expect_sign-2.ensures.expects c.args.bytes.now (counts_view c.in_ok-no.no.counts))

pub primary::read_merge-returns-clause-reads : goal.primary::read_merge-returns-clause-reads
primary::read_merge-returns-clause-reads t c =
    as_found c.in_ok-merged.field-0 c.in_ok-no.no.counts (merge_read c.requires.here
    (c.in_ok-expect_name.ensures.expects c.args.bytes.now) c.in_ok-yes.ensures.reads
    (c.in_ok-expect_sign.ensures.expects c.args.bytes.now) c.in_ok-no.ensures.reads
    (c.in_ok-expect_sign-2.ensures.expects c.args.bytes.now) (c.pos_at.ensures c.args.bytes.now) c.in_ok-clock.ensures refl)
    c.in_ok-merged.ensures.rest c.in_ok-merged.ensures.tree

pub primary::read_branch-returns-in_err-expect_sign-clause-reads : goal.primary::read_branch-returns-in_err-expect_sign-clause-reads
primary::read_branch-returns-in_err-expect_sign-clause-reads t c =
    at_err (λ (f : Found). IsBranch (stream c.args.bytes.now c.args.tokens.now) c.args.value c.args.at (counts_view c.args.counts) f)
    (λ (e : Stop). (g : Phrase) → Stopped (stream c.args.bytes.now c.args.tokens.now)
    (sign S.Open ⨾ word c.args.value ⨾ sign S.Arrow ⨾ part Expression ⨾ g) c.args.at (counts_view c.args.counts) e)
    c.from_residual.result c.in_err-expect_sign.field-0.0 c.from_residual.ensures.1
    (λ g. stopped (stream c.args.bytes.now c.args.tokens.now) (sign S.Open ⨾ word c.args.value ⨾ sign S.Arrow ⨾ part Expression ⨾ g)
    c.args.at (counts_view c.args.counts) _ _ _ c.in_err-expect_sign.field-0.0 (λ k r. first_stop r)
    (c.in_err-expect_sign.ensures.expects c.args.bytes.now (counts_view c.args.counts)))

pub primary::read_branch-returns-in_err-expect_keyword-clause-reads : goal.primary::read_branch-returns-in_err-expect_keyword-clause-reads
primary::read_branch-returns-in_err-expect_keyword-clause-reads t c =
    at_err (λ (f : Found). IsBranch (stream c.args.bytes.now c.args.tokens.now) c.args.value c.args.at (counts_view c.args.counts) f)
    (λ (e : Stop). (g : Phrase) → Stopped (stream c.args.bytes.now c.args.tokens.now)
    (sign S.Open ⨾ word c.args.value ⨾ sign S.Arrow ⨾ part Expression ⨾ g) c.args.at (counts_view c.args.counts) e)
    c.from_residual-in_err-expect_keyword.result c.in_err-expect_keyword.field-0.0 c.from_residual-in_err-expect_keyword.ensures.1
    (λ g. stopped (stream c.args.bytes.now c.args.tokens.now) (sign S.Open ⨾ word c.args.value ⨾ sign S.Arrow ⨾ part Expression ⨾ g)
    c.args.at (counts_view c.args.counts) _ _ _ c.in_err-expect_keyword.field-0.0
    (here (branch_0 g (c.in_ok-expect_sign.ensures.expects c.args.bytes.now)))
    (c.in_err-expect_keyword.ensures.expects c.args.bytes.now (counts_view c.args.counts)))

pub primary::read_branch-returns-in_err-expect_sign-2-clause-reads : goal.primary::read_branch-returns-in_err-expect_sign-2-clause-reads
primary::read_branch-returns-in_err-expect_sign-2-clause-reads t c =
    at_err (λ (f : Found). IsBranch (stream c.args.bytes.now c.args.tokens.now) c.args.value c.args.at (counts_view c.args.counts) f)
    (λ (e : Stop). (g : Phrase) → Stopped (stream c.args.bytes.now c.args.tokens.now)
    (sign S.Open ⨾ word c.args.value ⨾ sign S.Arrow ⨾ part Expression ⨾ g) c.args.at (counts_view c.args.counts) e)
    c.from_residual-in_err-expect_sign-2.result c.in_err-expect_sign-2.field-0.0 c.from_residual-in_err-expect_sign-2.ensures.1
    (λ g. stopped (stream c.args.bytes.now c.args.tokens.now) (sign S.Open ⨾ word c.args.value ⨾ sign S.Arrow ⨾ part Expression ⨾ g)
    c.args.at (counts_view c.args.counts) _ _ _ c.in_err-expect_sign-2.field-0.0
    (here (branch_1 g (c.in_ok-expect_sign.ensures.expects c.args.bytes.now) (c.in_ok-expect_keyword.ensures.expects c.args.bytes.now)))
    (c.in_err-expect_sign-2.ensures.expects c.args.bytes.now (counts_view c.args.counts)))

pub primary::read_branch-returns-clause-reads : goal.primary::read_branch-returns-clause-reads
primary::read_branch-returns-clause-reads t c =
    branch_read (stream c.args.bytes.now c.args.tokens.now) c.args.value c.args.at (counts_view c.args.counts) c.read_expression.result
    (c.in_ok-expect_sign.ensures.expects c.args.bytes.now) (c.in_ok-expect_keyword.ensures.expects c.args.bytes.now)
    (c.in_ok-expect_sign-2.ensures.expects c.args.bytes.now) c.read_expression.ensures.reads

pub primary::read_condact-returns-in_err-expect_sign-clause-reads : goal.primary::read_condact-returns-in_err-expect_sign-clause-reads
primary::read_condact-returns-in_err-expect_sign-clause-reads t c =
    failed (stream c.args.bytes.now c.args.tokens.now) Primary c.args.at
    (counts_view c.args.counts) c.from_residual-in_err-expect_sign.result c.in_err-expect_sign.field-0.0
    c.from_residual-in_err-expect_sign.ensures.1 (here (condact_0 c.requires.here c.in_ok-behind.ensures.counted))
    (c.in_err-expect_sign.ensures.expects c.args.bytes.now (counts_view c.in_ok-behind.behind))

pub primary::read_condact-returns-in_err-condition-clause-reads : goal.primary::read_condact-returns-in_err-condition-clause-reads
primary::read_condact-returns-in_err-condition-clause-reads t c =
    failed (stream c.args.bytes.now c.args.tokens.now) Primary c.args.at
    (counts_view c.args.counts) c.from_residual-in_err-condition.result c.in_err-condition.field-0.0
    c.from_residual-in_err-condition.ensures.1 (here (take (condact_0 c.requires.here c.in_ok-behind.ensures.counted)
    (token (inl (c.in_ok-expect_sign.ensures.expects c.args.bytes.now))))) (c.in_err-condition.ensures.reads)

pub primary::read_condact-returns-in_err-expect_sign-2-clause-reads : goal.primary::read_condact-returns-in_err-expect_sign-2-clause-reads
primary::read_condact-returns-in_err-expect_sign-2-clause-reads t c =
    failed (stream c.args.bytes.now c.args.tokens.now) Primary c.args.at
    (counts_view c.args.counts) c.from_residual-in_err-expect_sign-2.result c.in_err-expect_sign-2.field-0.0
    c.from_residual-in_err-expect_sign-2.ensures.1 (here (take (take (condact_0 c.requires.here c.in_ok-behind.ensures.counted)
    (token (inl (c.in_ok-expect_sign.ensures.expects c.args.bytes.now)))) c.in_ok-condition.ensures.reads.run))
    (c.in_err-expect_sign-2.ensures.expects c.args.bytes.now (counts_view c.in_ok-condition.condition.counts))

pub primary::read_condact-returns-in_err-expect_name-clause-reads : goal.primary::read_condact-returns-in_err-expect_name-clause-reads
primary::read_condact-returns-in_err-expect_name-clause-reads t c =
    failed (stream c.args.bytes.now c.args.tokens.now) Primary c.args.at
    (counts_view c.args.counts) c.from_residual-in_err-expect_name.result c.in_err-expect_name.field-0.0
    c.from_residual-in_err-expect_name.ensures.1 (here (take (take
    (take (condact_0 c.requires.here c.in_ok-behind.ensures.counted)
    (token (inl (c.in_ok-expect_sign.ensures.expects c.args.bytes.now)))) c.in_ok-condition.ensures.reads.run)
    (token (inl (c.in_ok-expect_sign-2.ensures.expects c.args.bytes.now)))))
    (c.in_err-expect_name.ensures.expects c.args.bytes.now (counts_view c.in_ok-condition.condition.counts))

pub primary::read_condact-returns-in_err-arguments-clause-reads : goal.primary::read_condact-returns-in_err-arguments-clause-reads
primary::read_condact-returns-in_err-arguments-clause-reads t c =
    failed (stream c.args.bytes.now c.args.tokens.now) Primary c.args.at
    (counts_view c.args.counts) c.from_residual-in_err-arguments.result c.in_err-arguments.field-0.0
    c.from_residual-in_err-arguments.ensures.1 (here (take (take
    (take (take (condact_0 c.requires.here c.in_ok-behind.ensures.counted)
    (token (inl (c.in_ok-expect_sign.ensures.expects c.args.bytes.now)))) c.in_ok-condition.ensures.reads.run)
    (token (inl (c.in_ok-expect_sign-2.ensures.expects c.args.bytes.now))))
    (token (inl (c.in_ok-expect_name.ensures.expects c.args.bytes.now))))) (c.in_err-arguments.ensures.reads)

pub primary::read_condact-returns-in_err-defaults-clause-reads : goal.primary::read_condact-returns-in_err-defaults-clause-reads
primary::read_condact-returns-in_err-defaults-clause-reads t c =
    failed (stream c.args.bytes.now c.args.tokens.now) Primary c.args.at
    (counts_view c.args.counts) c.from_residual-in_err-defaults.result c.in_err-defaults.field-0.0
    c.from_residual-in_err-defaults.ensures.1 (lead_at c.none-none.ensures.rest.0 (ap counts_view c.none-none.ensures.rest.1)
    (here (take (take (take (take (take (condact_0 c.requires.here c.in_ok-behind.ensures.counted)
    (token (inl (c.in_ok-expect_sign.ensures.expects c.args.bytes.now)))) c.in_ok-condition.ensures.reads.run)
    (token (inl (c.in_ok-expect_sign-2.ensures.expects c.args.bytes.now))))
    (token (inl (c.in_ok-expect_name.ensures.expects c.args.bytes.now)))) c.in_ok-arguments.ensures.reads.run)))
    (c.in_err-defaults.ensures.reads)

pub primary::read_condact-returns-in_err-expect_sign-3-clause-reads : goal.primary::read_condact-returns-in_err-expect_sign-3-clause-reads
primary::read_condact-returns-in_err-expect_sign-3-clause-reads t c =
    failed (stream c.args.bytes.now c.args.tokens.now) Primary c.args.at
    (counts_view c.args.counts) c.from_residual-in_err-expect_sign-3.result c.in_err-expect_sign-3.field-0.0
    c.from_residual-in_err-expect_sign-3.ensures.1 ((take (take (take
    (take (take (take (condact_0 c.requires.here c.in_ok-behind.ensures.counted)
    (token (inl (c.in_ok-expect_sign.ensures.expects c.args.bytes.now)))) c.in_ok-condition.ensures.reads.run)
    (token (inl (c.in_ok-expect_sign-2.ensures.expects c.args.bytes.now))))
    (token (inl (c.in_ok-expect_name.ensures.expects c.args.bytes.now)))) c.in_ok-arguments.ensures.reads.run)
    (listed_none c.none-none.result c.in_ok-arguments.arguments.counts c.none-none.ensures.items c.none-none.ensures.rest
    c.in_ok-defaults.ensures.reads).run)) (c.in_err-expect_sign-3.ensures.expects c.args.bytes.now
    (counts_view c.in_ok-defaults.defaults.counts))

pub primary::read_condact-returns-clause-reads : goal.primary::read_condact-returns-clause-reads
primary::read_condact-returns-clause-reads t c =
    as_found c.in_ok-condact.field-0 c.in_ok-defaults.defaults.counts
    (condact_read c.requires.here c.in_ok-behind.ensures.counted
    (c.in_ok-expect_sign.ensures.expects c.args.bytes.now) c.in_ok-condition.ensures.reads
    (c.in_ok-expect_sign-2.ensures.expects c.args.bytes.now) (c.in_ok-expect_name.ensures.expects c.args.bytes.now)
    c.in_ok-arguments.ensures.reads (listed_none c.none-none.result c.in_ok-arguments.arguments.counts c.none-none.ensures.items
    c.none-none.ensures.rest c.in_ok-defaults.ensures.reads) (c.in_ok-expect_sign-3.ensures.expects c.args.bytes.now)
    (c.pos_at-pos.ensures c.args.bytes.now) c.in_ok-callee.ensures refl) c.in_ok-condact.ensures.rest c.in_ok-condact.ensures.tree

pub primary::read_activate-returns-in_err-expect_name-clause-reads : goal.primary::read_activate-returns-in_err-expect_name-clause-reads
primary::read_activate-returns-in_err-expect_name-clause-reads t c =
    failed (stream c.args.bytes.now c.args.tokens.now) Primary c.args.at
    (counts_view c.args.counts) c.from_residual-in_err-expect_name.result c.in_err-expect_name.field-0.0
    c.from_residual-in_err-expect_name.ensures.1 (here (activate_0 c.requires.here c.requires.word c.in_ok-behind.ensures.counted))
    (c.in_err-expect_name.ensures.expects c.args.bytes.now (counts_view c.in_ok-behind.behind))

pub primary::read_activate-returns-in_err-expect_keyword-clause-reads : goal.primary::read_activate-returns-in_err-expect_keyword-clause-reads
primary::read_activate-returns-in_err-expect_keyword-clause-reads t c =
    failed (stream c.args.bytes.now c.args.tokens.now) Primary c.args.at
    (counts_view c.args.counts) c.from_residual-in_err-expect_keyword.result c.in_err-expect_keyword.field-0.0
    c.from_residual-in_err-expect_keyword.ensures.1 (here (take (activate_0 c.requires.here c.requires.word
    c.in_ok-behind.ensures.counted) (token (inl (c.in_ok-expect_name.ensures.expects c.args.bytes.now)))))
    (c.in_err-expect_keyword.ensures.expects c.args.bytes.now (counts_view c.in_ok-behind.behind))

pub primary::read_activate-returns-in_err-condition-clause-reads : goal.primary::read_activate-returns-in_err-condition-clause-reads
primary::read_activate-returns-in_err-condition-clause-reads t c =
    failed (stream c.args.bytes.now c.args.tokens.now) Primary c.args.at
    (counts_view c.args.counts) c.from_residual-in_err-condition.result c.in_err-condition.field-0.0
    c.from_residual-in_err-condition.ensures.1 (here (take (take
    (activate_0 c.requires.here c.requires.word c.in_ok-behind.ensures.counted)
    (token (inl (c.in_ok-expect_name.ensures.expects c.args.bytes.now))))
    (token (inl (c.in_ok-expect_keyword.ensures.expects c.args.bytes.now))))) (c.in_err-condition.ensures.reads)

pub primary::read_activate-returns-in_err-expect_keyword-2-clause-reads : goal.primary::read_activate-returns-in_err-expect_keyword-2-clause-reads
primary::read_activate-returns-in_err-expect_keyword-2-clause-reads t c =
    failed (stream c.args.bytes.now c.args.tokens.now) Primary c.args.at
    (counts_view c.args.counts) c.from_residual-in_err-expect_keyword-2.result c.in_err-expect_keyword-2.field-0.0
    c.from_residual-in_err-expect_keyword-2.ensures.1 (here (take
    (take (take (activate_0 c.requires.here c.requires.word c.in_ok-behind.ensures.counted)
    (token (inl (c.in_ok-expect_name.ensures.expects c.args.bytes.now))))
    (token (inl (c.in_ok-expect_keyword.ensures.expects c.args.bytes.now)))) c.in_ok-condition.ensures.reads.run))
    (c.in_err-expect_keyword-2.ensures.expects c.args.bytes.now (counts_view c.in_ok-condition.condition.counts))

pub primary::read_activate-returns-in_err-expect_keyword-3-clause-reads : goal.primary::read_activate-returns-in_err-expect_keyword-3-clause-reads
primary::read_activate-returns-in_err-expect_keyword-3-clause-reads t c =
    failed (stream c.args.bytes.now c.args.tokens.now) Primary c.args.at
    (counts_view c.args.counts) c.from_residual-in_err-expect_keyword-3.result c.in_err-expect_keyword-3.field-0.0
    c.from_residual-in_err-expect_keyword-3.ensures.1 (here (take
    (take (take (take (activate_0 c.requires.here c.requires.word c.in_ok-behind.ensures.counted)
    (token (inl (c.in_ok-expect_name.ensures.expects c.args.bytes.now))))
    (token (inl (c.in_ok-expect_keyword.ensures.expects c.args.bytes.now)))) c.in_ok-condition.ensures.reads.run)
    (token (inl (c.in_ok-expect_keyword-2.ensures.expects c.args.bytes.now)))))
    (c.in_err-expect_keyword-3.ensures.expects c.args.bytes.now (counts_view c.in_ok-condition.condition.counts))

pub primary::read_activate-returns-in_err-defaults-clause-reads : goal.primary::read_activate-returns-in_err-defaults-clause-reads
primary::read_activate-returns-in_err-defaults-clause-reads t c =
    failed (stream c.args.bytes.now c.args.tokens.now) Primary c.args.at
    (counts_view c.args.counts) c.from_residual-in_err-defaults.result c.in_err-defaults.field-0.0
    c.from_residual-in_err-defaults.ensures.1 (here (take (take (take
    (take (take (activate_0 c.requires.here c.requires.word c.in_ok-behind.ensures.counted)
    (token (inl (c.in_ok-expect_name.ensures.expects c.args.bytes.now))))
    (token (inl (c.in_ok-expect_keyword.ensures.expects c.args.bytes.now)))) c.in_ok-condition.ensures.reads.run)
    (token (inl (c.in_ok-expect_keyword-2.ensures.expects c.args.bytes.now))))
    (token (inl (c.in_ok-expect_keyword-3.ensures.expects c.args.bytes.now))))) (c.in_err-defaults.ensures.reads)

pub primary::read_activate-returns-in_err-expect_sign-clause-reads : goal.primary::read_activate-returns-in_err-expect_sign-clause-reads
primary::read_activate-returns-in_err-expect_sign-clause-reads t c =
    failed (stream c.args.bytes.now c.args.tokens.now) Primary c.args.at
    (counts_view c.args.counts) c.from_residual-in_err-expect_sign.result c.in_err-expect_sign.field-0.0
    c.from_residual-in_err-expect_sign.ensures.1 (here (take (take
    (take (take (take (take (activate_0 c.requires.here c.requires.word c.in_ok-behind.ensures.counted)
    (token (inl (c.in_ok-expect_name.ensures.expects c.args.bytes.now))))
    (token (inl (c.in_ok-expect_keyword.ensures.expects c.args.bytes.now)))) c.in_ok-condition.ensures.reads.run)
    (token (inl (c.in_ok-expect_keyword-2.ensures.expects c.args.bytes.now))))
    (token (inl (c.in_ok-expect_keyword-3.ensures.expects c.args.bytes.now)))) c.in_ok-defaults.ensures.reads.run))
    (c.in_err-expect_sign.ensures.expects c.args.bytes.now (counts_view c.in_ok-defaults.defaults.counts))

pub primary::read_activate-returns-in_err-arguments-clause-reads : goal.primary::read_activate-returns-in_err-arguments-clause-reads
primary::read_activate-returns-in_err-arguments-clause-reads t c =
    failed (stream c.args.bytes.now c.args.tokens.now) Primary c.args.at
    (counts_view c.args.counts) c.from_residual-in_err-arguments.result c.in_err-arguments.field-0.0
    c.from_residual-in_err-arguments.ensures.1 ((take (take (take
    (take (take (take (take (activate_0 c.requires.here c.requires.word c.in_ok-behind.ensures.counted)
    (token (inl (c.in_ok-expect_name.ensures.expects c.args.bytes.now))))
    (token (inl (c.in_ok-expect_keyword.ensures.expects c.args.bytes.now)))) c.in_ok-condition.ensures.reads.run)
    (token (inl (c.in_ok-expect_keyword-2.ensures.expects c.args.bytes.now))))
    (token (inl (c.in_ok-expect_keyword-3.ensures.expects c.args.bytes.now)))) c.in_ok-defaults.ensures.reads.run)
    (token (inl (c.in_ok-expect_sign.ensures.expects c.args.bytes.now))))) (c.in_err-arguments.ensures.reads)

pub primary::read_activate-returns-clause-reads : goal.primary::read_activate-returns-clause-reads
primary::read_activate-returns-clause-reads t c =
    as_found c.in_ok-condact.field-0 c.in_ok-arguments.arguments.counts
    (activate_read c.requires.here c.requires.word c.in_ok-behind.ensures.counted (c.in_ok-expect_name.ensures.expects c.args.bytes.now)
    (c.in_ok-expect_keyword.ensures.expects c.args.bytes.now) c.in_ok-condition.ensures.reads
    (c.in_ok-expect_keyword-2.ensures.expects c.args.bytes.now) (c.in_ok-expect_keyword-3.ensures.expects c.args.bytes.now)
    c.in_ok-defaults.ensures.reads (c.in_ok-expect_sign.ensures.expects c.args.bytes.now) c.in_ok-arguments.ensures.reads
    (c.pos_at.ensures c.args.bytes.now) (c.pos_at-2.ensures c.args.bytes.now) c.in_ok-callee.ensures refl) c.in_ok-condact.ensures.rest
    c.in_ok-condact.ensures.tree

pub arguments::read_bracketed-returns-in_err-expect_sign-clause-reads : goal.arguments::read_bracketed-returns-in_err-expect_sign-clause-reads
arguments::read_bracketed-returns-in_err-expect_sign-clause-reads t c =
    at_err (λ (l : Exprs). IsBracketed (stream c.args.bytes.now c.args.tokens.now) c.args.at (counts_view c.args.counts) l)
    (λ (e : Stop). Stopped (stream c.args.bytes.now c.args.tokens.now) (bracketed) c.args.at (counts_view c.args.counts) e)
    c.from_residual.result c.in_err-expect_sign.field-0.0 c.from_residual.ensures.1
    (stopped (stream c.args.bytes.now c.args.tokens.now) (bracketed) c.args.at
    (counts_view c.args.counts) _ _ _ c.in_err-expect_sign.field-0.0 (λ k r. first_stop r)
    (c.in_err-expect_sign.ensures.expects c.args.bytes.now (counts_view c.args.counts)))

pub arguments::read_bracketed-returns-in_err-list-clause-reads : goal.arguments::read_bracketed-returns-in_err-list-clause-reads
arguments::read_bracketed-returns-in_err-list-clause-reads t c =
    at_err (λ (l : Exprs). IsBracketed (stream c.args.bytes.now c.args.tokens.now) c.args.at (counts_view c.args.counts) l)
    (λ (e : Stop). Stopped (stream c.args.bytes.now c.args.tokens.now) (bracketed) c.args.at (counts_view c.args.counts) e)
    c.from_residual-in_err-list.result c.in_err-list.field-0.0 c.from_residual-in_err-list.ensures.1
    (stopped (stream c.args.bytes.now c.args.tokens.now) (bracketed) c.args.at (counts_view c.args.counts) _ _ _ c.in_err-list.field-0.0
    (λ k r. second_stop (token (inl (c.in_ok-expect_sign.ensures.expects c.args.bytes.now))) (first_stop r))
    (c.in_err-list.ensures.reads))

pub arguments::read_bracketed-returns-in_err-expect_sign-2-clause-reads : goal.arguments::read_bracketed-returns-in_err-expect_sign-2-clause-reads
arguments::read_bracketed-returns-in_err-expect_sign-2-clause-reads t c =
    at_err (λ (l : Exprs). IsBracketed (stream c.args.bytes.now c.args.tokens.now) c.args.at (counts_view c.args.counts) l)
    (λ (e : Stop). Stopped (stream c.args.bytes.now c.args.tokens.now) (bracketed) c.args.at (counts_view c.args.counts) e)
    c.from_residual-in_err-expect_sign-2.result c.in_err-expect_sign-2.field-0.0 c.from_residual-in_err-expect_sign-2.ensures.1
    (stopped (stream c.args.bytes.now c.args.tokens.now) (bracketed) c.args.at
    (counts_view c.args.counts) _ _ _ c.in_err-expect_sign-2.field-0.0
    (λ k r. second_stop (token (inl (c.in_ok-expect_sign.ensures.expects c.args.bytes.now)))
    (second_stop c.in_ok-list.ensures.reads.run r)) (c.in_err-expect_sign-2.ensures.expects c.args.bytes.now
    (counts_view c.in_ok-list.list.counts)))

pub arguments::read_bracketed-returns-clause-reads : goal.arguments::read_bracketed-returns-clause-reads
arguments::read_bracketed-returns-clause-reads t c =
    record {
      first = leaf ((stream c.args.bytes.now c.args.tokens.now) c.args.at);
      inner = c.in_ok-list.ensures.reads.syntax;
      last = leaf
          ((stream c.args.bytes.now c.args.tokens.now) c.in_ok-list.list.next);
      run = both
          (token (inl (c.in_ok-expect_sign.ensures.expects c.args.bytes.now)))
          (both c.in_ok-list.ensures.reads.run (token (inl (c.in_ok-expect_sign-2.ensures.expects c.args.bytes.now))));
      is =
          c.in_ok-list.ensures.reads.is;
    }

pub arguments::read_arguments-returns-in_err-first-clause-reads : goal.arguments::read_arguments-returns-in_err-first-clause-reads
arguments::read_arguments-returns-in_err-first-clause-reads t c =
    at_err (λ (l : Exprs). Reads arguments_of (stream c.args.bytes.now c.args.tokens.now) (optional (part Expressions)) c.args.at
    (counts_view c.args.counts) l.next (counts_view l.counts) (joined (trees_of l)))
    (λ (e : Stop). Stopped (stream c.args.bytes.now c.args.tokens.now) (optional (part Expressions)) c.args.at
    (counts_view c.args.counts) e) c.from_residual.result c.in_err-first.field-0.0 c.from_residual.ensures.1
    (stopped (stream c.args.bytes.now c.args.tokens.now) (optional (part Expressions)) c.args.at
    (counts_view c.args.counts) _ _ _ c.in_err-first.field-0.0 (argued_first (c.if-not-may_begin.ensures c.args.bytes.now))
    (c.in_err-first.ensures.reads))

pub arguments::read_arguments-returns-then-not-may_begin-clause-reads : goal.arguments::read_arguments-returns-then-not-may_begin-clause-reads
arguments::read_arguments-returns-then-not-may_begin-clause-reads t c =
    argued_empty c.none-none.result c.args.counts c.none-none.ensures.items c.none-none.ensures.rest (c.if-not-may_begin.ensures c.args.bytes.now)

pub arguments::read_arguments-returns-clause-reads : goal.arguments::read_arguments-returns-clause-reads
arguments::read_arguments-returns-clause-reads t c =
    argued_all c.args.bytes.now c.args.tokens.now c.args.at c.args.counts c.in_ok-first.first c.in_ok-one.one c.read_more.result
    (c.if-not-may_begin.ensures c.args.bytes.now) c.in_ok-first.ensures.reads
    (c.in_ok-one.ensures.items ∙ ap (λ (t : List Tree). t ++ (tree_of c.in_ok-first.first ∷ [])) c.none-none.ensures.items)
    c.in_ok-one.ensures.rest c.read_more.ensures.reads

pub arguments::read_more-loop-alloc-init : goal.arguments::read_more-loop-alloc-init
arguments::read_more-loop-alloc-init t c =
    record { listed = listed_start _ _ _ _; past = omega arith; within = λ h. h }

pub arguments::read_more-loop-alloc-preserved : goal.arguments::read_more-loop-alloc-preserved
arguments::read_more-loop-alloc-preserved t c =
    let o = c.in_ok-found.ensures.onward in let r = c.in_ok-list.ensures.rest in let p = c.loop-alloc.invariant.past
    in record {
      listed = listed_found c.loop-alloc.list c.in_ok-found.found c.in_ok-list.list c.loop-alloc.invariant.listed
          (c.loop-alloc-test.ensures.stands c.args.bytes.now) c.in_ok-found.ensures.reads c.in_ok-list.ensures.items
          c.in_ok-list.ensures.rest;
      past = omega arith;
      within = λ h. omega arith;
    }

pub arguments::read_more-returns-clause-reads : goal.arguments::read_more-returns-clause-reads
arguments::read_more-returns-clause-reads t c =
    listed_end c.loop-alloc.invariant.listed (c.loop-alloc-test.ensures.stands c.args.bytes.now)

pub arguments::read_more-returns-in_err-found-clause-reads : goal.arguments::read_more-returns-in_err-found-clause-reads
arguments::read_more-returns-in_err-found-clause-reads t c =
    at_err (λ (l : Exprs). Reads (λ x. onto (trees_of c.args.of) (listed_of x))
    (stream c.args.bytes.now c.args.tokens.now) more_expressions c.args.of.next (counts_view c.args.of.counts) l.next
    (counts_view l.counts) (joined (trees_of l))) (λ (e : Stop). Stopped (stream c.args.bytes.now c.args.tokens.now)
    (more_expressions) c.args.of.next (counts_view c.args.of.counts) e) c.from_residual.result c.in_err-found.field-0.0
    c.from_residual.ensures.1 (stopped (stream c.args.bytes.now c.args.tokens.now) (more_expressions) c.args.of.next
    (counts_view c.args.of.counts) _ _ _ c.in_err-found.field-0.0
    (listed_off c.loop-alloc.invariant.listed (c.loop-alloc-test.ensures.stands c.args.bytes.now)) (c.in_err-found.ensures.reads))
