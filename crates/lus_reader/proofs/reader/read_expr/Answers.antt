-- What is answered for an item's expression.
use Rattle.std.proofs.Common.{◌+◌, List, subst, arith}
use Rattle.lus_tree.specs.Reason.{refusal_view}
use Rattle.lus_lexer.specs.declared.token.Token.{Token}
use Rattle.lus_grammar.specs.Phrase.{Expression, part}
use Rattle.lus_grammar.specs.Run.{Run, stop, unexpected}
use Rattle.lus_grammar.specs.Source.{limit}
use Rattle.lus_grammar.specs.Stream.{stream}
use Rattle.lus_reader.specs.declared.stop.Stop.{Stop}
use Rattle.lus_reader.specs.Look.{Stopped}
use Rattle.lus_reader.specs.Outcome.{IsRead}
use Rattle.lus_reader.specs.View.{counts_view}
use Rattle.lus_reader.proofs.Limits.{first_ones, few_tokens, read_within, read_past, stop_within, stop_past, refused_large, refused_token, is_text, is_no_text}
use Rattle.lus_reader.proofs.reader.read_expr.Goals as goal

pub read_expression-requires : goal.read_expression-requires
read_expression-requires c =
    rw c.front.ensures (first_ones c.args.bytes.now c.args.tokens.now (c.args.from + 1000 + 1) c.requires.cut)

pub overflow_cast-result : goal.overflow_cast-result
overflow_cast-result c =
    let a = c.in-Ok.ensures.onward in let f = few_tokens c.args.bytes.now c.args.tokens.now c.requires.cut in let w = c.if-found-wall.false
    in let r = c.requires.small in omega arith

pub returns-then-found-wall-clause-stop : goal.returns-then-found-wall-clause-stop
returns-then-found-wall-clause-stop c =
    refused_large (stream c.args.bytes.now c.args.tokens.now) c.args.from (counts_view c.args.counts.now) (c.args.from + 1000)
    (refusal_view c.too_large.result) (read_past c.args.bytes.now c.args.tokens.now c.args.from
    (counts_view c.args.counts.now) c.in-Ok.found (subst (λ (ts : List Token). IsRead
    (stream c.args.bytes.now ts) Expression c.args.from (counts_view c.args.counts.now) c.in-Ok.found) c.front.ensures
    c.in-Ok.ensures.reads) c.if-found-wall.true) c.too_large.ensures.at c.too_large.ensures.reason

pub returns-then-found-wall-clause-refused : goal.returns-then-found-wall-clause-refused
returns-then-found-wall-clause-refused c =
    is_no_text (refused_large (stream c.args.bytes.now c.args.tokens.now) c.args.from (counts_view c.args.counts.now) (c.args.from + 1000)
    (refusal_view c.too_large.result) (read_past c.args.bytes.now c.args.tokens.now c.args.from
    (counts_view c.args.counts.now) c.in-Ok.found (subst (λ (ts : List Token). IsRead
    (stream c.args.bytes.now ts) Expression c.args.from (counts_view c.args.counts.now) c.in-Ok.found) c.front.ensures
    c.in-Ok.ensures.reads) c.if-found-wall.true) c.too_large.ensures.at c.too_large.ensures.reason)

pub returns-then-at-wall-clause-stop : goal.returns-then-at-wall-clause-stop
returns-then-at-wall-clause-stop c =
    refused_large (stream c.args.bytes.now c.args.tokens.now) c.args.from (counts_view c.args.counts.now) (c.args.from + 1000)
    (refusal_view c.too_large-then-at-wall.result) (stop_past c.args.bytes.now c.args.tokens.now c.args.from
    (counts_view c.args.counts.now) c.in-Err-Unexpected.at (subst
    (λ (ts : List Token). Run limit (stream c.args.bytes.now ts) (part Expression) c.args.from (counts_view c.args.counts.now)
    (stop unexpected c.in-Err-Unexpected.at)) c.front.ensures (subst
    (λ (z : Stop). Stopped (stream c.args.bytes.now c.front.result.now) (part Expression) c.args.from (counts_view c.args.counts.now) z)
    c.in-Err-Unexpected.field-0-is c.in-Err-Unexpected.ensures.reads)) c.if-at-wall.true) c.too_large-then-at-wall.ensures.at
    c.too_large-then-at-wall.ensures.reason

pub returns-then-at-wall-clause-refused : goal.returns-then-at-wall-clause-refused
returns-then-at-wall-clause-refused c =
    is_no_text (refused_large (stream c.args.bytes.now c.args.tokens.now) c.args.from (counts_view c.args.counts.now) (c.args.from + 1000)
    (refusal_view c.too_large-then-at-wall.result) (stop_past c.args.bytes.now c.args.tokens.now c.args.from
    (counts_view c.args.counts.now) c.in-Err-Unexpected.at (subst
    (λ (ts : List Token). Run limit (stream c.args.bytes.now ts) (part Expression) c.args.from (counts_view c.args.counts.now)
    (stop unexpected c.in-Err-Unexpected.at)) c.front.ensures (subst
    (λ (z : Stop). Stopped (stream c.args.bytes.now c.front.result.now) (part Expression) c.args.from (counts_view c.args.counts.now) z)
    c.in-Err-Unexpected.field-0-is c.in-Err-Unexpected.ensures.reads)) c.if-at-wall.true) c.too_large-then-at-wall.ensures.at
    c.too_large-then-at-wall.ensures.reason)

pub returns-else-found-wall-clause-run : goal.returns-else-found-wall-clause-run
returns-else-found-wall-clause-run c =
    rw c.into_inner.ensures (read_within c.args.bytes.now c.args.tokens.now c.args.from (counts_view c.args.counts.now) c.in-Ok.found
    (subst (λ (ts : List Token). IsRead (stream c.args.bytes.now ts) Expression c.args.from
    (counts_view c.args.counts.now) c.in-Ok.found) c.front.ensures c.in-Ok.ensures.reads)
    (let h = c.if-found-wall.false in omega arith))

pub returns-else-found-wall-clause-found : goal.returns-else-found-wall-clause-found
returns-else-found-wall-clause-found c =
    rw c.into_inner.ensures (is_text (read_within c.args.bytes.now c.args.tokens.now c.args.from
    (counts_view c.args.counts.now) c.in-Ok.found (subst (λ (ts : List Token). IsRead
    (stream c.args.bytes.now ts) Expression c.args.from (counts_view c.args.counts.now) c.in-Ok.found) c.front.ensures
    c.in-Ok.ensures.reads) (let h = c.if-found-wall.false in omega arith)))

pub returns-else-at-wall-clause-stop : goal.returns-else-at-wall-clause-stop
returns-else-at-wall-clause-stop c =
    refused_token (stream c.args.bytes.now c.args.tokens.now) c.args.from (counts_view c.args.counts.now) c.in-Err-Unexpected.at
    (refusal_view c.unexpected.result) (stop_within c.args.bytes.now c.args.tokens.now c.args.from
    (counts_view c.args.counts.now) c.in-Err-Unexpected.at (subst
    (λ (ts : List Token). Run limit (stream c.args.bytes.now ts) (part Expression) c.args.from (counts_view c.args.counts.now)
    (stop unexpected c.in-Err-Unexpected.at)) c.front.ensures (subst
    (λ (z : Stop). Stopped (stream c.args.bytes.now c.front.result.now) (part Expression) c.args.from (counts_view c.args.counts.now) z)
    c.in-Err-Unexpected.field-0-is c.in-Err-Unexpected.ensures.reads)) (let h = c.if-at-wall.false in omega arith))
    c.unexpected.ensures.at c.unexpected.ensures.reason

pub returns-else-at-wall-clause-refused : goal.returns-else-at-wall-clause-refused
returns-else-at-wall-clause-refused c =
    is_no_text (refused_token (stream c.args.bytes.now c.args.tokens.now) c.args.from (counts_view c.args.counts.now) c.in-Err-Unexpected.at
    (refusal_view c.unexpected.result) (stop_within c.args.bytes.now c.args.tokens.now c.args.from
    (counts_view c.args.counts.now) c.in-Err-Unexpected.at (subst
    (λ (ts : List Token). Run limit (stream c.args.bytes.now ts) (part Expression) c.args.from (counts_view c.args.counts.now)
    (stop unexpected c.in-Err-Unexpected.at)) c.front.ensures (subst
    (λ (z : Stop). Stopped (stream c.args.bytes.now c.front.result.now) (part Expression) c.args.from (counts_view c.args.counts.now) z)
    c.in-Err-Unexpected.field-0-is c.in-Err-Unexpected.ensures.reads)) (let h = c.if-at-wall.false in omega arith))
    c.unexpected.ensures.at c.unexpected.ensures.reason)
