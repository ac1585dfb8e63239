use Rattle.std.proofs.Common.{length, subst, sym, ◌∙◌}
use Rattle.lus_lexer.specs.Tokens.{byte, Longest}
use Rattle.lus_lexer.specs.declared.spelling.Lexeme.{Lexeme}
use Rattle.lus_lexer.proofs.Rules.{blank_at, bad_at, open_at, comment_at}
use Rattle.lus_lexer.proofs.lexer.step.Goals as goal

pub returns-then-is_blank-clause-step : goal.returns-then-is_blank-clause-step
returns-then-is_blank-clause-step c = λ ts e h. blank_at (byte c.args.bytes.now)
    (length c.args.bytes.now) c.args.here.at c.past.result.at ts e c.requires.inside
    (sym c.is_blank.ensures ∙ c.if-is_blank.true) c.past.ensures.next h

pub returns-in-None-clause-step : goal.returns-in-None-clause-step
returns-in-None-clause-step c = bad_at (byte c.args.bytes.now) (length c.args.bytes.now) c.args.here.at c.args.here.pos c.refusal.result.at
    c.refusal.result.what c.requires.here c.refusal.ensures.at c.refusal.ensures.what c.requires.inside
    (sym c.is_blank.ensures ∙ c.if-is_blank.false) c.in-None.ensures

pub returns-in-None-comment_end-clause-step : goal.returns-in-None-comment_end-clause-step
returns-in-None-comment_end-clause-step c =
    open_at (byte c.args.bytes.now) (length c.args.bytes.now) c.args.here.at c.in-Some-Opens-default.end c.behind.result.at
    c.in-Some-Opens-default.comment c.args.here.pos c.refusal-in-None-comment_end.result.at c.refusal-in-None-comment_end.result.what
    c.requires.here c.refusal-in-None-comment_end.ensures.at c.refusal-in-None-comment_end.ensures.what
    (subst (λ (x : Lexeme). Longest (byte c.args.bytes.now) c.args.here.at c.in-Some-Opens-default.end x)
    c.in-Some-Opens-default.field-0-0-is c.in-Some-Opens-default.ensures) c.behind.ensures.at c.in-None-comment_end.ensures.none

pub returns-in-Some-clause-step : goal.returns-in-Some-clause-step
returns-in-Some-clause-step c = λ ts e h. comment_at (byte c.args.bytes.now)
    (length c.args.bytes.now) c.args.here.at c.in-Some-Opens-default.end c.behind.result.at c.in-Some.next.at
    c.in-Some-Opens-default.comment ts e (subst (λ (x : Lexeme). Longest
    (byte c.args.bytes.now) c.args.here.at c.in-Some-Opens-default.end x) c.in-Some-Opens-default.field-0-0-is
    c.in-Some-Opens-default.ensures) c.behind.ensures.at c.in-Some.ensures.ends h
