use Rattle.std.proofs.Common.{◌∙◌, inl}
use Rattle.lus_grammar.specs.Grammar.{semicolon}
use Rattle.lus_grammar.specs.Syntax.{absent}
use Rattle.lus_grammar.specs.Run.{token, once, not_once}
use Rattle.contract_reader.proofs.Firsts.{told}
use Rattle.contract_reader.proofs.node.past_semicolon.Goals as goal

pub returns-then-is_semicolon-clause-run : goal.returns-then-is_semicolon-clause-run
returns-then-is_semicolon-clause-run c = λ bytes n.
    let e = told semicolon (c.class_at.ensures.class bytes) c.is_semicolon.ensures.listed c.if-is_semicolon.true in
    let k = c.class_at.ensures.class bytes ∙ c.is_semicolon.ensures.class c.if-is_semicolon.true in
    (_, once e (token (inl k)))

pub returns-else-is_semicolon-clause-run : goal.returns-else-is_semicolon-clause-run
returns-else-is_semicolon-clause-run c = λ bytes n.
    let e = told semicolon (c.class_at.ensures.class bytes) c.is_semicolon.ensures.listed c.if-is_semicolon.false in
    (absent, not_once e)
