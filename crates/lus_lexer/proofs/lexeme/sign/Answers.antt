use Rattle.std.proofs.Common.{◌≡◌, ◌∙◌, subst, sym, ap, arith, MatchOption, Option, List, ℕ}
use Rattle.lus_lexer.specs.declared.spelling.Lexeme.{Lexeme}
use Rattle.lus_lexer.specs.Table.{Row}
use Rattle.lus_lexer.specs.Search.{sign_in}
use Rattle.lus_lexer.specs.Tokens.{byte, NoneAt, Longest}
use Rattle.lus_lexer.proofs.Tables.{signs_at}
use Rattle.lus_lexer.proofs.Looking.{sign_longest}
use Rattle.lus_lexer.proofs.lexeme.sign.Goals as goal

pub returns : goal.returns
returns c =
    let e : c.sign_in.result ≡ sign_in (signs_at (byte c.args.bytes.now c.args.at)) c.args.bytes.now c.args.at =
    c.sign_in.ensures ∙ ap (λ (rs : List Row). sign_in rs c.args.bytes.now c.args.at) c.signs_from.ensures in
    subst (λ (o : Option (Lexeme × ℕ)). MatchOption o (NoneAt (byte c.args.bytes.now) c.args.at)
    (λ x. Longest (byte c.args.bytes.now) c.args.at x.1 x.0)) (sym e)
    (sign_longest c.args.bytes.now c.args.at (omega (arith, c.requires.inside)) c.requires.letter c.requires.digit c.requires.quote)
