use Rattle.std.proofs.Common.{length}
use Rattle.lus_lexer.specs.Tokens.{byte}
use Rattle.lus_lexer.proofs.Rules.{token_at}
use Rattle.lus_lexer.proofs.lexer.step_over.Goals as goal

pub returns-clause-step : goal.returns-clause-step
returns-clause-step c = λ ts e h. token_at (byte c.args.bytes.now)
    (length c.args.bytes.now) c.args.here.at c.args.end c.behind-next.result.at c.args.class c.args.here.pos ts e c.requires.here
    c.requires.longest c.requires.fits c.behind-next.ensures.at h
