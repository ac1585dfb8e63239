use Rattle.std.proofs.Common.{refl}
use Rattle.lus_lexer.specs.Tokens.{whole}
use Rattle.lus_lexer.proofs.Order.{apart}
use Rattle.lus_lexer.proofs.laws.only_blanks.Goals as goal

pub returns : goal.returns
returns c = λ b ts h. apart b 0 ts whole refl h
