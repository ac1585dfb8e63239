use Rattle.lus_lexer.specs.Tokens.{byte}
use Rattle.lus_lexer.proofs.Order.{taken, small_value}
use Rattle.lus_lexer.proofs.laws.fits.Goals as goal

pub returns : goal.returns
returns c = λ b ts e h t i n. let k = taken b 0 ts e h t i in small_value (byte b) t.from t.to (k.fits n)
