use Rattle.lus_lexer.proofs.Slices.{text_of}
use Rattle.lus_lexer.proofs.Order.{taken}
use Rattle.lus_lexer.proofs.laws.spelled.Goals as goal

pub returns : goal.returns
returns c = λ b ts e h t i. let k = taken b 0 ts e h t i in text_of b t.from t.to t.class k.longest.spells
