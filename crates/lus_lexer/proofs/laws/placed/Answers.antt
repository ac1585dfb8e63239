use Rattle.std.proofs.Common.{subst, sym}
use Rattle.lus_tree.specs.declared.place.Pos.{Pos}
use Rattle.lus_lexer.specs.Tokens.{byte}
use Rattle.lus_lexer.specs.Laws.{IsPlace}
use Rattle.lus_lexer.proofs.Places.{place_is}
use Rattle.lus_lexer.proofs.Order.{taken}
use Rattle.lus_lexer.proofs.laws.placed.Goals as goal

pub returns : goal.returns
returns c = λ b ts e h t i. let k = taken b 0 ts e h t i in subst (λ (p : Pos). IsPlace (byte b) t.from p) (sym k.at) (place_is (byte b) t.from)
