use Rattle.std.proofs.Common.{inl, inr}
use Rattle.lus_grammar.specs.Run.{no_token}
use Rattle.lus_reader.proofs.token.expect_keyword.Goals as goal

pub returns-else-is_keyword-clause-expects : goal.returns-else-is_keyword-clause-expects
returns-else-is_keyword-clause-expects c = λ bytes n. no_token (λ w. elim w [ inl e ↦ (c.if-is_keyword.ensures.stands bytes).other e | inr z ↦ z ])
