use Rattle.std.proofs.Common.{inl, inr}
use Rattle.lus_grammar.specs.Run.{no_token}
use Rattle.lus_reader.proofs.token.expect_sign.Goals as goal

pub returns-else-is_sign-clause-expects : goal.returns-else-is_sign-clause-expects
returns-else-is_sign-clause-expects c = λ bytes n. no_token (λ w. elim w [ inl e ↦ (c.if-is_sign.ensures.stands bytes).other e | inr z ↦ z ])
