use Rattle.std.proofs.Common.{inl, inr}
use Rattle.lus_grammar.specs.Run.{no_token}
use Rattle.lus_reader.proofs.token.expect_name.Goals as goal

pub returns-else-is_name-clause-expects : goal.returns-else-is_name-clause-expects
returns-else-is_name-clause-expects c = λ bytes n. no_token (λ w. elim w [ inl e ↦ (c.if-is_name.ensures.stands bytes).other e | inr z ↦ z ])
