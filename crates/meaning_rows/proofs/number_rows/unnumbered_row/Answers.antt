use Rattle.std.proofs.lemmas.Bool.{false≢true}
use Rattle.lus_tree.specs.Numbers.{a_pre, an_arrow, a_call}
use Rattle.meaning_rows.proofs.number_rows.unnumbered_row.Goals as goal

pub returns-clause-two_pres_twice : goal.returns-clause-two_pres_twice
returns-clause-two_pres_twice c h = false≢true (h.each a_pre)

pub returns-clause-two_arrows_twice : goal.returns-clause-two_arrows_twice
returns-clause-two_arrows_twice c h = false≢true (h.each an_arrow)

pub returns-clause-import_and_condact_twice : goal.returns-clause-import_and_condact_twice
returns-clause-import_and_condact_twice c h = false≢true (h.each a_call)

pub returns-clause-contract_and_body_twice : goal.returns-clause-contract_and_body_twice
returns-clause-contract_and_body_twice c h = false≢true (h.each a_pre)

pub returns-clause-default_and_body_twice : goal.returns-clause-default_and_body_twice
returns-clause-default_and_body_twice c h = false≢true (h.each an_arrow)

pub returns-clause-constant_and_body_twice : goal.returns-clause-constant_and_body_twice
returns-clause-constant_and_body_twice c h = false≢true (h.each an_arrow)

pub returns-clause-left_out : goal.returns-clause-left_out
returns-clause-left_out c h = false≢true (h.each a_pre)

pub returns-clause-zero : goal.returns-clause-zero
returns-clause-zero c h = false≢true (h.each a_pre)
