use Rattle.std.specs.Prelude.{◌≡◌, drop}
use Rattle.sys_terms.specs.View.{terms_view}
use Rattle.cnf_maker.specs.ClauseForm.{with_conditions}
use Rattle.cnf_maker.specs.View.{made}
use Rattle.cnf_maker.proofs.maker.Maker.conditions.Given as goal

abbrev pub invariant-loop-condition : goal.invariant-loop-condition
invariant-loop-condition l =
    with_conditions l.truth (made l.self) (terms_view (drop l.condition-index l.conditions)) ≡ with_conditions
    l.fn.truth (made l.fn.self) (terms_view l.fn.conditions)
