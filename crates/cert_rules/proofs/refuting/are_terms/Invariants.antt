use Rattle.std.specs.Prelude.{◌≡◌, drop}
use Rattle.sys_terms.specs.View.{terms_view, system_view}
use Rattle.cert_rules.specs.Faults.{are_terms}
use Rattle.cert_rules.proofs.refuting.are_terms.Given as goal

abbrev pub invariant-loop-term : goal.invariant-loop-term
invariant-loop-term l =
    are_terms (system_view l.system) (terms_view (drop l.term-index l.terms))
    ≡ are_terms (system_view l.fn.system) (terms_view l.fn.terms)
