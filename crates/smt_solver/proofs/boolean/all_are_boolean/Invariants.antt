use Rattle.std.specs.Prelude.{◌≡◌, drop}
use Rattle.sys_terms.specs.View.{terms_view}
use Rattle.smt_solver.specs.Boolean.{all_boolean}
use Rattle.smt_solver.proofs.boolean.all_are_boolean.Given as goal

abbrev pub invariant-loop-term : goal.invariant-loop-term
invariant-loop-term l = all_boolean (terms_view (drop l.term-index l.terms)) ≡ all_boolean (terms_view l.fn.terms)
