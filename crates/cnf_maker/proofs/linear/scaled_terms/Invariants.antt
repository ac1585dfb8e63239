use Rattle.std.specs.Prelude.{◌≡◌, ◌++◌, Ok, drop}
use Rattle.sys_terms.specs.Evaluated.{and_then}
use Rattle.cnf_maker.specs.Linear.{scaled_terms}
use Rattle.cnf_maker.proofs.linear.scaled_terms.Given as goal

abbrev pub invariant-loop-x : goal.invariant-loop-x
invariant-loop-x l =
    and_then (scaled_terms l.fn.n (drop l.x-index l.terms))
    (λ us. Ok (l.products.items ++ us)) ≡ scaled_terms l.fn.n l.fn.terms
