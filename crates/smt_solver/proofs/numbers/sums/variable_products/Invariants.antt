use Rattle.std.specs.Prelude.{◌≡◌, ◌++◌, map, drop}
use Rattle.proof_steps.specs.Meaning.{at}
use Rattle.smt_solver.specs.Shares.{factor_at}
use Rattle.smt_solver.specs.declared.numbers.sums.Share.{Share}
use Rattle.smt_solver.proofs.numbers.sums.variable_products.Given as goal

abbrev pub invariant-loop-share : goal.invariant-loop-share
invariant-loop-share l =
    l.products.items ++ map (λ (s : Share). (s.number, factor_at (at l.atoms s.atom) l.x)) (drop l.share-index l.shares)
    ≡ map (λ (s : Share). (s.number, factor_at (at l.atoms s.atom) l.x)) l.fn.shares
