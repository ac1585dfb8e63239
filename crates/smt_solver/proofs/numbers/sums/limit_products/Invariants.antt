use Rattle.std.specs.Prelude.{◌≡◌, ◌++◌, map, drop}
use Rattle.smt_solver.specs.declared.numbers.sums.Share.{Share}
use Rattle.smt_solver.proofs.numbers.sums.limit_products.Given as goal

abbrev pub invariant-loop-share : goal.invariant-loop-share
invariant-loop-share l =
    l.products.items ++ map (λ (s : Share). (s.number, s.limit)) (drop l.share-index l.shares)
    ≡ map (λ (s : Share). (s.number, s.limit)) l.fn.shares
