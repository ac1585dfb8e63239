use Rattle.std.specs.Prelude.{◌≡◌, ◌++◌, map, drop}
use Rattle.smt_solver.specs.declared.numbers.sums.Share.{Share}
use Rattle.smt_solver.proofs.numbers.sums.refuting_row.Given as goal

abbrev pub invariant-loop-share : goal.invariant-loop-share
invariant-loop-share l =
    l.row.items ++ map (λ (s : Share). (s.column, s.number)) (drop l.share-index l.shares)
    ≡ map (λ (s : Share). (s.column, s.number)) l.fn.shares
