use Rattle.std.specs.Prelude.{◌≡◌, ◌++◌, map, drop}
use Rattle.smt_solver.specs.Shares.{share_by}
use Rattle.smt_solver.proofs.numbers.sums.shares.Given as goal

abbrev pub invariant-loop-multiplier : goal.invariant-loop-multiplier
invariant-loop-multiplier l =
    l.shares.items ++ map (share_by l.search.trail l.meanings) (drop l.multiplier-index l.parts)
    ≡ map (share_by l.search.trail l.meanings) l.fn.parts
