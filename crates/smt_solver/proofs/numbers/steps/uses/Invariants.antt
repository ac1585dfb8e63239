use Rattle.std.specs.Prelude.{◌≡◌, ◌++◌, map, drop}
use Rattle.smt_solver.specs.Used.{used_by}
use Rattle.smt_solver.proofs.numbers.steps.uses.Given as goal

abbrev pub invariant-loop-multiplier : goal.invariant-loop-multiplier
invariant-loop-multiplier l =
    l.used.items ++ map (used_by l.search.trail l.meanings) (drop l.multiplier-index l.parts)
    ≡ map (used_by l.search.trail l.meanings) l.fn.parts
