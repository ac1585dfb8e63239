use Rattle.std.specs.Prelude.{◌≡◌, ◌++◌, map, drop}
use Rattle.smt_solver.specs.Used.{denied_by}
use Rattle.smt_solver.proofs.numbers.steps.clause_of.Given as goal

abbrev pub invariant-loop-u : goal.invariant-loop-u
invariant-loop-u l = l.literals.items ++ map denied_by (drop l.u-index l.used) ≡ map denied_by l.fn.used
