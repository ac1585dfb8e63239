use Rattle.std.specs.Prelude.{◌≡◌, take}
use Rattle.smt_solver.specs.NumberStates.{number_entries}
use Rattle.smt_solver.proofs.states.entries.Given as goal

abbrev pub invariant-loop-i : goal.invariant-loop-i
invariant-loop-i l = l.entries.items ≡ number_entries l.search.trail l.tableau.values 0 (take l.i l.shapes)
