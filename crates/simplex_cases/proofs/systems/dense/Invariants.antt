use Rattle.std.specs.Prelude.{◌≡◌, true}
use Rattle.simplex_cases.proofs.systems.dense.Given as goal

abbrev pub invariant-loop-c : goal.invariant-loop-c
invariant-loop-c l = l.tableau.usable ≡ true

abbrev pub invariant-loop-j : goal.invariant-loop-j
invariant-loop-j l = l.tableau.usable ≡ true
