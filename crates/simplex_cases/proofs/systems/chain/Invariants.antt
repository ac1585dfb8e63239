use Rattle.std.specs.Prelude.{◌≡◌, true}
use Rattle.simplex_cases.proofs.systems.chain.Given as goal

abbrev pub invariant-loop-j : goal.invariant-loop-j
invariant-loop-j l = l.tableau.usable ≡ true
