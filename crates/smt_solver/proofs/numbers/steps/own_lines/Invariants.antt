use Rattle.std.specs.Prelude.{◌≡◌, map, take}
use Rattle.proof_steps.specs.View.{line_view}
use Rattle.smt_solver.specs.Used.{own_lines_by}
use Rattle.smt_solver.proofs.numbers.steps.own_lines.Given as goal

abbrev pub invariant-loop-i : goal.invariant-loop-i
invariant-loop-i l = map line_view l.lines.items ≡ own_lines_by 1 (take l.i l.used)
