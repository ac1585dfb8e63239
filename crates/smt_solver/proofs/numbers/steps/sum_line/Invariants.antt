use Rattle.std.specs.Prelude.{◌≡◌, take}
use Rattle.smt_solver.specs.Used.{line_parts_by}
use Rattle.smt_solver.proofs.numbers.steps.sum_line.Given as goal

abbrev pub invariant-loop-i : goal.invariant-loop-i
invariant-loop-i l = l.parts.items ≡ line_parts_by 1 (take l.i l.used)
