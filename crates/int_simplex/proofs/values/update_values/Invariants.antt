use Rattle.std.specs.Prelude.{drop, map}
use Rattle.proof_steps.specs.View.{row_view}
use Rattle.int_simplex.specs.Valued.{AreValuesBut}
use Rattle.int_simplex.proofs.values.update_values.Given as goal

abbrev pub invariant-loop-i : goal.invariant-loop-i
invariant-loop-i l = AreValuesBut l.basis (map row_view l.rows) l.places l.values.items (drop l.i l.touched)
