use Rattle.std.specs.Prelude.{◌≡◌, drop, length}
use Rattle.sys_terms.specs.Fits.{state_fits}
use Rattle.smt_solver.proofs.judging.all_fit.Given as goal

abbrev pub invariant-loop-i : goal.invariant-loop-i
invariant-loop-i l = record {
  same : length l.shapes ≡ length l.values;
  rest : state_fits (drop l.i l.shapes) (drop l.i l.values) ≡ state_fits l.fn.shapes l.fn.values;
}
