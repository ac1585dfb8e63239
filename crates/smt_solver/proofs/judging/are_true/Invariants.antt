use Rattle.std.specs.Prelude.{◌≡◌, map, drop, true}
use Rattle.sys_terms.specs.View.{term_view, state_view}
use Rattle.sys_terms.specs.Fits.{all_divided}
use Rattle.smt_solver.specs.Judging.{all_hold}
use Rattle.smt_solver.proofs.judging.are_true.Given as goal

abbrev pub invariant-loop-term : goal.invariant-loop-term
invariant-loop-term l = record {
  divided : all_divided (map term_view (drop l.term-index l.terms)) ≡ true;
  rest : all_hold (state_view l.values) (map term_view (drop l.term-index l.terms))
      ≡ all_hold (state_view l.fn.values) (map term_view l.fn.terms);
}
