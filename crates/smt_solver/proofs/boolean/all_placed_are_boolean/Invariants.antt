use Rattle.std.specs.Prelude.{◌≡◌, map, drop}
use Rattle.sys_terms.specs.View.{placed_view}
use Rattle.smt_solver.specs.Boolean.{all_boolean_at}
use Rattle.smt_solver.proofs.boolean.all_placed_are_boolean.Given as goal

abbrev pub invariant-loop-term : goal.invariant-loop-term
invariant-loop-term l =
    all_boolean_at (map placed_view (drop l.term-index l.at)) ≡ all_boolean_at (map placed_view l.fn.at)
