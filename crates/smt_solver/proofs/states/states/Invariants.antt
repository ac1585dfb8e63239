use Rattle.std.specs.Prelude.{◌≡◌, ◌≤◌, ◌*◌, ◌-◌, ◌++◌, length}
use Rattle.sys_terms.specs.View.{states_view}
use Rattle.sys_terms.specs.Answers.{states_in}
use Rattle.smt_solver.proofs.states.states.Given as goal

abbrev pub invariant-loop-i : goal.invariant-loop-i
invariant-loop-i l =
    (states_view l.states.items ++ states_in l.size (l.count - l._i) l.rest ≡ states_in l.size l.count l.values)
    × ((l.count - l._i) * l.size ≤ length l.rest)
