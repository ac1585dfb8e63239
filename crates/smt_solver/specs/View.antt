-- Answers without where they lie in memory.
use Rattle.std.specs.Prelude.{List}
use Rattle.proof_steps.specs.View.{Refutation, proof_view}
use Rattle.proof_steps.specs.StopView.{Halt, stop_view}
use Rattle.sys_terms.specs.declared.term.Entry.{Entry}
use Rattle.sys_terms.specs.View.{states_view}
use Rattle.smt_solver.specs.declared.answer.Answer.{Answer}
use Rattle.smt_solver.specs.declared.answer.Answer.TheVariants as a

-- a proof, states, or why the solver stopped
pub data Found : Type 0 where
  unsat : Refutation → Found
  sat : List (List Entry) → Found
  stop : Halt → Found

abbrev pub answer_view : Answer → Found
answer_view (a.Unsat p) = unsat (proof_view p)
answer_view (a.Sat states) = sat (states_view states.items)
answer_view (a.Stop s) = stop (stop_view s)
