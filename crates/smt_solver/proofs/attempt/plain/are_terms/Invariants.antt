use Rattle.std.specs.Prelude.{All, take}
use Rattle.cnf_maker.specs.Plain.{IsTermOf}
use Rattle.smt_solver.proofs.attempt.plain.are_terms.Given as goal

abbrev pub invariant-loop-term : goal.invariant-loop-term
invariant-loop-term l = All (IsTermOf l.shapes) (take l.term-index l.terms)
