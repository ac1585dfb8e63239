use Rattle.std.specs.Prelude.{◌≡◌, None, All, take}
use Rattle.proof_steps.specs.View.{clause_view}
use Rattle.search_trial.specs.Values.{HasTrue}
use Rattle.search_trial.proofs.plain.standing_of_all.Given as goal

abbrev pub invariant-loop-clause : goal.invariant-loop-clause
invariant-loop-clause l = l.open ≡ None → All (λ c. HasTrue l.values (clause_view c)) (take l.clause-index l.clauses)
