use Rattle.std.specs.Prelude.{All, map}
use Rattle.std.proofs.Common.{subst}
use Rattle.proof_steps.specs.View.{clause_view}
use Rattle.search_trial.specs.Values.{HasTrue}
use Rattle.search_trial.proofs.plain.Plain.satisfies.Goals as goal

pub returns-in-Met : goal.returns-in-Met
returns-in-Met c m = subst (λ vs. All (HasTrue vs) (map clause_view c.args.clauses.now)) c.deref.ensures.value
    (c.standing_of_all.ensures c.in-Met.is)
