use Rattle.std.specs.Prelude.{All, map}
use Rattle.std.proofs.Common.{subst}
use Rattle.proof_steps.specs.View.{clause_view}
use Rattle.search_trial.specs.Values.{HasTrue}
use Rattle.search_trial.proofs.plain.plainly.Goals as goal

pub returns : goal.returns
returns c e = (
  c.satisfies.new.self.values.items,
  subst (λ cs. All (HasTrue c.satisfies.new.self.values.items) (map clause_view cs)) c.deref.ensures.value (c.in_ok-met.ensures e),
)
