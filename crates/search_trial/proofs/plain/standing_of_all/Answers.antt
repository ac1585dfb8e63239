use Rattle.std.specs.Prelude.{◌≡◌, Some, None, All}
use Rattle.std.proofs.Common.{◌∙◌, sym, subst, arith}
use Rattle.std.proofs.lemmas.List.{take_all}
use Rattle.std.proofs.lemmas.List.Elements.{All-map}
use Rattle.proof_steps.specs.View.{clause_view}
use Rattle.search_trial.specs.Values.{HasTrue}
use Rattle.search_trial.proofs.Onward.{met_next}
use Rattle.search_trial.proofs.plain.standing_of_all.Goals as goal
use Rattle.search_trial.proofs.plain.standing_of_all.Goals.{in-Met, in-Open+in-None, in-Open+in-Some}

pub loop-clause-preserved : goal.loop-clause-preserved
loop-clause-preserved c = elim c.match-standing_of.branch [
  | in-Met w ↦ (λ e. met_next c.args.values.now c.args.clauses.now c.loop-clause.clause-index c.clause-item.result
      c.as_slice.result.now c.loop-clause-test.true c.clause-item.is c.as_slice.ensures (c.standing_of.ensures w.in-Met.is)
      (c.loop-clause.invariant (sym w.open-is ∙ e)))
  | in-Open+in-None w ↦ (λ e. absurd (let q : Some w.in-Open.literal ≡ None = sym w.open-is ∙ e in cc))
  | in-Open+in-Some w ↦ (λ e. absurd (let q : Some w.in-Some.field-0 ≡ None = sym w.in-Some.is ∙ sym w.open-is ∙ e in cc))
]

pub returns-in-None-open : goal.returns-in-None-open
returns-in-None-open c m = All-map (HasTrue c.args.values.now) clause_view c.args.clauses.now
    (subst (All (λ x. HasTrue c.args.values.now (clause_view x)))
    (take_all c.loop-clause.clause-index c.args.clauses.now (omega arith)) (c.loop-clause.invariant c.in-None-open.is))
