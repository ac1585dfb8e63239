-- The evaluation of a frame has one outcome, since there is one order.
use Rattle.std.proofs.Common.{subst}
use Rattle.lus_evaluation.specs.Past.{IsWithin, IsFirstPast}
use Rattle.lus_evaluation.specs.Laws.{OneOutcome}
use Rattle.lus_evaluation.proofs.OneEvaluation.{one_evaluation}
use Rattle.lus_evaluation.proofs.FirstPast.{never_told, one_first_past}

pub one_outcome : OneOutcome
one_outcome = record {
  never_both = λ i f n at t past w m.
      never_told i f m.parts n (subst (λ q. IsWithin i f q n) (one_evaluation i w.parts m.parts w.evaluation m.evaluation) w.within)
      record { at = at; instant = t; past = past; first = m.first };
  one = λ i f n at at' t t' past past' a b.
      one_first_past i f a.parts n at at' t t' past past' a.first
      (subst (λ q. IsFirstPast i f q n at' t' past') (one_evaluation i b.parts a.parts b.evaluation a.evaluation) b.first);
}
