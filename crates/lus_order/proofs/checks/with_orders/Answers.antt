use Rattle.std.proofs.Common.{MatchResult, subst}
use Rattle.std.specs.Prelude.{Contains}
use Rattle.lus_tree.specs.Reason.{refusal_view}
use Rattle.lus_meaning.specs.Faults.{IsFirst}
use Rattle.lus_meaning.specs.Refusals.{HasNone}
use Rattle.lus_scopes.specs.Least.{least_view}
use Rattle.lus_order.specs.Dependences.{orders_seen}
use Rattle.lus_order.proofs.AllOrdered.{first_here, none_here}
use Rattle.lus_order.proofs.checks.with_orders.Goals as goal

pub returns-in-Ok-clause-judged : goal.returns-in-Ok-clause-judged
returns-in-Ok-clause-judged c = λ p h. none_here p (least_view c.args.found.least) (orders_seen c.args.found.all.items) h
    (λ fs i. subst (λ r. MatchResult r (λ _. HasNone (Contains fs)) (λ e. IsFirst (Contains fs) (refusal_view e))) c.in-Ok.is (c.into_result.ensures fs i))

pub returns-in-Err-clause-judged : goal.returns-in-Err-clause-judged
returns-in-Err-clause-judged c = λ p h. first_here p (least_view c.args.found.least) (orders_seen c.args.found.all.items) (refusal_view c.in-Err.fault) h
    (λ fs i. subst (λ r. MatchResult r (λ _. HasNone (Contains fs)) (λ e. IsFirst (Contains fs) (refusal_view e))) c.in-Err.is (c.into_result.ensures fs i))
