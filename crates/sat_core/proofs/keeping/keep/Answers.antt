use Rattle.std.proofs.Common.{subst, ap, ◌∙◌}
use Rattle.std.specs.Prelude.{[], ◌∷◌, length, take, ◌-◌, ◌≡◌, ◌++◌}
use Rattle.std.proofs.Common.{arith}
use Rattle.std.proofs.lemmas.List.{length-append}
use Rattle.proof_steps.specs.View.{clause_view}
use Rattle.sat_core.specs.Watching.{IsOnly}
use Rattle.sat_core.proofs.Places.{take-self}
use Rattle.sat_core.proofs.keeping.keep.Goals as goal

pub returns-in-Ok-clause-entered : goal.returns-in-Ok-clause-entered
returns-in-Ok-clause-entered c = (
  c.first-only.result,
  subst (λ x. IsOnly x c.first-only.result) c.as_slice.ensures c.first-only.ensures,
  c.in-Ok.ensures.ok,
)

pub returns-in-Err-clause-same_clauses : goal.returns-in-Err-clause-same_clauses
returns-in-Err-clause-same_clauses c =
    let old = c.args.clauses.now in
    let one = clause_view c.args.clause ∷ [] in
    let n : length (old ++ one) - 1 ≡ length old = (let l = length-append old one in omega arith) in
    c.pop.ensures ∙ ap (λ x. take (length x - 1) x) c.in_ok-push.ensures.ok ∙ ap (λ k. take k (old ++ one)) n ∙ take-self old one
