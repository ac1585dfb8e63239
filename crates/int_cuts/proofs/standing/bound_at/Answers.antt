use Rattle.std.proofs.Common.{subst}
use Rattle.int_cuts.specs.Parts.{IsAtLimit}
use Rattle.int_cuts.proofs.Stands.{none_at}
use Rattle.int_cuts.proofs.standing.bound_at.Goals as goal

pub returns : goal.returns
returns c =
    none_at c.args.tableau.now c.args.column c.value-value.result c.bound.result c.bound-2.result c.value-value.ensures.value c.bound.ensures c.bound-2.ensures
    (subst (λ o. IsAtLimit c.value-value.result c.bound.result o) c.in_default.is c.at_limit.ensures)
    (subst (λ o. IsAtLimit c.value-value.result c.bound-2.result o) c.in_default-at_limit.is c.at_limit-2.ensures)
