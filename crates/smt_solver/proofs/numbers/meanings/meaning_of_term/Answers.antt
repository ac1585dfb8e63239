use Rattle.std.specs.Int.{w128}
use Rattle.std.proofs.Common.{rules, subst, ap, ◌∙◌}
use Rattle.std.proofs.lemmas.Int.{to_z-of_z}
use mir.Val.{SFits, to_z, of_z}
use lib.IntN.{pos, neg_ℤ}
use lib.Signed.{◌<ℤ◌}
use Rattle.kind_num.specs.Division.{IsFloor}
use Rattle.smt_solver.proofs.Meant.{near-lower}
use Rattle.smt_solver.proofs.numbers.meanings.meaning_of_term.Goals as goal

pub returns-clause-near : goal.returns-clause-near
returns-clause-near c =
    let f : SFits w128 c.opposite.result = search rules in
    let g : SFits w128 c.args.bound = search rules in
    let d : SFits w128 c.opposite-divisor.result = search rules in
    let q : SFits w128 c.div_floor-quotient.result = search rules in
    let h : pos 0 <ℤ c.opposite-divisor.result = search rules in
    near-lower c.args.x c.args.bound c.opposite-divisor.result c.div_floor-quotient.result _ _ h
    (subst (λ z. IsFloor z c.opposite-divisor.result c.div_floor-quotient.result) (to_z-of_z w128 c.args.bound g)
    (subst (λ z. IsFloor (to_z w128 (of_z w128 c.args.bound)) z c.div_floor-quotient.result)
    (to_z-of_z w128 c.opposite-divisor.result d) c.div_floor-quotient.ensures.floor))
    c.requires.small_bound (to_z-of_z w128 c.opposite.result f ∙ c.opposite.ensures
    ∙ ap neg_ℤ (to_z-of_z w128 c.div_floor-quotient.result q))
