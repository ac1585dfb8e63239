use Rattle.std.specs.Int.{w128, int_div_euclid}
use Rattle.std.specs.Prelude.{◌≡◌, map, Some}
use Rattle.std.proofs.Common.{rules, ap, ◌∙◌}
use mir.Val.{SFits}
use Rattle.std.proofs.lemmas.Int.{to_z-of_z}
use Rattle.proof_steps.specs.View.{row_view}
use Rattle.int_cuts.specs.Parts.{sum_by}
use Rattle.int_cuts.proofs.Steps.{terms_next}
use Rattle.int_cuts.proofs.sums.terms_of.Goals as goal

pub loop-x-preserved : goal.loop-x-preserved
loop-x-preserved c =
    let fr : SFits w128 c.args.d = c.ranges.d in
    let fs : SFits w128 c.in_ok-sum.sum = search rules in
    let fd : SFits w128 c.div_floor.result = search rules in
    let e : c.div_floor.result ≡ int_div_euclid c.in_ok-sum.sum c.args.d = simp to_z-of_z at c.div_floor.ensures.exact in
    let g = simp to_z-of_z at c.in_ok-push_term.ensures.grown in
    let m = simp to_z-of_z at c.loop-x.invariant in
    simp to_z-of_z (terms_next (λ k. int_div_euclid (sum_by (map row_view c.args.given.now) (Some k) c.args.parts.now) c.args.d) c.loop-x.x
    c.div_floor.result c.loop-x.terms.items
    c.push_term.new.terms.items m (e ∙ ap (λ z. int_div_euclid z c.args.d) c.in_ok-sum.ensures.sum) g)
