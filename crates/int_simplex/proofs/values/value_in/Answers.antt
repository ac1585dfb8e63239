use Rattle.std.specs.Int.{w128}
use Rattle.std.specs.Prelude.{length}
use Rattle.std.proofs.Common.{rules, ap, ◌∙◌, sym}
use Rattle.std.proofs.lemmas.Int.{to_z-of_z}
use mir.Val.{SFits}
use lib.IntN.{◌*ℤ◌}
use Rattle.int_simplex.specs.Valued.{place_at}
use Rattle.int_simplex.proofs.Sparse.{sparse_differ}
use Rattle.int_simplex.proofs.Rests.{quotient_down, quotient_up, no_sign, zero_fraction, rest_is}
use Rattle.int_simplex.proofs.values.value_in.Goals as goal

pub entry_in-own-requires : goal.entry_in-own-requires
entry_in-own-requires c = sparse_differ 0 (length c.args.places.now) c.args.row.now c.requires

pub returns-in_ok-negated-clause-value : goal.returns-in_ok-negated-clause-value
returns-in_ok-negated-clause-value c =
    let fs : SFits w128 c.in_ok-sum.sum = search rules in
    let fa : SFits w128 c.entry_in-own.result = search rules in
    let fn : SFits w128 c.in_ok-negated.field-0 = search rules in
    let n = simp to_z-of_z at c.in_ok-negated.ensures in
    let s = simp to_z-of_z at c.lowest.ensures.same in
    let r = c.in_ok-sum.ensures.sum ∙ rest_is c.args.x 0 (length c.args.places.now) (place_at c.args.places.now) c.args.row.now c.requires in
    record {
      fraction = c.lowest.ensures.fraction;
      quotient = quotient_down _ c.in_ok-sum.sum c.entry_in-own.result _ _ _ r c.entry_in-own.ensures (s ∙ ap (λ z. c.lowest.result.0 *ℤ z) n.1);
    }

pub returns-in_ok-negated-2-clause-value : goal.returns-in_ok-negated-2-clause-value
returns-in_ok-negated-2-clause-value c =
    let fs : SFits w128 c.in_ok-sum.sum = search rules in
    let fa : SFits w128 c.entry_in-own.result = search rules in
    let fn : SFits w128 c.in_ok-negated-2.field-0 = search rules in
    let n = simp to_z-of_z at c.in_ok-negated-2.ensures in
    let s = simp to_z-of_z at c.lowest-then-own-gt0.ensures.same in
    let r = c.in_ok-sum.ensures.sum ∙ rest_is c.args.x 0 (length c.args.places.now) (place_at c.args.places.now) c.args.row.now c.requires in
    record {
      fraction = c.lowest-then-own-gt0.ensures.fraction;
      quotient = quotient_up _ c.in_ok-sum.sum c.entry_in-own.result _ _ _ r c.entry_in-own.ensures
          (ap (λ z. z *ℤ c.lowest-then-own-gt0.result.1) (sym n.1) ∙ s);
    }

pub returns-else-own-gt0-clause-value : goal.returns-else-own-gt0-clause-value
returns-else-own-gt0-clause-value c =
    let fa : SFits w128 c.entry_in-own.result = search rules in
    let l = simp to_z-of_z at c.if-own-lt0.false in
    let h = simp to_z-of_z at c.if-own-gt0.false in
    record { fraction = zero_fraction; quotient = λ n. absurd (no_sign c.entry_in-own.result _ c.entry_in-own.ensures l h n) }
