use Rattle.std.specs.Int.{w128, int_rem_euclid}
use Rattle.std.specs.Prelude.{◌≡◌, Bool, cond}
use Rattle.std.proofs.Common.{rules, ap, sym, ◌∙◌, refl}
use mir.Val.{SFits, to_z, of_z}
use Rattle.std.proofs.lemmas.Int.{to_z-of_z}
use lib.IntN.{pos, ◌-ℤ◌, neg_ℤ}
use Rattle.int_cuts.proofs.Remainders.{opposite_none, opposite_rest}
use Rattle.int_cuts.proofs.parts.remainder.Goals as goal

pub returns-then-rest-eq0 : goal.returns-then-rest-eq0
returns-then-rest-eq0 c =
    let fd : SFits w128 c.args.d = c.ranges.d in
    let fe : SFits w128 c.args.e = c.ranges.e in
    let f : SFits w128 c.rem_euclid-rest.result = search rules in
    let z : c.rem_euclid-rest.result ≡ pos 0 = simp to_z-of_z at (ap (to_z w128) c.if-rest-eq0.true) in
    let v : c.rem_euclid-rest.result ≡ int_rem_euclid c.args.e c.args.d = simp to_z-of_z at c.rem_euclid-rest.ensures.value in
    sym (opposite_none c.args.d c.args.e c.requires (sym v ∙ z)) ∙ ap
    (λ (b : Bool). int_rem_euclid (cond b (neg_ℤ c.args.e) c.args.e) c.args.d) (sym c.if-not-opposite.false)

pub returns : goal.returns
returns c =
    let fd : SFits w128 c.args.d = c.ranges.d in
    let fe : SFits w128 c.args.e = c.ranges.e in
    let f : SFits w128 c.rem_euclid-rest.result = search rules in
    let v : c.rem_euclid-rest.result ≡ int_rem_euclid c.args.e c.args.d = simp to_z-of_z at c.rem_euclid-rest.ensures.value in
    let g : SFits w128 (c.args.d -ℤ c.rem_euclid-rest.result) = search rules in
    let r = sym (opposite_rest c.args.d c.args.e c.rem_euclid-rest.result c.requires (sym v) (λ z. c.if-rest-eq0.false (ap (of_z w128) z)))
    ∙ ap (λ (b : Bool). int_rem_euclid (cond b (neg_ℤ c.args.e) c.args.e) c.args.d) (sym c.if-not-opposite.false) in
    let q : to_z w128 (of_z w128 c.args.d) -ℤ to_z w128 (of_z w128 c.rem_euclid-rest.result) ≡ c.args.d -ℤ c.rem_euclid-rest.result = simp to_z-of_z refl in
    ap (λ z. to_z w128 (of_z w128 z)) q ∙ to_z-of_z w128 (c.args.d -ℤ c.rem_euclid-rest.result) g ∙ r
