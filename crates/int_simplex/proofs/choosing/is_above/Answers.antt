use Rattle.std.specs.Int.{w128}
use Rattle.std.specs.Prelude.{◌≡◌, ◌≢◌, Bool, true, false, not, ◌==◌}
use Rattle.std.proofs.Common.{rules, arith, ap, refl}
use mir.Val.{SFits, to_z, of_z}
use lib.IntN.{ℤ}
use lib.Signed.{lt_z, ◌<ℤ◌, ◌≤ℤ◌}
use Rattle.std.proofs.lemmas.Int.{to_z-of_z, ints, by_lt_z}
use Rattle.kind_num.specs.Division.{IsFloor}
use Rattle.int_simplex.proofs.Sparse.{same_if, other_if}
use Rattle.int_simplex.proofs.Floors.{above_low, above_equal, not_above_high, not_above_whole, whether, is_below, not_below, both_ways}
use Rattle.int_simplex.proofs.choosing.is_above.Goals as goal

flip-true : (b : Bool) → not b ≡ true → b ≡ false
flip-true true e = absurd cc
flip-true false e = refl

flip-false : (b : Bool) → not b ≡ false → b ≡ true
flip-false true e = refl
flip-false false e = absurd cc

pub returns-then-limit-floor : goal.returns-then-limit-floor
returns-then-limit-floor c =
    let fl : SFits w128 c.args.limit = c.ranges.limit in
    let ff : SFits w128 c.floor_of-floor.result = search rules in
    let f0 : SFits w128 c.args.v.0 = search rules in
    let f1 : SFits w128 c.args.v.1 = search rules in
    let w : IsFloor c.args.v.0 c.args.v.1 c.floor_of-floor.result = c.floor_of-floor.ensures in
    let t = simp to_z-of_z at c.if-limit-floor.true in
    simp to_z-of_z (whether (lt_z c.args.limit c.floor_of-floor.result)
    (λ e. above_low c.args.v.0 c.args.v.1 c.floor_of-floor.result c.args.limit c.requires w (is_below c.args.limit c.floor_of-floor.result e))
    (λ e. absurd (both_ways (lt_z c.args.limit c.floor_of-floor.result) t e)))

pub returns-then-limit-floor-2 : goal.returns-then-limit-floor-2
returns-then-limit-floor-2 c =
    let fl : SFits w128 c.args.limit = c.ranges.limit in
    let ff : SFits w128 c.floor_of-floor.result = search rules in
    let f0 : SFits w128 c.args.v.0 = search rules in
    let f1 : SFits w128 c.args.v.1 = search rules in
    let w : IsFloor c.args.v.0 c.args.v.1 c.floor_of-floor.result = c.floor_of-floor.ensures in
    let q : c.args.limit ≡ c.floor_of-floor.result = simp to_z-of_z at (ap (to_z w128) c.if-limit-floor-2.true) in
    whether (not (of_z w128 c.args.v.1 == 1))
    (λ e. above_equal c.args.v.0 c.args.v.1 c.floor_of-floor.result c.args.limit c.requires w q
    (λ o. other_if (of_z w128 c.args.v.1) 1 (flip-true (of_z w128 c.args.v.1 == 1) e) (ap (of_z w128) o)))
    (λ e. not_above_whole c.args.v.0 c.args.v.1 c.floor_of-floor.result c.args.limit c.requires w q
    (simp to_z-of_z at (ap (to_z w128) (same_if (of_z w128 c.args.v.1) 1 (flip-false (of_z w128 c.args.v.1 == 1) e)))))

pub returns-else-limit-floor-2 : goal.returns-else-limit-floor-2
returns-else-limit-floor-2 c =
    let fl : SFits w128 c.args.limit = c.ranges.limit in
    let ff : SFits w128 c.floor_of-floor.result = search rules in
    let f0 : SFits w128 c.args.v.0 = search rules in
    let f1 : SFits w128 c.args.v.1 = search rules in
    let w : IsFloor c.args.v.0 c.args.v.1 c.floor_of-floor.result = c.floor_of-floor.ensures in
    let l = not_below c.args.limit c.floor_of-floor.result (simp to_z-of_z at c.if-limit-floor.false) in
    let n : c.args.limit ≢ c.floor_of-floor.result = λ e. c.if-limit-floor-2.false (ap (of_z w128) e) in
    whether (of_z w128 c.args.limit == of_z w128 c.floor_of-floor.result)
    (λ e. absurd (c.if-limit-floor-2.false (same_if (of_z w128 c.args.limit) (of_z w128 c.floor_of-floor.result) e)))
    (λ e. not_above_high c.args.v.0 c.args.v.1 c.floor_of-floor.result c.args.limit c.requires w (strict c.floor_of-floor.result c.args.limit l n))
  where
    strict : (a b : ℤ) → a ≤ℤ b → (b ≡ a → ⊥) → a <ℤ b
    strict a b l n = by_lt_z a b (λ m. m) (λ m. absurd (n (omega (arith, ints))))
