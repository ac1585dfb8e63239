use Rattle.std.specs.Int.{w128, int_rem_euclid}
use Rattle.std.specs.Prelude.{◌≡◌, Bool, cond}
use Rattle.std.proofs.Common.{rules, ap, subst, inr}
use mir.Val.{SFits, to_z}
use Rattle.std.proofs.lemmas.Int.{to_z-of_z}
use lib.IntN.{pos, neg_ℤ}
use Rattle.int_cuts.proofs.Steps.{facing_none}
use Rattle.int_cuts.proofs.parts.part_of.Goals as goal

pub returns-then-multiplier-eq0 : goal.returns-then-multiplier-eq0
returns-then-multiplier-eq0 c =
    let f : SFits w128 c.remainder-multiplier.result = search rules in
    let z : c.remainder-multiplier.result ≡ pos 0 = simp to_z-of_z at (ap (to_z w128) c.if-multiplier-eq0.true) in
    let ft : SFits w128 c.args.t.1 = search rules in
    let fd : SFits w128 c.args.d = c.ranges.d in
    let e : c.remainder-multiplier.result ≡ int_rem_euclid (cond c.differs.result (neg_ℤ c.args.t.1) c.args.t.1) c.args.d = simp to_z-of_z
    at c.remainder-multiplier.ensures in
    inr (inr (facing_none c.args.down c.in_ok-upper.upper c.args.d c.args.t c.remainder-multiplier.result c.requires.divisor z
    (subst (λ (b : Bool). c.remainder-multiplier.result ≡ int_rem_euclid (cond b (neg_ℤ c.args.t.1) c.args.t.1) c.args.d) c.differs.ensures e)))
