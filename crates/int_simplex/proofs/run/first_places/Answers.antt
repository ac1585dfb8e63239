use Rattle.std.specs.Int.{w128}
use Rattle.std.specs.Prelude.{◌≡◌, ◌+◌, List, None}
use Rattle.std.proofs.Common.{rules, ◌∙◌, sym, subst, get_or, arith}
use Rattle.std.proofs.lemmas.Int.{to_z-of_z}
use mir.Val.{SFits, to_z}
use lib.IntN.{ℤ, pos}
use Rattle.int_simplex.specs.Running.{start_place}
use Rattle.int_simplex.proofs.Places.{listed_at}
use Rattle.int_simplex.proofs.Choices.{limit-is}
use Rattle.int_simplex.proofs.Starts.{AreFirstTo, first_more, first_all, start_in, start_out}
use Rattle.int_simplex.proofs.run.first_places.Goals as goal
use Rattle.int_simplex.proofs.run.first_places.Goals.{in-None, in-Some}

pub loop-c-preserved : goal.loop-c-preserved
loop-c-preserved c = λ n basis s.
    let l = c.requires.lowers in let u = c.requires.uppers in
    let z : to_z w128 c.match-seat_of.z-bits ≡ start_place basis c.args.values.now c.loop-c.c = elim c.match-seat_of.branch [
      | in-None w ↦
          let f0 : SFits w128 (get_or c.args.values.now c.loop-c.c (pos 0, pos 0)).0 = search rules in
          (simp to_z-of_z at w.z-is) ∙ start_out basis c.args.values.now c.loop-c.c (pos 0, pos 0) c.loop-c-test.true (w.in-None.ensures n basis s)
      | in-Some w ↦ w.z-is ∙ start_in basis c.args.values.now c.loop-c.c (listed_at basis w.in-Some.field-0 c.loop-c.c (w.in-Some.ensures n basis s))
    ] in
    let g : SFits w128 c.clamped.result = search rules in
    let p = simp to_z-of_z at c.in_ok-push.ensures.items in
    subst (λ (xs : List ℤ). AreFirstTo basis c.args.values.now c.args.lowers.now c.args.uppers.now xs (c.loop-c.c + 1)) (sym p)
    (first_more basis c.args.values.now c.args.lowers.now c.args.uppers.now c.loop-c.places.items c.loop-c.c
    (to_z w128 c.match-seat_of.z-bits) c.clamped.result _ _ z
    (limit-is c.args.lowers.now c.loop-c.c None (omega (arith, c.loop-c-test.true, l)))
    (limit-is c.args.uppers.now c.loop-c.c None (omega (arith, c.loop-c-test.true, u)))
    c.clamped.ensures (c.loop-c.invariant n basis s))

pub returns : goal.returns
returns c = λ n basis s. first_all basis c.args.values.now c.args.lowers.now c.args.uppers.now c.loop-c.places.items c.loop-c.c
    (let a = c.loop-c.auto.c-end in let b = c.loop-c-test.false in omega arith) (c.loop-c.invariant n basis s)
