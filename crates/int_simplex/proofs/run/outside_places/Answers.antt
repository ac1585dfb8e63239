use Rattle.std.specs.Int.{w128}
use Rattle.std.specs.Prelude.{◌+◌, ◌++◌, drop}
use Rattle.std.proofs.Common.{rules, arith, ap, ◌∙◌, get_or, refl}
use Rattle.std.proofs.lemmas.Int.{to_z-of_z}
use mir.Val.{SFits}
use lib.IntN.{pos}
use Rattle.int_simplex.specs.State.{outside_from}
use Rattle.int_simplex.proofs.Places.{listed_at}
use Rattle.int_simplex.proofs.Starts.{outside_in, outside_out, outside_all}
use Rattle.int_simplex.proofs.run.outside_places.Goals as goal
use Rattle.int_simplex.proofs.run.outside_places.Goals.{in-None+in_ok-push-in-None, in-Some}

pub loop-c-preserved : goal.loop-c-preserved
loop-c-preserved c = λ n basis a. elim c.match-seat_of.branch [
  | in-None+in_ok-push-in-None w ↦
      let f0 : SFits w128 (get_or c.args.values.now c.loop-c.c (pos 0, pos 0)).0 = search rules in
      let p = simp to_z-of_z at w.in_ok-push-in-None.ensures.items in
      ap (λ v. v.items ++ outside_from (c.loop-c.c + 1) (drop (c.loop-c.c + 1) c.args.values.now) basis) w.places-is
      ∙ ap (λ xs. xs ++ outside_from (c.loop-c.c + 1) (drop (c.loop-c.c + 1) c.args.values.now) basis) p
      ∙ outside_out c.loop-c.c c.args.values.now basis c.loop-c.places.items (pos 0, pos 0)
      (c.loop-c.c, (get_or c.args.values.now c.loop-c.c (pos 0, pos 0)).0) c.loop-c-test.true
      (w.in-None.ensures n basis a) refl
      ∙ c.loop-c.invariant n basis a
  | in-Some w ↦
      ap (λ v. v.items ++ outside_from (c.loop-c.c + 1) (drop (c.loop-c.c + 1) c.args.values.now) basis) w.places-is
      ∙ outside_in c.loop-c.c c.args.values.now basis c.loop-c.places.items (pos 0, pos 0) c.loop-c-test.true
      (listed_at basis w.in-Some.field-0 c.loop-c.c (w.in-Some.ensures n basis a))
      ∙ c.loop-c.invariant n basis a
]

pub returns : goal.returns
returns c = λ n basis a.
    let h = c.loop-c-test.false in
    outside_all c.loop-c.c c.args.values.now basis c.loop-c.places.items (omega arith) (c.loop-c.invariant n basis a)
