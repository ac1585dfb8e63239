use Rattle.std.specs.Int.{w128}
use Rattle.std.specs.Prelude.{ℕ, ◌≡◌, ◌≢◌, ◌+◌, Bool, List, length, Contains, slice_set}
use Rattle.std.proofs.Common.{rules, arith, ap, ◌∙◌, sym, subst, get_or}
use Rattle.std.proofs.lemmas.List.{length-set}
use Rattle.std.proofs.lemmas.Option.{slice_get-get_or}
use Rattle.std.proofs.lemmas.Int.{to_z-of_z}
use mir.Val.{SFits}
use lib.IntN.{ℤ, pos}
use Rattle.int_simplex.specs.State.{places_of}
use Rattle.int_simplex.specs.Holding.{lists_of, holders}
use Rattle.int_simplex.specs.Valued.{place_of}
use Rattle.int_simplex.specs.Marks.{AreMarked, ArePlaced}
use Rattle.int_simplex.proofs.Places.{listed_at}
use Rattle.int_simplex.proofs.Holding.{holders_at}
use Rattle.int_simplex.proofs.Touched.{all_below}
use Rattle.int_simplex.proofs.Fresh.{placed_in, placed_out}
use Rattle.int_simplex.proofs.stale.placed.Goals as goal
use Rattle.int_simplex.proofs.stale.placed.Goals.{in-None, in-Some}

pub put_at-requires-clause-list : goal.put_at-requires-clause-list
put_at-requires-clause-list c =
    let l = c.requires.lists in let h = c.loop-c-test.true in let n = c.loop-c.invariant.count in
    let e : c.deref.result.now ≡ holders (lists_of c.args.lists.now) c.loop-c.c =
    c.deref.ensures.value ∙ ap (λ v. v.items) c.index-lists-c.is ∙ sym (holders_at c.args.lists.now c.loop-c.c c.index-lists-c.result (omega arith)) in
    all_below (length c.loop-c.stale.items) c.deref.result.now
    (λ k i. let b = c.requires.within c.loop-c.c k (subst (λ (xs : List ℕ). Contains xs k) e i) in omega arith)

pub loop-c-preserved : goal.loop-c-preserved
loop-c-preserved c = record {
  count = elim c.match-seat_of.branch [
    | in-None w ↦ ap (λ v. length v.items) w.stale-is ∙ w.put_at.ensures.stays.count ∙ c.loop-c.invariant.count
    | in-Some w ↦ ap (λ v. length v.items) w.stale-is ∙ c.loop-c.invariant.count
  ];
  width = elim c.match-seat_of.branch [
    | in-None w ↦ ap (λ v. length v.items) w.values-is ∙ ap length w.put_at.ensures.values
        ∙ length-set c.loop-c.values.items c.loop-c.c _ ∙ c.loop-c.invariant.width
    | in-Some w ↦ ap (λ v. length v.items) w.values-is ∙ c.loop-c.invariant.width
  ];
  placed = λ n basis a. elim c.match-seat_of.branch [
    | in-None w ↦
        let f : SFits w128 (get_or c.args.places.now c.loop-c.c (pos 0)) = search rules in
        let l = c.requires.lists in let h = c.loop-c-test.true in let b = c.loop-c.invariant.width in
        let e : w.deref.result.now ≡ holders (lists_of c.args.lists.now) c.loop-c.c =
        w.deref.ensures.value ∙ ap (λ v. v.items) w.index-lists-c.is
        ∙ sym (holders_at c.args.lists.now c.loop-c.c w.index-lists-c.result (omega arith)) in
        let p : w.put_at.new.values.items ≡ slice_set c.loop-c.values.items c.loop-c.c (get_or c.args.places.now c.loop-c.c (pos 0), pos 1) =
        simp to_z-of_z at w.put_at.ensures.values in
        let m : places_of c.loop-c.values.items c.loop-c.c ≢ get_or c.args.places.now c.loop-c.c (pos 0)
        → AreMarked w.deref.result.now c.loop-c.stale.items w.put_at.new.stale.items = simp to_z-of_z at w.put_at.ensures.moves in
        subst (λ (s : List Bool). ArePlaced basis (lists_of c.args.lists.now) c.args.places.now c.args.values.now.items
        c.match-seat_of.values.items s (c.loop-c.c + 1)) (sym (ap (λ v. v.items) w.stale-is))
        (subst (λ (vs : List (ℤ × ℤ)). ArePlaced basis (lists_of c.args.lists.now) c.args.places.now c.args.values.now.items
        vs w.put_at.new.stale.items (c.loop-c.c + 1)) (sym (ap (λ v. v.items) w.values-is ∙ p))
        (placed_out basis (lists_of c.args.lists.now) c.args.places.now c.args.values.now.items c.loop-c.values.items c.loop-c.stale.items
        w.put_at.new.stale.items c.loop-c.c (get_or c.args.places.now c.loop-c.c (pos 0)) (w.in-None.ensures n basis a) (omega arith)
        (sym (ap place_of (slice_get-get_or c.args.places.now c.loop-c.c (pos 0) h))) w.put_at.ensures.stays
        (λ d. subst (λ (xs : List ℕ). AreMarked xs c.loop-c.stale.items w.put_at.new.stale.items) e (m d)) (c.loop-c.invariant.placed n basis a)))
    | in-Some w ↦
        subst (λ (s : List Bool). ArePlaced basis (lists_of c.args.lists.now) c.args.places.now c.args.values.now.items
        c.match-seat_of.values.items s (c.loop-c.c + 1)) (sym (ap (λ v. v.items) w.stale-is))
        (subst (λ (vs : List (ℤ × ℤ)). ArePlaced basis (lists_of c.args.lists.now) c.args.places.now c.args.values.now.items
        vs c.loop-c.stale.items (c.loop-c.c + 1)) (sym (ap (λ v. v.items) w.values-is))
        (placed_in basis (lists_of c.args.lists.now) c.args.places.now c.args.values.now.items c.loop-c.values.items c.loop-c.stale.items
        c.loop-c.c (listed_at basis w.in-Some.field-0 c.loop-c.c (w.in-Some.ensures n basis a)) (c.loop-c.invariant.placed n basis a)))
  ];
}

pub returns-clause-placed : goal.returns-clause-placed
returns-clause-placed c = λ n basis a.
    let x = c.loop-c.auto.c-end in let b = c.loop-c-test.false in
    let e : c.loop-c.c ≡ length c.args.places.now = omega arith in
    subst (λ (i : ℕ). ArePlaced basis (lists_of c.args.lists.now) c.args.places.now c.args.values.now.items c.loop-c.values.items
    c.loop-c.stale.items i) e (c.loop-c.invariant.placed n basis a)
