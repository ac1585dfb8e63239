use Rattle.std.specs.Int.{w128}
use Rattle.std.specs.Prelude.{ℕ, ◌≡◌, ◌<◌, ◌++◌, ◌∷◌, [], Bool, List, All, map, true, false, slice_set}
use Rattle.std.proofs.Common.{ap, ◌∙◌, sym, subst, arith, refl}
use Rattle.std.proofs.lemmas.Int.{to_z-of_z}
use Rattle.std.proofs.lemmas.List.{map-append}
use mir.Val.{SFits}
use lib.IntN.{ℤ, pos}
use Rattle.proof_steps.specs.Meaning.{as_said}
use Rattle.int_simplex.specs.declared.table.Asserted.{Asserted}
use Rattle.int_simplex.specs.State.{Standing, State}
use Rattle.int_simplex.specs.Answers.{a_bound}
use Rattle.int_simplex.specs.Bounds.{tightest, crosses, is_across}
use Rattle.int_simplex.specs.Refuting.{literal_in}
use Rattle.int_simplex.specs.Farkas.{Refutes}
use Rattle.int_simplex.specs.Sound.{IsUncrossed}
use Rattle.int_simplex.specs.Inner.{standing, state_of}
use Rattle.int_simplex.proofs.Asserts.{crossing_refutes, uncrossed_more, all_more}
use Rattle.int_simplex.proofs.Settled.{sound_bounds, assert_upper, assert_lower, read_limit, IsAssertedTo}
use Rattle.int_simplex.proofs.table.Tableau.assert_bound.Goals as goal
use Rattle.int_simplex.proofs.table.Tableau.assert_bound.Goals.{then-upper, else-upper, then-upper-2, else-upper-2}

pub returns-then-is_across : goal.returns-then-is_across
returns-then-is_across c =
    let fb : SFits w128 c.args.bound = c.ranges.bound in
    let i = c.self.invariant in
    let v = c.self.view_is in
    let n : c.self.inside.columns ≡ c.args.self.now.columns = ap (λ s. s.columns) v in
    let r = c.requires.in_range in
    let h : c.args.column < c.self.inside.columns = omega arith in
    let bs = map standing c.self.inside.trail.items in
    let low : c.index-low.result.now ≡ tightest (map standing c.self.inside.trail.items) c.args.column false =
    read_limit c.self.inside.columns false (map standing c.self.inside.trail.items) c.self.inside.lowers.items c.args.column
    c.index-low.result.now i.lowers h c.index-low.ensures in
    let high : c.index-high.result.now ≡ tightest (map standing c.self.inside.trail.items) c.args.column true =
    read_limit c.self.inside.columns true (map standing c.self.inside.trail.items) c.self.inside.uppers.items c.args.column
    c.index-high.result.now i.uppers h c.index-high.ensures in
    let other : c.if-upper.same.1 ≡ tightest (map standing c.self.inside.trail.items) c.args.column (as_said c.args.upper false) = elim c.if-upper.branch [
      | then-upper w ↦ ap (λ p. p.1) w.same-is ∙ low ∙ ap (λ (b : Bool). tightest (map standing c.self.inside.trail.items) c.args.column
          (as_said b false)) (sym w.if-upper.true)
      | else-upper w ↦ ap (λ p. p.1) w.same-is ∙ high ∙ ap (λ (b : Bool). tightest (map standing c.self.inside.trail.items) c.args.column
          (as_said b false)) (sym w.if-upper.false)
    ] in
    let x = simp to_z-of_z at c.is_across.ensures in
    let y : crosses (map standing c.self.inside.trail.items) (a_bound c.args.column c.args.upper c.args.bound c.args.literal) ≡ true =
    ap (is_across c.args.upper c.args.bound) (sym other) ∙ sym x ∙ c.if-is_across.true in
    let f : c.literal_of-first.result ≡ literal_in (tightest (map standing c.self.inside.trail.items) c.args.column (as_said c.args.upper false)) =
    c.literal_of-first.ensures ∙ ap literal_in other in
    let z = crossing_refutes (state_of c.self.inside).given (map standing c.self.inside.trail.items)
    (a_bound c.args.column c.args.upper c.args.bound c.args.literal) c.literal_of-first.result y f in (
      ap (λ (s : State). crosses s.bounds (a_bound c.args.column c.args.upper c.args.bound c.args.literal)) (sym v) ∙ y,
      subst (λ (ps : List (ℤ × ℕ)). Refutes c.args.self.now.given (c.args.self.now.bounds
          ++ a_bound c.args.column c.args.upper c.args.bound c.args.literal ∷ []) ps) (sym c.in_ok-parts.ensures.items)
          (subst (λ (s : State). Refutes s.given (s.bounds ++ a_bound c.args.column c.args.upper c.args.bound c.args.literal ∷ [])
          ((pos 1, c.literal_of-first.result) ∷ (pos 1, c.args.literal) ∷ [])) v z),
      refl,
    )

pub invariant_of-self-then-upper-2 : goal.invariant_of-self-then-upper-2
invariant_of-self-then-upper-2 c =
    let fb : SFits w128 c.args.bound = c.ranges.bound in
    let i = c.self.invariant in
    let v = c.self.view_is in
    let n : c.self.inside.columns ≡ c.args.self.now.columns = ap (λ s. s.columns) v in
    let r = c.requires.in_range in
    let h : c.args.column < c.self.inside.columns = omega arith in
    let low : c.index-low.result.now ≡ tightest (map standing c.self.inside.trail.items) c.args.column false =
    read_limit c.self.inside.columns false (map standing c.self.inside.trail.items) c.self.inside.lowers.items c.args.column
    c.index-low.result.now i.lowers h c.index-low.ensures in
    let high : c.index-high.result.now ≡ tightest (map standing c.self.inside.trail.items) c.args.column true =
    read_limit c.self.inside.columns true (map standing c.self.inside.trail.items) c.self.inside.uppers.items c.args.column
    c.index-high.result.now i.uppers h c.index-high.ensures in
    let other : c.if-upper.same.1 ≡ tightest (map standing c.self.inside.trail.items) c.args.column (as_said c.args.upper false) = elim c.if-upper.branch [
      | then-upper w ↦ ap (λ p. p.1) w.same-is ∙ low ∙ ap (λ (b : Bool). tightest (map standing c.self.inside.trail.items) c.args.column
          (as_said b false)) (sym w.if-upper.true)
      | else-upper w ↦ ap (λ p. p.1) w.same-is ∙ high ∙ ap (λ (b : Bool). tightest (map standing c.self.inside.trail.items) c.args.column
          (as_said b false)) (sym w.if-upper.false)
    ] in
    let same : c.if-upper.same.0 ≡ tightest (map standing c.self.inside.trail.items) c.args.column c.args.upper = elim c.if-upper.branch [
      | then-upper w ↦ ap (λ p. p.0) w.same-is ∙ high ∙ ap (λ (b : Bool). tightest (map standing c.self.inside.trail.items) c.args.column b)
          (sym w.if-upper.true)
      | else-upper w ↦ ap (λ p. p.0) w.same-is ∙ low ∙ ap (λ (b : Bool). tightest (map standing c.self.inside.trail.items) c.args.column b)
          (sym w.if-upper.false)
    ] in
    let x = simp to_z-of_z at c.is_across.ensures in
    let y : crosses (map standing c.self.inside.trail.items) (a_bound c.args.column c.args.upper c.args.bound c.args.literal) ≡ false =
    ap (is_across c.args.upper c.args.bound) (sym other) ∙ sym x ∙ c.if-is_across.false in
    let a : Asserted = record { column = c.args.column; upper = c.args.upper; limit = c.args.bound; literal = c.args.literal; before = c.if-upper.same.0 } in
    let p : c.push.new.self.items ≡ c.self.inside.trail.items ++ record
    { column = c.args.column; upper = c.args.upper; limit = c.args.bound; literal = c.args.literal; before = c.if-upper.same.0 } ∷ []
    = simp to_z-of_z at c.in_ok-push.ensures.items in
    let k = simp to_z-of_z at c.tighter-kept.ensures in
    let t = assert_upper c.self.inside.columns c.self.inside.trail.items
    (record {
      column = c.args.column;
      upper = c.args.upper;
      limit = c.args.bound;
      literal = c.args.literal;
      before = c.if-upper.same.0;
    })
    c.self.inside.lowers.items c.self.inside.uppers.items
    record { lowers = i.lowers; uppers = i.uppers; before = i.before; columns_within = i.columns } h same c.tighter-kept.result k c.if-upper-2.true in
    let e : map standing c.push.new.self.items ≡ map standing c.self.inside.trail.items ++ a_bound c.args.column c.args.upper c.args.bound c.args.literal ∷ [] =
    ap (map standing) p ∙ map-append standing c.self.inside.trail.items
    (record { column = c.args.column; upper = c.args.upper; limit = c.args.bound; literal = c.args.literal; before = c.if-upper.same.0 }
    ∷ []) in
    let q = subst (λ (xs : List Asserted). IsAssertedTo c.self.inside.columns xs c.self.inside.lowers.items
    (slice_set c.self.inside.uppers.items c.args.column c.tighter-kept.result)) (sym p) t in
    record {
      sound = λ u. let s = i.sound u in
          sound_bounds (state_of c.self.inside) (map standing c.push.new.self.items) s
          (subst (λ (bs : List Standing). All (λ (b : Standing). b.column < c.self.inside.columns) bs) (sym e)
          (all_more (λ (b : Standing). b.column < c.self.inside.columns) (map standing c.self.inside.trail.items)
          (a_bound c.args.column c.args.upper c.args.bound c.args.literal) s.of_columns h))
          (subst IsUncrossed (sym e) (uncrossed_more (map standing c.self.inside.trail.items)
          (a_bound c.args.column c.args.upper c.args.bound c.args.literal) y s.uncrossed));
      rows = i.rows;
      free = i.free;
      listed = i.listed;
      seats = i.seats;
      own = i.own;
      lowers = q.lowers;
      uppers = q.uppers;
      before = q.before;
      columns = q.columns_within;
    }

pub invariant_of-self-else-upper-2 : goal.invariant_of-self-else-upper-2
invariant_of-self-else-upper-2 c =
    let fb : SFits w128 c.args.bound = c.ranges.bound in
    let i = c.self.invariant in
    let v = c.self.view_is in
    let n : c.self.inside.columns ≡ c.args.self.now.columns = ap (λ s. s.columns) v in
    let r = c.requires.in_range in
    let h : c.args.column < c.self.inside.columns = omega arith in
    let low : c.index-low.result.now ≡ tightest (map standing c.self.inside.trail.items) c.args.column false =
    read_limit c.self.inside.columns false (map standing c.self.inside.trail.items) c.self.inside.lowers.items c.args.column
    c.index-low.result.now i.lowers h c.index-low.ensures in
    let high : c.index-high.result.now ≡ tightest (map standing c.self.inside.trail.items) c.args.column true =
    read_limit c.self.inside.columns true (map standing c.self.inside.trail.items) c.self.inside.uppers.items c.args.column
    c.index-high.result.now i.uppers h c.index-high.ensures in
    let other : c.if-upper.same.1 ≡ tightest (map standing c.self.inside.trail.items) c.args.column (as_said c.args.upper false) = elim c.if-upper.branch [
      | then-upper w ↦ ap (λ p. p.1) w.same-is ∙ low ∙ ap (λ (b : Bool). tightest (map standing c.self.inside.trail.items) c.args.column
          (as_said b false)) (sym w.if-upper.true)
      | else-upper w ↦ ap (λ p. p.1) w.same-is ∙ high ∙ ap (λ (b : Bool). tightest (map standing c.self.inside.trail.items) c.args.column
          (as_said b false)) (sym w.if-upper.false)
    ] in
    let same : c.if-upper.same.0 ≡ tightest (map standing c.self.inside.trail.items) c.args.column c.args.upper = elim c.if-upper.branch [
      | then-upper w ↦ ap (λ p. p.0) w.same-is ∙ high ∙ ap (λ (b : Bool). tightest (map standing c.self.inside.trail.items) c.args.column b)
          (sym w.if-upper.true)
      | else-upper w ↦ ap (λ p. p.0) w.same-is ∙ low ∙ ap (λ (b : Bool). tightest (map standing c.self.inside.trail.items) c.args.column b)
          (sym w.if-upper.false)
    ] in
    let x = simp to_z-of_z at c.is_across.ensures in
    let y : crosses (map standing c.self.inside.trail.items) (a_bound c.args.column c.args.upper c.args.bound c.args.literal) ≡ false =
    ap (is_across c.args.upper c.args.bound) (sym other) ∙ sym x ∙ c.if-is_across.false in
    let a : Asserted = record { column = c.args.column; upper = c.args.upper; limit = c.args.bound; literal = c.args.literal; before = c.if-upper.same.0 } in
    let p : c.push.new.self.items ≡ c.self.inside.trail.items ++ record
    { column = c.args.column; upper = c.args.upper; limit = c.args.bound; literal = c.args.literal; before = c.if-upper.same.0 } ∷ []
    = simp to_z-of_z at c.in_ok-push.ensures.items in
    let k = simp to_z-of_z at c.tighter-kept.ensures in
    let t = assert_lower c.self.inside.columns c.self.inside.trail.items
    (record {
      column = c.args.column;
      upper = c.args.upper;
      limit = c.args.bound;
      literal = c.args.literal;
      before = c.if-upper.same.0;
    })
    c.self.inside.lowers.items c.self.inside.uppers.items
    record { lowers = i.lowers; uppers = i.uppers; before = i.before; columns_within = i.columns } h same c.tighter-kept.result k c.if-upper-2.false in
    let e : map standing c.push.new.self.items ≡ map standing c.self.inside.trail.items ++ a_bound c.args.column c.args.upper c.args.bound c.args.literal ∷ [] =
    ap (map standing) p ∙ map-append standing c.self.inside.trail.items
    (record { column = c.args.column; upper = c.args.upper; limit = c.args.bound; literal = c.args.literal; before = c.if-upper.same.0 }
    ∷ []) in
    let q = subst (λ (xs : List Asserted). IsAssertedTo c.self.inside.columns xs
    (slice_set c.self.inside.lowers.items c.args.column c.tighter-kept.result) c.self.inside.uppers.items) (sym p) t in
    record {
      sound = λ u. let s = i.sound u in
          sound_bounds (state_of c.self.inside) (map standing c.push.new.self.items) s
          (subst (λ (bs : List Standing). All (λ (b : Standing). b.column < c.self.inside.columns) bs) (sym e)
          (all_more (λ (b : Standing). b.column < c.self.inside.columns) (map standing c.self.inside.trail.items)
          (a_bound c.args.column c.args.upper c.args.bound c.args.literal) s.of_columns h))
          (subst IsUncrossed (sym e) (uncrossed_more (map standing c.self.inside.trail.items)
          (a_bound c.args.column c.args.upper c.args.bound c.args.literal) y s.uncrossed));
      rows = i.rows;
      free = i.free;
      listed = i.listed;
      seats = i.seats;
      own = i.own;
      lowers = q.lowers;
      uppers = q.uppers;
      before = q.before;
      columns = q.columns_within;
    }

pub returns : goal.returns
returns c =
    let fb : SFits w128 c.args.bound = c.ranges.bound in
    let i = c.self.invariant in
    let v = c.self.view_is in
    let n : c.self.inside.columns ≡ c.args.self.now.columns = ap (λ s. s.columns) v in
    let r = c.requires.in_range in
    let h : c.args.column < c.self.inside.columns = omega arith in
    let low : c.index-low.result.now ≡ tightest (map standing c.self.inside.trail.items) c.args.column false =
    read_limit c.self.inside.columns false (map standing c.self.inside.trail.items) c.self.inside.lowers.items c.args.column
    c.index-low.result.now i.lowers h c.index-low.ensures in
    let high : c.index-high.result.now ≡ tightest (map standing c.self.inside.trail.items) c.args.column true =
    read_limit c.self.inside.columns true (map standing c.self.inside.trail.items) c.self.inside.uppers.items c.args.column
    c.index-high.result.now i.uppers h c.index-high.ensures in
    let other : c.if-upper.same.1 ≡ tightest (map standing c.self.inside.trail.items) c.args.column (as_said c.args.upper false) = elim c.if-upper.branch [
      | then-upper w ↦ ap (λ p. p.1) w.same-is ∙ low ∙ ap (λ (b : Bool). tightest (map standing c.self.inside.trail.items) c.args.column
          (as_said b false)) (sym w.if-upper.true)
      | else-upper w ↦ ap (λ p. p.1) w.same-is ∙ high ∙ ap (λ (b : Bool). tightest (map standing c.self.inside.trail.items) c.args.column
          (as_said b false)) (sym w.if-upper.false)
    ] in
    let same : c.if-upper.same.0 ≡ tightest (map standing c.self.inside.trail.items) c.args.column c.args.upper = elim c.if-upper.branch [
      | then-upper w ↦ ap (λ p. p.0) w.same-is ∙ high ∙ ap (λ (b : Bool). tightest (map standing c.self.inside.trail.items) c.args.column b)
          (sym w.if-upper.true)
      | else-upper w ↦ ap (λ p. p.0) w.same-is ∙ low ∙ ap (λ (b : Bool). tightest (map standing c.self.inside.trail.items) c.args.column b)
          (sym w.if-upper.false)
    ] in
    let x = simp to_z-of_z at c.is_across.ensures in
    let y : crosses (map standing c.self.inside.trail.items) (a_bound c.args.column c.args.upper c.args.bound c.args.literal) ≡ false =
    ap (is_across c.args.upper c.args.bound) (sym other) ∙ sym x ∙ c.if-is_across.false in
    let a : Asserted = record { column = c.args.column; upper = c.args.upper; limit = c.args.bound; literal = c.args.literal; before = c.if-upper.same.0 } in
    let p : c.push.new.self.items ≡ c.self.inside.trail.items ++ record
    { column = c.args.column; upper = c.args.upper; limit = c.args.bound; literal = c.args.literal; before = c.if-upper.same.0 } ∷ []
    = simp to_z-of_z at c.in_ok-push.ensures.items in
    let e : map standing c.push.new.self.items ≡ map standing c.self.inside.trail.items ++ a_bound c.args.column c.args.upper c.args.bound c.args.literal ∷ [] =
    ap (map standing) p ∙ map-append standing c.self.inside.trail.items
    (record { column = c.args.column; upper = c.args.upper; limit = c.args.bound; literal = c.args.literal; before = c.if-upper.same.0 }
    ∷ []) in
    let z = (ap (λ (bs : List Standing). let s : State = record {
      given = (state_of c.self.inside).given;
      columns = c.self.inside.columns;
      basis = c.self.inside.basis.items;
      values = c.self.inside.values.items;
      bounds = bs;
      usable = c.self.inside.usable;
    } in s) e
    ∙ ap (λ (s : State). let t : State = record {
      given = s.given;
      columns = s.columns;
      basis = s.basis;
      values = s.values;
      bounds = s.bounds ++ a_bound c.args.column c.args.upper c.args.bound c.args.literal ∷ [];
      usable = s.usable;
    } in t) v) in (
      ap (λ (s : State). crosses s.bounds (a_bound c.args.column c.args.upper c.args.bound c.args.literal)) (sym v) ∙ y,
      elim c.if-upper-2.branch [
        | then-upper-2 w ↦ w.self-is ∙ z
        | else-upper-2 w ↦ w.self-is ∙ z
      ],
    )
