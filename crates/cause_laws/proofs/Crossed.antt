-- Runs over bounds that cross. A column with such bounds never enters: outside the basis it stands from its upper bound
-- to its lower one, where it can neither rise nor fall. So its place at the end of the run can stand for both bounds.
use Rattle.std.specs.Prelude.{ℕ, zero, suc, ◌≡◌, ◌≢◌, ◌⊎◌, ◌<◌, ◌^◌, Bool, true, false, List, map, Option, Some, None, Contains}
use Rattle.std.specs.Int.{int_max, int_min}
use Rattle.std.proofs.Common.{sym, ◌∙◌, ap, subst, arith, refl, inl, inr}
use Rattle.std.proofs.lemmas.Int.{ints, by_lt_z}
use lib.IntN.{ℤ, ◌*ℤ◌, *ℤ_comm}
use lib.Signed.{◌≤ℤ◌, ◌<ℤ◌}
use Rattle.proof_steps.specs.StopView.{Beginning}
use Rattle.proof_steps.specs.Rows.{IsBasis, combined}
use Rattle.proof_steps.specs.Pivots.{Position, Pivots, CanPivot, Misses, CanEnter, HasRoom, CanRise, CanFall, first_position, lower, upper, raised, lowered, place_of, bound_on}
use Rattle.bland_laws.specs.Laws.{Leads, LeaveRoom, CanBegin}
use Rattle.bland_laws.proofs.Listed.{either, same-or, kept-in, after-or}
use Rattle.bland_laws.proofs.Orders.{below_times}
use Rattle.bland_laws.proofs.Runs.{runs_end}
use Rattle.cause_laws.proofs.Replaced.{same-some, crossed, Cross, do-cross, leave-room, replaced, put, put-off, bound-on-replaced}

true-false : {X : Type 0} (b : Bool) → b ≡ true → b ≡ false → X
true-false b p q = absurd cc

room-or : (bounds : List (ℕ × Bool × ℤ)) (s : Position) (side : Bool) (e : ℤ) (c : ℕ) → HasRoom bounds s side e c
    → CanFall (lower bounds c) (s.places c) ⊎ CanRise (upper bounds c) (s.places c)
room-or bounds s true e c (inl h) = inl h.1
room-or bounds s true e c (inr h) = inr h.1
room-or bounds s false e c (inl h) = inr h.1
room-or bounds s false e c (inr h) = inl h.1

same-room : (a b : List (ℕ × Bool × ℤ)) (s : Position) (side : Bool) (e : ℤ) (c : ℕ) → lower a c ≡ lower b c → upper a c ≡ upper b c
    → HasRoom a s side e c → HasRoom b s side e c
same-room a b s true e c l u (inl h) = inl (h.0, subst (λ o. CanFall o (s.places c)) l h.1)
same-room a b s true e c l u (inr h) = inr (h.0, subst (λ o. CanRise o (s.places c)) u h.1)
same-room a b s false e c l u (inl h) = inl (h.0, subst (λ o. CanRise o (s.places c)) u h.1)
same-room a b s false e c l u (inr h) = inr (h.0, subst (λ o. CanFall o (s.places c)) l h.1)

module _ (given : List (List (ℕ × ℤ))) (columns : ℕ) (bounds : List (ℕ × Bool × ℤ)) where
  abbrev crosses : ℕ → Bool
  crosses c = crossed (lower bounds c) (upper bounds c)

  cross : (c : ℕ) → crosses c ≡ true → Cross (lower bounds c) (upper bounds c)
  cross c = do-cross (lower bounds c) (upper bounds c)

  -- outside the basis, a column whose bounds cross stands from its upper bound to its lower one
  abbrev StandStill : Position → Type 0
  StandStill s = (c : ℕ) → (¬ Contains s.basis c) → (x : Cross (lower bounds c) (upper bounds c))
      → (x.high ≤ℤ s.places c) × (s.places c ≤ℤ x.low)

  no-room : (s : Position) (side : Bool) (e : ℤ) (c : ℕ) → StandStill s → (¬ Contains s.basis c) → crosses c ≡ true
      → HasRoom bounds s side e c → ⊥
  no-room s side e c still out k h =
      let x = cross c k in
      let w = still c out x in
      let a = w.0 in let b = w.1 in
      elim (room-or bounds s side e c h) [
        | inl f ↦ let m : x.low <ℤ s.places c = subst (λ o. CanFall o (s.places c)) x.is_low f in absurd (omega (arith, ints))
        | inr r ↦ let m : s.places c <ℤ x.high = subst (λ o. CanRise o (s.places c)) x.is_high r in absurd (omega (arith, ints))
      ]

  not-crossing : (u v : Position) (p : Pivots given columns bounds u v) → StandStill u → crosses p.entering ≡ false
  not-crossing u v p still = elim (either (crosses p.entering)) [
    | inl k ↦ absurd (no-room u p.side (combined p.multipliers given p.entering) p.entering still p.enters.outside k p.enters.room)
    | inr n ↦ n
  ]

  out-before : (u v : Position) (p : Pivots given columns bounds u v) (c : ℕ) → c ≢ p.leaving → (¬ Contains v.basis c) → ¬ Contains u.basis c
  out-before u v p c n out i = out (subst (λ (b : List ℕ). Contains b c) (sym p.basis) (kept-in p.leaving p.entering u.basis c i n))

  out-after : (u v : Position) (p : Pivots given columns bounds u v) (c : ℕ) → c ≢ p.entering → (¬ Contains u.basis c) → ¬ Contains v.basis c
  out-after u v p c n out i = elim (after-or p.leaving p.entering u.basis c (subst (λ (b : List ℕ). Contains b c) p.basis i)) [
    | inl e ↦ n e
    | inr t ↦ out t.0
  ]

  left-out : (u v : Position) (p : Pivots given columns bounds u v) → ¬ Contains v.basis p.leaving
  left-out u v p i = elim (after-or p.leaving p.entering u.basis p.leaving (subst (λ (b : List ℕ). Contains b p.leaving) p.basis i)) [
    | inl e ↦ p.enters.outside (subst (λ (c : ℕ). Contains u.basis c) e p.misses.value.row.in_basis)
    | inr t ↦ t.1 refl
  ]

  at-bound : (side : Bool) (c : ℕ) (z : ℤ) → bound_on side bounds c ≡ Some z → (x : Cross (lower bounds c) (upper bounds c))
      → (x.high ≤ℤ z) × (z ≤ℤ x.low)
  at-bound true c z e x =
      let q : x.high ≡ z = same-some x.high z (sym x.is_high ∙ e) in let m = x.above in (omega (arith, ints), omega (arith, ints))
  at-bound false c z e x =
      let q : x.low ≡ z = same-some x.low z (sym x.is_low ∙ e) in let m = x.above in (omega (arith, ints), omega (arith, ints))

  still-after : (u v : Position) (p : Pivots given columns bounds u v) → StandStill u → StandStill v
  still-after u v p still c out x = elim (same-or c p.leaving) [
    | inl e ↦
        let b : bound_on p.side bounds c ≡ Some p.limit = ap (bound_on p.side bounds) e ∙ p.misses.bounded in
        let w = at-bound p.side c p.limit b x in
        let q : p.limit ≡ v.places c = sym (ap v.places e ∙ p.left) in
        subst (λ (z : ℤ). (x.high ≤ℤ z) × (z ≤ℤ x.low)) q w
    | inr n ↦
        let w = still c (out-before u v p c n out) x in
        subst (λ (z : ℤ). (x.high ≤ℤ z) × (z ≤ℤ x.low)) (sym (p.others c n)) w
  ]

  -- it stays where it is
  stays : (c n : ℕ) (u t : Position) → Leads given columns bounds n u t → StandStill u → crosses c ≡ true → (¬ Contains u.basis c)
      → t.places c ≡ u.places c
  stays c zero u t e still k out = ap (λ (p : Position). p.places c) (sym e)
  stays c (suc n) u t (v, p, run) still k out =
      let enters : c ≢ p.entering = λ e. true-false (crosses c) k (ap crosses e ∙ not-crossing u v p still) in
      let leaves : c ≢ p.leaving = λ e. out (subst (λ (x : ℕ). Contains u.basis x) (sym e) p.misses.value.row.in_basis) in
      stays c n v t run (still-after u v p still) k (out-after u v p c enters out) ∙ p.others c leaves

  -- bounds that leave room, by the places at the end
  abbrev by-end : Position → List (ℕ × Bool × ℤ)
  by-end t = map (replaced crosses t.places) bounds

  module _ (t : Position) where
    at-end : (side : Bool) (c : ℕ) → crosses c ≡ true → bound_on side (by-end t) c ≡ Some (t.places c)
    at-end true c k =
        let x = cross c k in
        bound-on-replaced crosses t.places bounds true c
        ∙ ap (λ b. put b (t.places c) (upper bounds c)) k ∙ ap (put true (t.places c)) x.is_high
    at-end false c k =
        let x = cross c k in
        bound-on-replaced crosses t.places bounds false c
        ∙ ap (λ b. put b (t.places c) (lower bounds c)) k ∙ ap (put true (t.places c)) x.is_low

    as-before : (side : Bool) (c : ℕ) → crosses c ≡ false → bound_on side (by-end t) c ≡ bound_on side bounds c
    as-before side c n =
        bound-on-replaced crosses t.places bounds side c
        ∙ ap (λ b. put b (t.places c) (bound_on side bounds c)) n ∙ put-off (t.places c) (bound_on side bounds c)

    leaves-room : LeaveRoom (by-end t)
    leaves-room c l u el eu = elim (either (crosses c)) [
      | inl k ↦
          let a : t.places c ≡ l = same-some (t.places c) l (sym (at-end false c k) ∙ el) in
          let b : t.places c ≡ u = same-some (t.places c) u (sym (at-end true c k) ∙ eu) in
          omega (arith, ints)
      | inr n ↦
          leave-room (lower bounds c) (upper bounds c) n l u (sym (as-before false c n) ∙ el) (sym (as-before true c n) ∙ eu)
    ]

    -- a column of the basis whose bounds cross misses one of them
    misses-one : (s : Position) (y : ℕ) (ms : List ℤ) (x : Cross (lower bounds y) (upper bounds y)) (b : Bool) (z : ℤ)
        → Misses given columns (by-end t) s y b z ms
        → Misses given columns bounds s y false x.low ms ⊎ Misses given columns bounds s y true x.high ms
    misses-one s y ms x b z m = by_lt_z m.top (x.low *ℤ m.bottom)
        (λ l. inl (record { top = m.top; bottom = m.bottom; bounded = x.is_low; value = m.value; past = l }))
        (λ l. inr (record {
          top = m.top;
          bottom = m.bottom;
          bounded = x.is_high;
          value = m.value;
          past =
              let k : (m.bottom *ℤ x.high) <ℤ (m.bottom *ℤ x.low) = below_times m.bottom x.high x.low m.value.positive x.above in
              let e : m.bottom *ℤ x.high ≡ x.high *ℤ m.bottom = *ℤ_comm m.bottom x.high in
              let f : m.bottom *ℤ x.low ≡ x.low *ℤ m.bottom = *ℤ_comm m.bottom x.low in
              omega (arith, ints);
        }))

    -- each pivot on the way to the end is one over these bounds
    module _ (u v : Position) (p : Pivots given columns bounds u v) (n : ℕ) (run : Leads given columns bounds n v t) (still : StandStill u) where
      leaving-bound : bound_on p.side (by-end t) p.leaving ≡ Some p.limit
      leaving-bound = elim (either (crosses p.leaving)) [
        | inl k ↦
            at-end p.side p.leaving k
            ∙ ap (λ z. Some z) (stays p.leaving n v t run (still-after u v p still) k (left-out u v p) ∙ p.left)
        | inr m ↦ as-before p.side p.leaving m ∙ p.misses.bounded
      ]

      none-leaves : (y : ℕ) (b : Bool) (z : ℤ) (ms : List ℤ) → y < p.leaving → ¬ Misses given columns (by-end t) u y b z ms
      none-leaves y b z ms l m = elim (either (crosses y)) [
        | inl k ↦
            let x = cross y k in
            elim (misses-one u y ms x b z m) [
              | inl h ↦ p.least_leaving y false x.low ms l h
              | inr h ↦ p.least_leaving y true x.high ms l h
            ]
        | inr n ↦ p.least_leaving y b z ms l (record {
          top = m.top;
          bottom = m.bottom;
          bounded = sym (as-before b y n) ∙ m.bounded;
          value = m.value;
          past = m.past;
        })
      ]

      none-enters : (c : ℕ) → c < p.entering → ¬ CanEnter given columns (by-end t) u p.side p.multipliers c
      none-enters c l e = elim (either (crosses c)) [
        | inl k ↦
            let q : t.places c ≡ u.places c = stays c (suc n) u t (v, p, run) still k e.outside in
            elim (room-or (by-end t) u p.side (combined p.multipliers given c) c e.room) [
              | inl f ↦
                  let m : t.places c <ℤ u.places c = subst (λ o. CanFall o (u.places c)) (at-end false c k) f in
                  absurd (omega (arith, ints))
              | inr r ↦
                  let m : u.places c <ℤ t.places c = subst (λ o. CanRise o (u.places c)) (at-end true c k) r in
                  absurd (omega (arith, ints))
            ]
        | inr m ↦ p.least_entering c l (record {
          in_range = e.in_range;
          outside = e.outside;
          room = same-room (by-end t) bounds u p.side (combined p.multipliers given c) c (as-before false c m) (as-before true c m) e.room;
        })
      ]

      same-pivot : Pivots given columns (by-end t) u v
      same-pivot = record {
        leaving = p.leaving;
        side = p.side;
        limit = p.limit;
        multipliers = p.multipliers;
        entering = p.entering;
        misses = record { top = p.misses.top; bottom = p.misses.bottom; bounded = leaving-bound; value = p.misses.value; past = p.misses.past };
        least_leaving = none-leaves;
        enters = record {
          in_range = p.enters.in_range;
          outside = p.enters.outside;
          room = let m = not-crossing u v p still in
              same-room bounds (by-end t) u p.side (combined p.multipliers given p.entering) p.entering
              (sym (as-before false p.entering m)) (sym (as-before true p.entering m)) p.enters.room;
        };
        least_entering = none-enters;
        basis = p.basis;
        left = p.left;
        others = p.others;
      }

    same-run : (n : ℕ) (s : Position) → Leads given columns bounds n s t → StandStill s → CanPivot given columns (by-end t) n s
    same-run zero s run still = tt
    same-run (suc n) s (u, p, run) still = (u, same-pivot s u p n run still, same-run n u run (still-after s u p still))

leads : (given : List (List (ℕ × ℤ))) (columns : ℕ) (bounds : List (ℕ × Bool × ℤ)) (n : ℕ) (s : Position)
    → CanPivot given columns bounds n s → (t : Position) × Leads given columns bounds n s t
leads given columns bounds zero s h = (s, refl)
leads given columns bounds (suc n) s h = let w = leads given columns bounds n h.0 h.2 in (w.0, (h.0, h.1, w.1))

moved-in : (lo up : Option ℤ) (z : ℤ) (x : Cross lo up) → lowered up (raised lo z) ≡ x.high
moved-in None up z x = let e = x.is_low in absurd cc
moved-in (Some l) None z x = let e = x.is_high in absurd cc
moved-in (Some l) (Some u) z x =
    let a : l ≡ x.low = same-some l x.low x.is_low in
    let b : u ≡ x.high = same-some u x.high x.is_high in
    let k = x.above in
    let m : l ≤ℤ int_max l z = grind (arith, ints) in
    let n : int_min u (int_max l z) ≡ u = grind (arith, ints) in
    omega (arith, ints)

moved-above : (lo up : Option ℤ) (l z : ℤ) → crossed lo up ≡ false → lo ≡ Some l → l ≤ℤ lowered up (raised lo z)
moved-above None up l z n e = absurd cc
moved-above (Some k) None l z n e =
    let q : k ≡ l = same-some k l e in let m : k ≤ℤ int_max k z = grind (arith, ints) in omega (arith, ints)
moved-above (Some k) (Some u) l z n e =
    let q : k ≡ l = same-some k l e in
    let r : k ≤ℤ u = leave-room (Some k) (Some u) n k u refl refl in
    let m : k ≤ℤ int_min u (int_max k z) = grind (arith, ints) in
    omega (arith, ints)

moved-below : (up : Option ℤ) (u z : ℤ) → up ≡ Some u → lowered up z ≤ℤ u
moved-below None u z e = absurd cc
moved-below (Some k) u z e =
    let q : k ≡ u = same-some k u e in let m : int_min k z ≤ℤ k = grind (arith, ints) in omega (arith, ints)

-- a check makes fewer pivots than 3 to the power of the columns, whatever its bounds
module _ (given : List (List (ℕ × ℤ))) (columns : ℕ) (b : Beginning) (h : IsBasis given columns b.basis) where
  still-first : StandStill given columns b.bounds (first_position b)
  still-first c out x =
      let e : lowered (upper b.bounds c) (raised (lower b.bounds c) (place_of b.places c)) ≡ x.high =
      moved-in (lower b.bounds c) (upper b.bounds c) (place_of b.places c) x in
      let m = x.above in (omega (arith, ints), omega (arith, ints))

  begins : (n : ℕ) (t : Position) → Leads given columns b.bounds n (first_position b) t
      → CanBegin given columns (by-end given columns b.bounds t) (first_position b)
  begins n t run = record {
    basis = h;
    within = λ c k out. elim (either (crosses given columns b.bounds c)) [
      | inl x ↦
          let q : t.places c ≡ (first_position b).places c = stays given columns b.bounds c n (first_position b) t run still-first x out in
          record {
            from_below = λ l e.
                let a : t.places c ≡ l = same-some (t.places c) l (sym (at-end given columns b.bounds t false c x) ∙ e) in omega (arith, ints);
            from_above = λ u e.
                let a : t.places c ≡ u = same-some (t.places c) u (sym (at-end given columns b.bounds t true c x) ∙ e) in omega (arith, ints);
          }
      | inr m ↦ record {
        from_below = λ l e.
            moved-above (lower b.bounds c) (upper b.bounds c) l (place_of b.places c) m (sym (as-before given columns b.bounds t false c m) ∙ e);
        from_above = λ u e.
            moved-below (upper b.bounds c) u (raised (lower b.bounds c) (place_of b.places c)) (sym (as-before given columns b.bounds t true c m) ∙ e);
      }
    ];
  }

  pub checks-end : (n : ℕ) → CanPivot given columns b.bounds n (first_position b) → n < 3 ^ columns
  checks-end n can =
      let w = leads given columns b.bounds n (first_position b) can in
      runs_end given columns (by-end given columns b.bounds w.0) (leaves-room given columns b.bounds w.0) n (first_position b)
      (begins n w.0 w.1) (same-run given columns b.bounds w.0 n (first_position b) w.1 still-first)
