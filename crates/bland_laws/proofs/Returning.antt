-- The greatest column that moves cannot come back: where it enters, the column that leaves would have missed its bound
-- where the greatest one left, though it is less (R. G. Bland, New finite pivoting rules for the simplex method, 1977).
use Rattle.std.specs.Prelude.{ℕ, ◌≡◌, ◌≢◌, ◌⊎◌, ◌<◌, Bool, true, false, List, Option, None, Some, Contains}
use Rattle.std.proofs.Common.{sym, ◌∙◌, ap, subst, arith, refl, inl, inr}
use Rattle.std.proofs.lemmas.Int.{ints, by_lt_z}
use lib.IntN.{ℤ, pos, negsuc, ◌+ℤ◌, ◌*ℤ◌, neg_ℤ, *ℤ_comm}
use lib.Signed.{◌≤ℤ◌, ◌<ℤ◌}
use Rattle.kind_num.proofs.Ring.{neg_times, times_neg}
use Rattle.proof_steps.specs.Rows.{combined, IsBasis, HasValue, rest_below}
use Rattle.proof_steps.specs.Pivots.{Position, Pivots, HasRoom, CanRise, CanFall, IsPast, bound_on, lower, upper}
use Rattle.bland_laws.specs.Laws.{CanBegin}
use Rattle.bland_laws.proofs.Listed.{listed-or, at-all}
use Rattle.bland_laws.proofs.Free.{own_row}
use Rattle.bland_laws.proofs.Coprime.{turned_row}
use Rattle.bland_laws.proofs.Sums.{sum_below, sum_apart, rest_scaled, rest_at_most}
use Rattle.bland_laws.proofs.Points.{IsPoint, point_of, value_there}
use Rattle.bland_laws.proofs.Orders.{at_most_times, below_times, below_from_times, turned_about, same_past, entry_times}

in-range : (given : List (List (ℕ × ℤ))) (columns : ℕ) (basis : List ℕ) → IsBasis given columns basis → (c : ℕ) → Contains basis c → c < columns
in-range given columns basis h c i = at-all (λ k. k < columns) basis c h.in_range i

point : (given : List (List (ℕ × ℤ))) (columns : ℕ) (basis : List ℕ) (places : ℕ → ℤ) → IsBasis given columns basis
    → IsPoint given columns basis places
point given columns basis places h = point_of given columns basis places (in-range given columns basis h)
    (λ x i. let r = h.rows x i in let t = turned_row given basis x r.0 r.1 in (t.0, t.1, own_row given basis x t.0 t.2, t.3, t.4))
    h.count h.different

-- an entry as it counts for a column that misses its lower bound, and turned for one that misses its upper one
abbrev turn : Bool → ℤ → ℤ
turn true e = neg_ℤ e
turn false e = e

room-by : (bounds : List (ℕ × Bool × ℤ)) (s : Position) (side : Bool) (e : ℤ) (c : ℕ)
    → ((pos 0 <ℤ turn side e) × CanRise (upper bounds c) (s.places c)) ⊎ ((turn side e <ℤ pos 0) × CanFall (lower bounds c) (s.places c))
    → HasRoom bounds s side e c
room-by bounds s true e c (inl h) = inr (let l = h.0 in omega (arith, ints), h.1)
room-by bounds s true e c (inr h) = inl (let l = h.0 in omega (arith, ints), h.1)
room-by bounds s false e c h = h

by-room : (bounds : List (ℕ × Bool × ℤ)) (s : Position) (side : Bool) (e : ℤ) (c : ℕ) → HasRoom bounds s side e c
    → ((pos 0 <ℤ turn side e) × CanRise (upper bounds c) (s.places c)) ⊎ ((turn side e <ℤ pos 0) × CanFall (lower bounds c) (s.places c))
by-room bounds s true e c (inl h) = inr (let l = h.0 in omega (arith, ints), h.1)
by-room bounds s true e c (inr h) = inl (let l = h.0 in omega (arith, ints), h.1)
by-room bounds s false e c h = h

not-below : (a b : ℤ) → (¬ (a <ℤ b)) → b ≤ℤ a
not-below a b n = by_lt_z a b (λ l. absurd (n l)) (λ l. l)

-- at p the column r leaves, and at q it enters, while it stands where it came to at p
module _ (given : List (List (ℕ × ℤ))) (columns : ℕ) (bounds : List (ℕ × Bool × ℤ)) (p p' q q' : Position)
    (begun : CanBegin given columns bounds p) (basis : IsBasis given columns q.basis)
    (goes : Pivots given columns bounds p p') (comes : Pivots given columns bounds q q')
    (less : comes.leaving < goes.leaving) (same : comes.entering ≡ goes.leaving) (place : q.places goes.leaving ≡ goes.limit)
    (greater : (c : ℕ) → goes.leaving < c → (¬ Contains q.basis c) → (¬ Contains p.basis c) × (p.places c ≡ q.places c)) where
  at-p : IsPoint given columns p.basis p.places
  at-p = point given columns p.basis p.places begun.basis

  -- what is less than r misses no bound at p
  not-past : (pt : IsPoint given columns p.basis p.places) (c : ℕ) (side : Bool) (z : ℤ) → c < goes.leaving → c < columns
      → bound_on side bounds c ≡ Some z → ¬ IsPast side z (pt.tops c) pt.scale
  not-past pt c side z l k e h = elim (listed-or p.basis c) [
    | inl i ↦
        let r = begun.basis.rows c i in
        let t = turned_row given p.basis c r.0 r.1 in
        let v : HasValue given columns p.basis p.places c t.0 (rest_below (combined t.0 given) p.places c columns) t.1 =
        record { row = t.2; positive = t.3; denominator = t.4; numerator = refl } in
        goes.least_leaving c side z t.0 l (record {
          top = rest_below (combined t.0 given) p.places c columns;
          bottom = t.1;
          bounded = e;
          value = v;
          past = same_past side z (pt.tops c) pt.scale (rest_below (combined t.0 given) p.places c columns) t.1 pt.positive t.3
              (value_there given columns p.basis p.places c t.0 (rest_below (combined t.0 given) p.places c columns) t.1 k pt v) h;
        })
    | inr f ↦ outside side e h f
  ] where
    outside : (side : Bool) → bound_on side bounds c ≡ Some z → IsPast side z (pt.tops c) pt.scale → (¬ Contains p.basis c) → ⊥
    outside true e h f =
        let w : p.places c ≤ℤ z = (begun.within c k f).from_above z e in
        let m : (pt.scale *ℤ p.places c) ≤ℤ (pt.scale *ℤ z) = at_most_times pt.scale (p.places c) z pt.positive w in
        let t : pt.tops c ≡ pt.scale *ℤ p.places c = pt.outside c f in
        let s : pt.scale *ℤ z ≡ z *ℤ pt.scale = *ℤ_comm pt.scale z in
        absurd (omega (arith, ints))
    outside false e h f =
        let w : z ≤ℤ p.places c = (begun.within c k f).from_below z e in
        let m : (pt.scale *ℤ z) ≤ℤ (pt.scale *ℤ p.places c) = at_most_times pt.scale z (p.places c) pt.positive w in
        let t : pt.tops c ≡ pt.scale *ℤ p.places c = pt.outside c f in
        let s : pt.scale *ℤ z ≡ z *ℤ pt.scale = *ℤ_comm pt.scale z in
        absurd (omega (arith, ints))

  -- at p the column stands, seen from its place at q, on the side that helps nothing
  record Helps (pt : IsPoint given columns p.basis p.places) (c : ℕ) (f : ℤ) : Type 0 where
    up : pos 0 <ℤ f → pt.tops c ≤ℤ (pt.scale *ℤ q.places c)
    down : f <ℤ pos 0 → (pt.scale *ℤ q.places c) ≤ℤ pt.tops c

  turn-zero : (side : Bool) (e : ℤ) → e ≡ pos 0 → turn side e ≡ pos 0
  turn-zero true e z = omega (arith, ints)
  turn-zero false e z = z

  in-basis : (pt : IsPoint given columns p.basis p.places) (c : ℕ) → Contains q.basis c → c ≢ comes.leaving
      → Helps pt c (turn comes.side (combined comes.multipliers given c))
  in-basis pt c i n =
      let z : turn comes.side (combined comes.multipliers given c) ≡ pos 0 =
      turn-zero comes.side (combined comes.multipliers given c) (comes.misses.value.row.alone c i n) in
      record { up = λ l. absurd (omega (arith, ints)); down = λ l. absurd (omega (arith, ints)) }

  -- what is less than r could not enter at q
  lesser : (pt : IsPoint given columns p.basis p.places) (c : ℕ) → c < goes.leaving → c < columns → (¬ Contains q.basis c)
      → Helps pt c (turn comes.side (combined comes.multipliers given c))
  lesser pt c l k out = record {
    up = λ h. high (upper bounds c) refl (λ r. no-room (room-by bounds q comes.side (combined comes.multipliers given c) c (inl (h, r))));
    down = λ h. low (lower bounds c) refl (λ r. no-room (room-by bounds q comes.side (combined comes.multipliers given c) c (inr (h, r))));
  } where
    no-room : HasRoom bounds q comes.side (combined comes.multipliers given c) c → ⊥
    no-room h = comes.least_entering c (omega arith) (record { in_range = k; outside = out; room = h })

    high : (o : Option ℤ) → upper bounds c ≡ o → (¬ CanRise o (q.places c)) → pt.tops c ≤ℤ (pt.scale *ℤ q.places c)
    high None e n = absurd (n tt)
    high (Some u) e n =
        let w : u ≤ℤ q.places c = not-below (q.places c) u n in
        let m : (pt.scale *ℤ u) ≤ℤ (pt.scale *ℤ q.places c) = at_most_times pt.scale u (q.places c) pt.positive w in
        let t : pt.tops c ≤ℤ (u *ℤ pt.scale) = not-below (u *ℤ pt.scale) (pt.tops c) (not-past pt c true u l k e) in
        let s : pt.scale *ℤ u ≡ u *ℤ pt.scale = *ℤ_comm pt.scale u in
        omega (arith, ints)

    low : (o : Option ℤ) → lower bounds c ≡ o → (¬ CanFall o (q.places c)) → (pt.scale *ℤ q.places c) ≤ℤ pt.tops c
    low None e n = absurd (n tt)
    low (Some u) e n =
        let w : q.places c ≤ℤ u = not-below u (q.places c) n in
        let m : (pt.scale *ℤ q.places c) ≤ℤ (pt.scale *ℤ u) = at_most_times pt.scale (q.places c) u pt.positive w in
        let t : (u *ℤ pt.scale) ≤ℤ pt.tops c = not-below (pt.tops c) (u *ℤ pt.scale) (not-past pt c false u l k e) in
        let s : pt.scale *ℤ u ≡ u *ℤ pt.scale = *ℤ_comm pt.scale u in
        omega (arith, ints)

  -- r itself missed at p the bound that it stands at
  greatest : (pt : IsPoint given columns p.basis p.places) → Helps pt goes.leaving (turn comes.side (combined comes.multipliers given goes.leaving))
  greatest pt = by-side goes.side goes.misses.bounded
      (same_past goes.side goes.limit goes.misses.top goes.misses.bottom (pt.tops goes.leaving) pt.scale goes.misses.value.positive pt.positive
      (sym (value_there given columns p.basis p.places goes.leaving goes.multipliers goes.misses.top goes.misses.bottom
      (in-range given columns p.basis begun.basis goes.leaving goes.misses.value.row.in_basis) pt goes.misses.value)) goes.misses.past)
      (by-room bounds q comes.side (combined comes.multipliers given goes.leaving) goes.leaving
      (subst (λ (c : ℕ). HasRoom bounds q comes.side (combined comes.multipliers given c) c) same comes.enters.room)) where
        by-side : (side : Bool) → bound_on side bounds goes.leaving ≡ Some goes.limit → IsPast side goes.limit (pt.tops goes.leaving) pt.scale
            → ((pos 0 <ℤ turn comes.side (combined comes.multipliers given goes.leaving))
            × CanRise (upper bounds goes.leaving) (q.places goes.leaving))
            ⊎ ((turn comes.side (combined comes.multipliers given goes.leaving) <ℤ pos 0)
            × CanFall (lower bounds goes.leaving) (q.places goes.leaving))
            → Helps pt goes.leaving (turn comes.side (combined comes.multipliers given goes.leaving))
        by-side true e h (inl r) =
            let P : Option ℤ → Type 0 = λ o. CanRise o (q.places goes.leaving) in
            let m : q.places goes.leaving <ℤ goes.limit = subst P e r.1 in absurd (omega (arith, ints))
        by-side true e h (inr r) =
            let l = r.0 in
            let s : pt.scale *ℤ q.places goes.leaving ≡ goes.limit *ℤ pt.scale =
            ap (λ z. pt.scale *ℤ z) place ∙ *ℤ_comm pt.scale goes.limit in
            record { up = λ k. absurd (omega (arith, ints)); down = λ k. omega (arith, ints) }
        by-side false e h (inl r) =
            let l = r.0 in
            let s : pt.scale *ℤ q.places goes.leaving ≡ goes.limit *ℤ pt.scale =
            ap (λ z. pt.scale *ℤ z) place ∙ *ℤ_comm pt.scale goes.limit in
            record { up = λ k. omega (arith, ints); down = λ k. absurd (omega (arith, ints)) }
        by-side false e h (inr r) =
            let P : Option ℤ → Type 0 = λ o. CanFall o (q.places goes.leaving) in
            let m : goes.limit <ℤ q.places goes.leaving = subst P e r.1 in absurd (omega (arith, ints))

  each : (pt : IsPoint given columns p.basis p.places) (c : ℕ) → c < columns → c ≢ comes.leaving
      → Helps pt c (turn comes.side (combined comes.multipliers given c))
  each pt c k n = elim (listed-or q.basis c) [
    | inl i ↦ in-basis pt c i n
    | inr out ↦ elim (order-of c goes.leaving) [
      | inl l ↦ lesser pt c l k out
      | inr h ↦ elim h [
        | inl e ↦ subst (λ (x : ℕ). Helps pt x (turn comes.side (combined comes.multipliers given x))) (sym e) (greatest pt)
        | inr l ↦
            let g = greater c l out in
            let t : pt.tops c ≡ pt.scale *ℤ q.places c = pt.outside c g.0 ∙ ap (λ z. pt.scale *ℤ z) g.1 in
            record { up = λ k. omega (arith, ints); down = λ k. omega (arith, ints) }
      ]
    ]
  ] where
    order-of : (a b : ℕ) → (a < b) ⊎ ((a ≡ b) ⊎ (b < a))
    order-of a b = grind arith

  rest-negated : (e t : ℕ → ℤ) (x n : ℕ) → rest_below (λ c. neg_ℤ (e c)) t x n ≡ neg_ℤ (rest_below e t x n)
  rest-negated e t x n =
      rest_scaled e (λ c. neg_ℤ (e c)) t t (negsuc 0) x n
      (λ c l m. neg_times (e c) (t c) ∙ minus (e c *ℤ t c)) ∙ sym (minus (rest_below e t x n)) where
        minus : (z : ℤ) → neg_ℤ z ≡ negsuc 0 *ℤ z
        minus z = let e : negsuc 0 *ℤ z ≡ neg_ℤ (pos 1 *ℤ z) = neg_times (pos 1) z in omega (arith, ints)

  -- so the column that leaves at q would have missed its bound at p
  past-before : (pt : IsPoint given columns p.basis p.places) (side : Bool) (e : ℕ → ℤ) (i : ℕ) (limit top bottom : ℤ) → pos 0 <ℤ bottom
      → ((c : ℕ) → c < columns → c ≢ i → Helps pt c (turn side (e c)))
      → bottom *ℤ pt.tops i ≡ rest_below e pt.tops i columns → rest_below e q.places i columns ≡ top
      → IsPast side limit top bottom → IsPast side limit (pt.tops i) pt.scale
  past-before pt false e i limit top bottom hb h at is past =
      let r : rest_below e pt.tops i columns ≤ℤ (pt.scale *ℤ rest_below e q.places i columns) =
      rest_at_most e e q.places pt.tops pt.scale i columns
      (λ c l n. let w = h c l n in entry_times (e c) (pt.tops c) pt.scale (q.places c) w.up w.down) in
      let s : pt.scale *ℤ rest_below e q.places i columns ≡ pt.scale *ℤ top = ap (λ z. pt.scale *ℤ z) is in
      let m : (pt.scale *ℤ top) <ℤ (pt.scale *ℤ (limit *ℤ bottom)) = below_times pt.scale top (limit *ℤ bottom) pt.positive past in
      let t : pt.scale *ℤ (limit *ℤ bottom) ≡ bottom *ℤ (limit *ℤ pt.scale) = turned_about pt.scale limit bottom in
      below_from_times bottom (pt.tops i) (limit *ℤ pt.scale) hb (omega (arith, ints))
  past-before pt true e i limit top bottom hb h at is past =
      let r : rest_below (λ c. neg_ℤ (e c)) pt.tops i columns ≤ℤ (pt.scale *ℤ rest_below (λ c. neg_ℤ (e c)) q.places i columns) =
      rest_at_most (λ c. neg_ℤ (e c)) (λ c. neg_ℤ (e c)) q.places pt.tops pt.scale i columns
      (λ c l n. let w = h c l n in entry_times (neg_ℤ (e c)) (pt.tops c) pt.scale (q.places c) w.up w.down) in
      let a : rest_below (λ c. neg_ℤ (e c)) pt.tops i columns ≡ neg_ℤ (rest_below e pt.tops i columns) = rest-negated e pt.tops i columns in
      let s : pt.scale *ℤ rest_below (λ c. neg_ℤ (e c)) q.places i columns ≡ neg_ℤ (pt.scale *ℤ top) =
      ap (λ z. pt.scale *ℤ z) (rest-negated e q.places i columns ∙ ap neg_ℤ is) ∙ times_neg pt.scale top in
      let m : (pt.scale *ℤ (limit *ℤ bottom)) <ℤ (pt.scale *ℤ top) = below_times pt.scale (limit *ℤ bottom) top pt.positive past in
      let t : pt.scale *ℤ (limit *ℤ bottom) ≡ bottom *ℤ (limit *ℤ pt.scale) = turned_about pt.scale limit bottom in
      below_from_times bottom (limit *ℤ pt.scale) (pt.tops i) hb (omega (arith, ints))

  pub no_return : ⊥
  no_return =
      let pt : IsPoint given columns p.basis p.places = at-p in
      let v : HasValue given columns q.basis q.places comes.leaving comes.multipliers comes.misses.top comes.misses.bottom =
      comes.misses.value in
      let k : comes.leaving < columns = in-range given columns q.basis basis comes.leaving v.row.in_basis in
      not-past pt comes.leaving comes.side comes.limit less k comes.misses.bounded
      (past-before pt comes.side (combined comes.multipliers given) comes.leaving comes.limit comes.misses.top comes.misses.bottom
      v.positive (each pt) (own-side pt v k) v.numerator comes.misses.past) where
        own-side : (pt : IsPoint given columns p.basis p.places)
            → HasValue given columns q.basis q.places comes.leaving comes.multipliers comes.misses.top comes.misses.bottom
            → comes.leaving < columns
            → comes.misses.bottom *ℤ pt.tops comes.leaving ≡ rest_below (combined comes.multipliers given) pt.tops comes.leaving columns
        own-side pt v k =
            let s : sum_below (combined comes.multipliers given) pt.tops columns
            ≡ combined comes.multipliers given comes.leaving *ℤ pt.tops comes.leaving
            +ℤ rest_below (combined comes.multipliers given) pt.tops comes.leaving columns =
            sum_apart (combined comes.multipliers given) pt.tops comes.leaving columns k in
            let z : sum_below (combined comes.multipliers given) pt.tops columns ≡ pos 0 = pt.on_rows comes.multipliers v.row.multipliers in
            let e : combined comes.multipliers given comes.leaving *ℤ pt.tops comes.leaving
            ≡ neg_ℤ (comes.misses.bottom *ℤ pt.tops comes.leaving) =
            ap (λ w. w *ℤ pt.tops comes.leaving) v.denominator ∙ neg_times comes.misses.bottom (pt.tops comes.leaving) in
            omega (arith, ints)
