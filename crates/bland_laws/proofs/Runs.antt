-- A run by Bland's rule never comes back.
use Rattle.std.specs.Prelude.{ℕ, zero, suc, ◌≡◌, ◌≢◌, ◌⊎◌, ◌+◌, ◌*◌, ◌^◌, ◌<◌, ◌≤◌, Bool, List, Contains}
use Rattle.std.proofs.Common.{sym, ◌∙◌, ap, subst, arith, refl, inl, inr}
use Rattle.std.proofs.Math.Nat.{pow-suc}
use lib.IntN.{ℤ}
use Rattle.proof_steps.specs.Pivots.{Position, Pivots, CanPivot}
use Rattle.bland_laws.specs.Laws.{Leads, LeaveRoom, CanBegin, IsSame, NoStateTwice, StatesDiffer, RunsEnd}
use Rattle.bland_laws.proofs.Listed.{same-or, listed-or, at-all, kept-in, entered, after-or}
use Rattle.bland_laws.proofs.Begun.{begun_after, premises_pass_on}
use Rattle.bland_laws.proofs.Returning.{no_return}

module _ (given : List (List (ℕ × ℤ))) (columns : ℕ) (bounds : List (ℕ × Bool × ℤ)) (room : LeaveRoom bounds) where
  stays-in : (u v : Position) (p : Pivots given columns bounds u v) (c : ℕ) → Contains u.basis c → c ≢ p.leaving → Contains v.basis c
  stays-in u v p c i n = subst (λ (b : List ℕ). Contains b c) (sym p.basis) (kept-in p.leaving p.entering u.basis c i n)

  came-in : (u v : Position) (p : Pivots given columns bounds u v) → Contains v.basis p.entering
  came-in u v p =
      subst (λ (b : List ℕ). Contains b p.entering) (sym p.basis) (entered p.leaving p.entering u.basis p.misses.value.row.in_basis)

  was-in : (u v : Position) (p : Pivots given columns bounds u v) (c : ℕ) → Contains v.basis c
      → (c ≡ p.entering) ⊎ (Contains u.basis c × (c ≢ p.leaving))
  was-in u v p c i = after-or p.leaving p.entering u.basis c (subst (λ (b : List ℕ). Contains b c) p.basis i)

  -- what is in the basis does not enter, and what is outside does not leave
  not-entering : (u v : Position) (p : Pivots given columns bounds u v) (c : ℕ) → Contains u.basis c → p.entering ≢ c
  not-entering u v p c i e = p.enters.outside (subst (λ (x : ℕ). Contains u.basis x) (sym e) i)

  not-leaving : (u v : Position) (p : Pivots given columns bounds u v) (c : ℕ) → (¬ Contains u.basis c) → p.leaving ≢ c
  not-leaving u v p c n e = n (subst (λ (x : ℕ). Contains u.basis x) e p.misses.value.row.in_basis)

  -- all columns that leave or enter in the run are below k
  abbrev AreBelow : ℕ → (n : ℕ) (s t : Position) → Leads given columns bounds n s t → Type 0
  AreBelow k zero s t e = Unit
  AreBelow k (suc n) s t run = (run.1.leaving < k) × (run.1.entering < k) × AreBelow k n run.0 t run.2

  all-below : (n : ℕ) (s t : Position) (run : Leads given columns bounds n s t) → CanBegin given columns bounds s
      → AreBelow columns n s t run
  all-below zero s t run h = tt
  all-below (suc n) s t run h = (
    at-all (λ c. c < columns) s.basis run.1.leaving h.basis.in_range run.1.misses.value.row.in_basis,
    run.1.enters.in_range,
    all-below n run.0 t run.2 (begun_after given columns bounds s run.0 room h run.1),
  )

  -- the columns greater than r are where they were
  record IsAlike (r : ℕ) (s u : Position) : Type 0 where
    there : (c : ℕ) → r < c → Contains s.basis c → Contains u.basis c
    back : (c : ℕ) → r < c → Contains u.basis c → Contains s.basis c
    places : (c : ℕ) → r < c → u.places c ≡ s.places c

  alike : (r : ℕ) (s : Position) → IsAlike r s s
  alike r s = record { there = λ c l i. i; back = λ c l i. i; places = λ c l. refl }

  alike-after : (r : ℕ) (s u v : Position) (p : Pivots given columns bounds u v) → p.leaving < suc r → p.entering < suc r
      → IsAlike r s u → IsAlike r s v
  alike-after r s u v p hl he a = record {
    there = λ c l i. stays-in u v p c (a.there c l i) (λ e. absurd (omega arith));
    back = λ c l i. elim (was-in u v p c i) [ inl e ↦ absurd (omega arith) | inr t ↦ a.back c l t.0 ];
    places = λ c l. p.others c (λ e. absurd (omega arith)) ∙ a.places c l;
  }

  -- r leaves at one position of the run and enters at another, where it stands at the bound to which it left
  meets : (r : ℕ) (s p p' q q' : Position) → CanBegin given columns bounds p → CanBegin given columns bounds q
      → (goes : Pivots given columns bounds p p') (comes : Pivots given columns bounds q q') → IsAlike r s p → IsAlike r s q
      → goes.leaving ≡ r → comes.entering ≡ r → comes.leaving < suc r → q.places r ≡ goes.limit → ⊥
  meets r s p p' q q' hp hq goes comes ap' aq l e b at =
      no_return given columns bounds p p' q q' hp hq.basis goes comes
      (let n : comes.leaving ≢ comes.entering = λ k. not-entering q q' comes comes.leaving comes.misses.value.row.in_basis (sym k) in
      omega arith)
      (e ∙ sym l) (ap q.places l ∙ at)
      (λ c g out. let h : r < c = omega arith in
      (λ i. out (aq.there c h (ap'.back c h i)), ap'.places c h ∙ sym (aq.places c h)))

  -- once r has left it stays where it left to
  stays-out : (r : ℕ) (s p p' : Position) → CanBegin given columns bounds p → (goes : Pivots given columns bounds p p')
      → IsAlike r s p → goes.leaving ≡ r → (n : ℕ) (u t : Position) (run : Leads given columns bounds n u t) → AreBelow (suc r) n u t run
      → CanBegin given columns bounds u → IsAlike r s u → (¬ Contains u.basis r) → u.places r ≡ goes.limit
      → (¬ Contains t.basis r) × (t.places r ≡ goes.limit) × AreBelow r n u t run
  stays-out r s p p' hp goes a l zero u t run b h au out at =
      let w = subst (λ (v : Position). (¬ Contains v.basis r) × (v.places r ≡ goes.limit)) run (out, at) in (w.0, w.1, tt)
  stays-out r s p p' hp goes a l (suc n) u t run b h au out at = elim (same-or run.1.entering r) [
    | inl e ↦ absurd (meets r s p p' u run.0 hp h goes run.1 a au l e b.0 at)
    | inr m ↦
        let f : run.1.leaving ≢ r = not-leaving u run.0 run.1 r out in
        let y : run.1.leaving < suc r = b.0 in
        let z : run.1.entering < suc r = b.1 in
        let w = stays-out r s p p' hp goes a l n run.0 t run.2 b.2 (begun_after given columns bounds u run.0 room h run.1)
        (alike-after r s u run.0 run.1 b.0 b.1 au)
        (λ i. elim (was-in u run.0 run.1 r i) [ inl e ↦ m (sym e) | inr t ↦ out t.0 ])
        (run.1.others r (λ e. f (sym e)) ∙ at) in
        (w.0, w.1, (omega arith, omega arith, w.2))
  ]

  after-leaving : (r : ℕ) (s u v : Position) (p : Pivots given columns bounds u v) → CanBegin given columns bounds u → IsAlike r s u
      → p.leaving ≡ r → p.leaving < suc r → p.entering < suc r → (n : ℕ) (t : Position) (run : Leads given columns bounds n v t)
      → AreBelow (suc r) n v t run → (¬ Contains t.basis r) × (t.places r ≡ p.limit) × AreBelow r n v t run
  after-leaving r s u v p h a e y z n t run b =
      stays-out r s u v h p a e n v t run b (begun_after given columns bounds u v room h p) (alike-after r s u v p y z a)
      (λ j. elim (was-in u v p r j) [ inl q ↦ not-entering u v p r inside (sym q) | inr k ↦ k.1 (sym e) ])
      (ap v.places (sym e) ∙ p.left) where
        inside : Contains u.basis r
        inside = subst (λ (c : ℕ). Contains u.basis c) e p.misses.value.row.in_basis

  -- r has left in the run, and stands at its end where it left to
  record HasLeft (r : ℕ) (s t : Position) : Type 0 where
    from : Position
    to : Position
    pivot : Pivots given columns bounds from to
    begun : CanBegin given columns bounds from
    alike_there : IsAlike r s from
    leaves : pivot.leaving ≡ r
    out : ¬ Contains t.basis r
    place : t.places r ≡ pivot.limit

  if-inside : (r : ℕ) (s : Position) (n : ℕ) (u t : Position) (run : Leads given columns bounds n u t) → AreBelow (suc r) n u t run
      → CanBegin given columns bounds u → IsAlike r s u → Contains u.basis r
      → (Contains t.basis r × AreBelow r n u t run) ⊎ HasLeft r s t
  if-inside r s zero u t run b h a i = inl (subst (λ (v : Position). Contains v.basis r) run i, tt)
  if-inside r s (suc n) u t run b h a i = elim (same-or run.1.leaving r) [
    | inl e ↦ inr (left e)
    | inr m ↦ kept m (if-inside r s n run.0 t run.2 b.2 (begun_after given columns bounds u run.0 room h run.1)
        (alike-after r s u run.0 run.1 b.0 b.1 a) (stays-in u run.0 run.1 r i (λ e. m (sym e))))
  ] where
    left : run.1.leaving ≡ r → HasLeft r s t
    left e =
        let w = after-leaving r s u run.0 run.1 h a e b.0 b.1 n t run.2 b.2 in
        record { from = u; to = run.0; pivot = run.1; begun = h; alike_there = a; leaves = e; out = w.0; place = w.1 }

    kept : run.1.leaving ≢ r → (Contains t.basis r × AreBelow r n run.0 t run.2) ⊎ HasLeft r s t
        → (Contains t.basis r × AreBelow r (suc n) u t run) ⊎ HasLeft r s t
    kept m (inl w) =
        let f : run.1.entering ≢ r = not-entering u run.0 run.1 r i in
        let l : run.1.leaving < suc r = b.0 in
        let k : run.1.entering < suc r = b.1 in
        inl (w.0, (omega arith, omega arith, w.1))
    kept m (inr w) = inr w

  if-outside : (r : ℕ) (s : Position) (n : ℕ) (u t : Position) (run : Leads given columns bounds n u t) → AreBelow (suc r) n u t run
      → CanBegin given columns bounds u → IsAlike r s u → (¬ Contains u.basis r) → (¬ Contains t.basis r) → t.places r ≡ u.places r
      → AreBelow r n u t run
  if-outside r s zero u t run b h a out end at = tt
  if-outside r s (suc n) u t run b h a out end at = elim (same-or run.1.entering r) [
    | inl e ↦ absurd (comes e (if-inside r s n run.0 t run.2 b.2 (begun_after given columns bounds u run.0 room h run.1)
        (alike-after r s u run.0 run.1 b.0 b.1 a) (subst (λ (c : ℕ). Contains run.0.basis c) e (came-in u run.0 run.1))))
    | inr m ↦
        let f : run.1.leaving ≢ r = not-leaving u run.0 run.1 r out in
        let l : run.1.leaving < suc r = b.0 in
        let k : run.1.entering < suc r = b.1 in (
          omega arith,
          omega arith,
          if-outside r s n run.0 t run.2 b.2 (begun_after given columns bounds u run.0 room h run.1)
              (alike-after r s u run.0 run.1 b.0 b.1 a)
              (λ i. elim (was-in u run.0 run.1 r i) [ inl e ↦ m (sym e) | inr t ↦ out t.0 ]) end
              (at ∙ sym (run.1.others r (λ e. f (sym e)))),
        )
  ] where
    comes : run.1.entering ≡ r → (Contains t.basis r × AreBelow r n run.0 t run.2) ⊎ HasLeft r s t → ⊥
    comes e (inl w) = end w.0
    comes e (inr w) = meets r s w.from w.to u run.0 w.begun h w.pivot run.1 w.alike_there a w.leaves e b.0 (sym at ∙ w.place)

  none-back : (k n : ℕ) (s t : Position) (run : Leads given columns bounds (suc n) s t) → k ≤ columns → AreBelow k (suc n) s t run
      → CanBegin given columns bounds s → ¬ IsSame columns s t
  none-back zero n s t run l b h e = let z : run.1.leaving < 0 = b.0 in absurd (omega arith)
  none-back (suc r) n s t run l b h e = elim (listed-or s.basis r) [
    | inl i ↦ inside i (λ w. none-back r n s t run (omega arith) w h e) (if-inside r s (suc n) s t run b h (alike r s) i)
    | inr out ↦ none-back r n s t run (omega arith)
        (if-outside r s (suc n) s t run b h (alike r s) out (λ i. out ((e.basis r).1 i)) (sym (e.places r (omega arith) out))) h e
  ] where
    inside : Contains s.basis r → (AreBelow r (suc n) s t run → ⊥)
        → (Contains t.basis r × AreBelow r (suc n) s t run) ⊎ HasLeft r s t → ⊥
    inside i lower (inl w) = lower w.1
    inside i lower (inr w) = w.out ((e.basis r).0 i)

  -- the first pivot of the run that moves r
  record Cut (r n : ℕ) (u t : Position) : Type 0 where
    before : ℕ
    later : ℕ
    mid : Position
    next : Position
    head : Leads given columns bounds before u mid
    lesser : AreBelow r before u mid head
    pivot : Pivots given columns bounds mid next
    leaving_within : pivot.leaving < suc r
    entering_within : pivot.entering < suc r
    moves : (pivot.leaving ≡ r) ⊎ (pivot.entering ≡ r)
    tail : Leads given columns bounds later next t
    within : AreBelow (suc r) later next t tail
    count : n ≡ before + suc later

  cut : (r n : ℕ) (u t : Position) (run : Leads given columns bounds n u t) → AreBelow (suc r) n u t run
      → AreBelow r n u t run ⊎ Cut r n u t
  cut r zero u t run b = inl tt
  cut r (suc n) u t run b = elim (same-or run.1.leaving r) [
    | inl e ↦ inr (here (inl e))
    | inr m ↦ elim (same-or run.1.entering r) [
      | inl e ↦ inr (here (inr e))
      | inr k ↦ there m k (cut r n run.0 t run.2 b.2)
    ]
  ] where
    here : (run.1.leaving ≡ r) ⊎ (run.1.entering ≡ r) → Cut r (suc n) u t
    here e = record {
      before = 0;
      later = n;
      mid = u;
      next = run.0;
      head = refl;
      lesser = tt;
      pivot = run.1;
      leaving_within = b.0;
      entering_within = b.1;
      moves = e;
      tail = run.2;
      within = b.2;
      count = omega arith;
    }

    there : run.1.leaving ≢ r → run.1.entering ≢ r → AreBelow r n run.0 t run.2 ⊎ Cut r n run.0 t
        → AreBelow r (suc n) u t run ⊎ Cut r (suc n) u t
    there m k (inl w) =
        let y : run.1.leaving < suc r = b.0 in
        let z : run.1.entering < suc r = b.1 in
        inl (omega arith, omega arith, w)
    there m k (inr c) =
        let y : run.1.leaving < suc r = b.0 in
        let z : run.1.entering < suc r = b.1 in
        inr (record {
          before = suc c.before;
          later = c.later;
          mid = c.mid;
          next = c.next;
          head = (run.0, run.1, c.head);
          lesser = (omega arith, omega arith, c.lesser);
          pivot = c.pivot;
          leaving_within = c.leaving_within;
          entering_within = c.entering_within;
          moves = c.moves;
          tail = c.tail;
          within = c.within;
          count = let k : n ≡ c.before + suc c.later = c.count in omega arith;
        })

  -- where no pivot moves r it is in the basis at the end if it was at the start
  kept-through : (r n : ℕ) (u t : Position) (run : Leads given columns bounds n u t) → AreBelow r n u t run
      → (Contains u.basis r → Contains t.basis r) × (Contains t.basis r → Contains u.basis r)
  kept-through r zero u t run b =
      subst (λ (v : Position). (Contains u.basis r → Contains v.basis r) × (Contains v.basis r → Contains u.basis r)) run (λ i. i, λ i. i)
  kept-through r (suc n) u t run b =
      let y : run.1.leaving < r = b.0 in
      let z : run.1.entering < r = b.1 in
      let w = kept-through r n run.0 t run.2 b.2 in (
        λ i. w.0 (stays-in u run.0 run.1 r i (λ e. absurd (omega arith))),
        λ i. elim (was-in u run.0 run.1 r (w.1 i)) [ inl e ↦ absurd (omega arith) | inr t ↦ t.0 ],
      )

  -- a run of columns below r has fewer pivots than m
  abbrev HasFewer : ℕ → ℕ → Type 0
  HasFewer r m = (n : ℕ) (u t : Position) (run : Leads given columns bounds n u t) → AreBelow r n u t run
      → CanBegin given columns bounds u → n < m

  -- r leaves at most once, and then stays out
  count-inside : (r m : ℕ) → HasFewer r m → (n : ℕ) (u t : Position) (run : Leads given columns bounds n u t)
      → AreBelow (suc r) n u t run → CanBegin given columns bounds u → Contains u.basis r → n < m + m
  count-inside r m f n u t run b h i = elim (cut r n u t run b) [
    | inl w ↦ let l : n < m = f n u t run w h in omega arith
    | inr c ↦ split c
  ] where
    split : Cut r n u t → n < m + m
    split c =
        let hm : CanBegin given columns bounds c.mid = premises_pass_on given columns bounds room c.before u c.mid h c.head in
        let j : Contains c.mid.basis r = (kept-through r c.before u c.mid c.head c.lesser).0 i in
        let e : c.pivot.leaving ≡ r =
        elim c.moves [ inl e ↦ e | inr e ↦ absurd (not-entering c.mid c.next c.pivot r j e) ] in
        let w = after-leaving r c.mid c.mid c.next c.pivot hm (alike r c.mid) e c.leaving_within c.entering_within
        c.later t c.tail c.within in
        let x : c.before < m = f c.before u c.mid c.head c.lesser h in
        let y : c.later < m = f c.later c.next t c.tail w.2 (begun_after given columns bounds c.mid c.next room hm c.pivot) in
        let k : n ≡ c.before + suc c.later = c.count in
        omega arith

  -- r enters at most once before that
  count-outside : (r m : ℕ) → HasFewer r m → (n : ℕ) (u t : Position) (run : Leads given columns bounds n u t)
      → AreBelow (suc r) n u t run → CanBegin given columns bounds u → (¬ Contains u.basis r) → n < m + (m + m)
  count-outside r m f n u t run b h out = elim (cut r n u t run b) [
    | inl w ↦ let l : n < m = f n u t run w h in omega arith
    | inr c ↦ split c
  ] where
    split : Cut r n u t → n < m + (m + m)
    split c =
        let hm : CanBegin given columns bounds c.mid = premises_pass_on given columns bounds room c.before u c.mid h c.head in
        let o : ¬ Contains c.mid.basis r = λ j. out ((kept-through r c.before u c.mid c.head c.lesser).1 j) in
        let e : c.pivot.entering ≡ r =
        elim c.moves [ inl e ↦ absurd (not-leaving c.mid c.next c.pivot r o e) | inr e ↦ e ] in
        let x : c.before < m = f c.before u c.mid c.head c.lesser h in
        let y : c.later < m + m = count-inside r m f c.later c.next t c.tail c.within
        (begun_after given columns bounds c.mid c.next room hm c.pivot)
        (subst (λ (z : ℕ). Contains c.next.basis z) e (came-in c.mid c.next c.pivot)) in
        let k : n ≡ c.before + suc c.later = c.count in
        omega arith

  counted : (k : ℕ) → HasFewer k (3 ^ k)
  counted zero zero u t run b h = omega arith
  counted zero (suc n) u t run b h = let z : run.1.leaving < 0 = b.0 in absurd (omega arith)
  counted (suc r) n u t run b h =
      let p : 3 ^ suc r ≡ 3 ^ r * 3 = pow-suc 3 r in
      elim (listed-or u.basis r) [
        | inl i ↦ let l : n < 3 ^ r + 3 ^ r = count-inside r (3 ^ r) (counted r) n u t run b h i in omega arith
        | inr out ↦ let l : n < 3 ^ r + (3 ^ r + 3 ^ r) = count-outside r (3 ^ r) (counted r) n u t run b h out in omega arith
      ]

-- where n pivots can be made they lead somewhere
leads : (given : List (List (ℕ × ℤ))) (columns : ℕ) (bounds : List (ℕ × Bool × ℤ)) (n : ℕ) (s : Position)
    → CanPivot given columns bounds n s → (t : Position) × Leads given columns bounds n s t
leads given columns bounds zero s h = (s, refl)
leads given columns bounds (suc n) s h = let w = leads given columns bounds n h.0 h.2 in (w.0, (h.0, h.1, w.1))

pub runs_end : RunsEnd
runs_end given columns bounds room n s h c =
    let w = leads given columns bounds n s c in
    counted given columns bounds room columns n s w.0 w.1 (all-below given columns bounds room n s w.0 w.1 h) h

pub no_state_twice : NoStateTwice
no_state_twice given columns bounds room n s t h run =
    none-back given columns bounds room columns n s t run (omega arith) (all-below given columns bounds room (suc n) s t run h) h

pub states_differ : StatesDiffer
states_differ given columns bounds room k n s u t h before run =
    no_state_twice given columns bounds room n u t (premises_pass_on given columns bounds room k s u h before) run
