-- Row after row the table has the values that follow, for the slots of a closed set.
use Rattle.std.proofs.Common.{◌≡◌, ℕ, zero, suc, ◌<◌, ◌≤◌, ◌+◌, Bool, true, false, ◌||◌, List, [], ◌∷◌, ◌++◌, Some, length, get_or, slice_get, refl, ap, ◌∙◌, sym, subst, arith, length-append}
use Rattle.std.proofs.Math.Logic.{◌⊎◌, inl, inr}
use Rattle.std.proofs.lemmas.Bool.{true≢false, false≢true, cases_Bool, cases_order}
use Rattle.std.proofs.lemmas.List.{get_or_push, get_or_append_left}
use Rattle.lus_meaning.specs.Value.{Value}
use Rattle.lus_meaning.proofs.Lists.{all_from}
use Rattle.slot_values.specs.Evaluated.{SlotValues}
use Rattle.slot_sources.specs.Source.{Source, always, runs, runs_while, same, given, argument, listed, remembered, starting, held, unread}
use Rattle.slot_sources.specs.Rows.{Choices, brought, brought_first, brought_next, is_read, outside_next, outside_now, reads_before, value_now}
use Rattle.slot_rows.specs.Order.{IsSlotOrder}
use Rattle.slot_rows.specs.Table.{Row, brought_to, closed as closed_row, filled, first_values, is_any, listed_or, next_outside, next_value, next_values, no_row, row_at, row_from, rows, slots_of, unless}
use Rattle.slot_rows.specs.Agreement.{DoneAgrees, FollowIn, IsClosed, NoneMetWithin, NoneOutside, ReadAgree, RowsAgree, UnmetAgree, UnmetWithin, is_read_at, read_slots}
use Rattle.slot_rows.proofs.Dependence.{SameOn, next_same, outside_next_same}
use Rattle.slot_rows.proofs.Filled.{Filling, IsClosedNow, fills, none_of, stays_within, were_within}
use Rattle.slot_rows.proofs.RowAt.{row_is}

-- ---- what is brought

some_is : (d e : Source) → Some d ≡ Some e → d ≡ e
some_is d e q = cc

pub first_whole : (c : Choices) (n : ℕ) (es : List Source) → length (first_values c n es) ≡ length es
first_whole c n [] = refl
first_whole c n (e ∷ es) = ap suc (first_whole c (suc n) es)

pub next_whole : (s : SlotValues) (n : ℕ) (es : List Source) → length (next_values s n es) ≡ length es
next_whole s n [] = refl
next_whole s n (e ∷ es) = ap suc (next_whole s (suc n) es)

first_at : (c : Choices) (n : ℕ) (es : List Source) (k : ℕ) (e : Source) → slice_get es k ≡ Some e
    → slots_of (first_values c n es) k ≡ brought_first (c.first (n + k)) e
first_at c n [] k e q = cc
first_at c n (d ∷ es) zero e q = let z : n ≡ n + 0 = omega arith in
    subst (λ m. brought_first (c.first n) d ≡ brought_first (c.first m) e) z (ap (brought_first (c.first n)) (some_is d e q))
first_at c n (d ∷ es) (suc k) e q = let z : suc n + k ≡ n + suc k = omega arith in
    first_at c (suc n) es k e q ∙ ap (λ m. brought_first (c.first m) e) z

next_at : (s : SlotValues) (n : ℕ) (es : List Source) (k : ℕ) (e : Source) → slice_get es k ≡ Some e
    → slots_of (next_values s n es) k ≡ next_value s (n + k) e
next_at s n [] k e q = cc
next_at s n (d ∷ es) zero e q = let z : n ≡ n + 0 = omega arith in
    subst (λ m. next_value s n d ≡ next_value s m e) z (ap (next_value s n) (some_is d e q))
next_at s n (d ∷ es) (suc k) e q = let z : suc n + k ≡ n + suc k = omega arith in
    next_at s (suc n) es k e q ∙ ap (λ m. next_value s m e) z

first_here : (c : Choices) (es : List Source) (k : ℕ) (e : Source) → slice_get es k ≡ Some e → slots_of (first_values c 0 es) k ≡ brought_first (c.first k) e
first_here c es k e q = let z : 0 + k ≡ k = omega arith in
    subst (λ m. slots_of (first_values c 0 es) k ≡ brought_first (c.first m) e) z (first_at c 0 es k e q)

next_here : (s : SlotValues) (es : List Source) (k : ℕ) (e : Source) → slice_get es k ≡ Some e → slots_of (next_values s 0 es) k ≡ next_value s k e
next_here s es k e q = let z : 0 + k ≡ k = omega arith in subst (λ m. slots_of (next_values s 0 es) k ≡ next_value s m e) z (next_at s 0 es k e q)

neither : (a b : Bool) → (a || b) ≡ false → (a ≡ false) × (b ≡ false)
neither true b e = absurd (true≢false e)
neither false b e = (refl, e)

none_next : (s : SlotValues) (es : List Source) (k : ℕ) (e : Source) → slice_get es k ≡ Some e → next_outside s es ≡ false → outside_next s e ≡ []
none_next s [] k e q f = cc
none_next s (d ∷ es) zero e q f =
    let h : is_any (outside_next s d) ≡ false = (neither (is_any (outside_next s d)) (next_outside s es) f).0 in
    subst (λ e. outside_next s e ≡ []) (some_is d e q) (none_of (outside_next s d) (λ x. true≢false (sym x ∙ h)))
none_next s (d ∷ es) (suc k) e q f = none_next s es k e q (neither (is_any (outside_next s d)) (next_outside s es) f).1

all_within : (s : SlotValues) (es : List Source) → ((k : ℕ) (e : Source) → slice_get es k ≡ Some e → outside_next s e ≡ []) → next_outside s es ≡ false
all_within s [] h = refl
all_within s (d ∷ es) h = rw (h 0 d refl, all_within s es (λ k e q. h (suc k) e q)) refl

unread_within : (e : Source) → is_read e ≡ false → (r : SlotValues) → (outside_now r e ≡ []) × (outside_next r e ≡ [])
unread_within always h r = absurd (true≢false h)
unread_within (runs w) h r = absurd (true≢false h)
unread_within (runs_while w e) h r = absurd (true≢false h)
unread_within (same j) h r = absurd (true≢false h)
unread_within (given w e) h r = absurd (true≢false h)
unread_within (argument b w e) h r = absurd (true≢false h)
unread_within (listed w) h r = absurd (true≢false h)
unread_within (remembered w e) h r = absurd (true≢false h)
unread_within (starting w) h r = absurd (true≢false h)
unread_within (held b o d) h r = absurd (true≢false h)
unread_within unread h r = (refl, refl)

brought_zero : (c : Choices) (s : ℕ → SlotValues) (k : ℕ) (v : Value) (e : Source) → v ≡ brought_first (c.first k) e
    → brought c s k zero e ≡ listed_or c zero k v e
brought_zero c s k v always h = sym h
brought_zero c s k v (runs w) h = sym h
brought_zero c s k v (runs_while w e) h = sym h
brought_zero c s k v (same j) h = sym h
brought_zero c s k v (given w e) h = sym h
brought_zero c s k v (argument b w e) h = sym h
brought_zero c s k v (listed w) h = refl
brought_zero c s k v (remembered w e) h = sym h
brought_zero c s k v (starting w) h = sym h
brought_zero c s k v (held b o d) h = sym h
brought_zero c s k v unread h = sym h

brought_later : (c : Choices) (s : ℕ → SlotValues) (k t : ℕ) (v : Value) (e : Source) → v ≡ brought_next (s t) k e
    → brought c s k (suc t) e ≡ listed_or c (suc t) k v e
brought_later c s k t v always h = sym h
brought_later c s k t v (runs w) h = sym h
brought_later c s k t v (runs_while w e) h = sym h
brought_later c s k t v (same j) h = sym h
brought_later c s k t v (given w e) h = sym h
brought_later c s k t v (argument b w e) h = sym h
brought_later c s k t v (listed w) h = refl
brought_later c s k t v (remembered w e) h = sym h
brought_later c s k t v (starting w) h = sym h
brought_later c s k t v (held b o d) h = sym h
brought_later c s k t v unread h = sym h

brought_whole : (es : List Source) (c : Choices) (ks : List ℕ) (t : ℕ) → length (brought_to c es ks t) ≡ length es
brought_whole es c ks zero = first_whole c zero es
brought_whole es c ks (suc t) = next_whole (slots_of (row_at c es ks t).values) zero es

-- ---- row after row

module _ (es : List Source) (c : Choices) (ks : List ℕ) (in_set : ℕ → Bool) (n m : ℕ) (s : ℕ → SlotValues) (order : IsSlotOrder es ks)
    (closed : IsClosed es in_set) (few : m ≤ n) (follow : FollowIn es in_set c n s)
    (fine : (t : ℕ) → t < m → NoneOutside es in_set (s t) ⊎ ((row_at c es ks t).outside ≡ false)) where
  by_now : IsClosedNow es in_set
  by_now = record { slots = closed.slots; now = closed.now }

  abbrev Told : ℕ → List Value → Type 0
  Told t vs = (k : ℕ) (e : Source) → slice_get es k ≡ Some e → in_set k ≡ true → brought c s k t e ≡ listed_or c t k (slots_of vs k) e

  follows : (t : ℕ) → t < m → (vs : List Value) → Told t vs → (k : ℕ) (e : Source) → slice_get es k ≡ Some e → in_set k ≡ true
      → s t k ≡ value_now (s t) (listed_or c t k (slots_of vs k) e) e
  follows t l vs told k e q g = follow k e q g t (omega (arith, l, few)) ∙ ap (λ v. value_now (s t) v e) (told k e q g)

  starts : (t : ℕ) (l : t < m) (vs : List Value) (told : Told t vs) → length vs ≡ length es
      → Filling c es t in_set by_now (s t) (slots_of vs) (follows t l vs told) [] ks (record { values = vs; outside = false })
  starts t l vs told whole = record {
    whole = whole;
    ready = order.ready;
    once = order.once;
    below = order.below;
    there = λ j g e. absurd (false≢true e);
    own = λ j e. refl;
  }

  -- the row of an instant, by what is brought to it
  row_agrees : (t : ℕ) → t < m → (vs : List Value) → length vs ≡ length es → Told t vs
      → NoneOutside es in_set (s t) ⊎ ((row_from c es ks t vs).outside ≡ false)
      → (k : ℕ) → in_set k ≡ true → slots_of (row_from c es ks t vs).values k ≡ s t k
  row_agrees t l vs whole told none k i = fills c es t in_set by_now (s t) (slots_of vs) (follows t l vs told) [] ks
      (record { values = vs; outside = false }) (starts t l vs told whole) (now none) k i (order.all k (closed.slots k i))
    where
      now : NoneOutside es in_set (s t) ⊎ ((row_from c es ks t vs).outside ≡ false)
          → ((k : ℕ) (e : Source) → slice_get es k ≡ Some e → in_set k ≡ true → outside_now (s t) e ≡ [])
          ⊎ ((filled c es t (record { values = vs; outside = false }) ks).outside ≡ false)
      now (inl h) = inl (λ k e q g. (h k e q g).0)
      now (inr f) = inr (neither (filled c es t (record { values = vs; outside = false }) ks).outside
          (next_outside (slots_of (filled c es t (record { values = vs; outside = false }) ks).values) es) f).0

  -- what a row brings, where it has the values that follow
  brings : (t : ℕ) → t < m → ((k : ℕ) → in_set k ≡ true → slots_of (row_at c es ks t).values k ≡ s t k) → (k : ℕ) (e : Source)
      → slice_get es k ≡ Some e → in_set k ≡ true → next_value (slots_of (row_at c es ks t).values) k e ≡ brought_next (s t) k e
  brings t l agreed k e q g = ap (λ ps. unless ps (brought_next row k e)) (none (fine t l)) ∙ next_same row (s t) k e (agreed k g) reads
    where
      row : SlotValues
      row = slots_of (row_at c es ks t).values

      reads : SameOn row (s t) (reads_before e)
      reads = all_from (λ j. in_set j ≡ true) (λ j. row j ≡ s t j) agreed (reads_before e) (closed.before k e q g)

      flag : (r v : Row) → r ≡ closed_row es v → r.outside ≡ false → next_outside (slots_of r.values) es ≡ false
      flag r v x f = subst (λ r. r.outside ≡ false → next_outside (slots_of r.values) es ≡ false) (sym x)
          (λ f. (neither v.outside (next_outside (slots_of v.values) es) f).1) f

      none : NoneOutside es in_set (s t) ⊎ ((row_at c es ks t).outside ≡ false) → outside_next row e ≡ []
      none (inl h) = outside_next_same row (s t) e reads ∙ (h k e q g).1
      none (inr f) = none_next row es k e q
          (flag (row_at c es ks t) (filled c es t (record { values = brought_to c es ks t; outside = false }) ks) (row_is c es ks t) f)

  told_first : Told zero (brought_to c es ks zero)
  told_first k e q g = brought_zero c s k (slots_of (first_values c zero es) k) e (first_here c es k e q)

  told_later : (t : ℕ) → t < m → ((k : ℕ) → in_set k ≡ true → slots_of (row_at c es ks t).values k ≡ s t k) → Told (suc t) (brought_to c es ks (suc t))
  told_later t l agreed k e q g =
      let row : SlotValues = slots_of (row_at c es ks t).values in
      brought_later c s k t (slots_of (next_values row zero es) k) e (next_here row es k e q ∙ brings t l agreed k e q g)

  pub agrees : (t : ℕ) → t < m → (k : ℕ) → in_set k ≡ true → slots_of (row_at c es ks t).values k ≡ s t k
  agrees zero l = row_agrees zero l (first_values c zero es) (first_whole c zero es) told_first (fine zero l)
  agrees (suc t) l =
      let before : t < m = omega (arith, l) in
      let row : SlotValues = slots_of (row_at c es ks t).values in
      row_agrees (suc t) l (next_values row zero es) (next_whole row zero es) (told_later t before (agrees t before)) (fine (suc t) l)

  -- also what the rows up to the end bring to the next one
  pub tells : (t : ℕ) → t ≤ m → Told t (brought_to c es ks t)
  tells zero l = told_first
  tells (suc t) l = let before : t < m = omega (arith, l) in told_later t before (agrees t before)

  tells_at : (t : ℕ) → t < m → Told t (brought_to c es ks t)
  tells_at t l = tells t (omega (arith, l))

  -- where the rows that follow have none outside, and the slots that are left have none, the row meets none
  pub unmet : ((t : ℕ) → t < m → NoneOutside es in_set (s t)) → ((k : ℕ) (e : Source) → slice_get es k ≡ Some e → in_set k ≡ false
      → (r : SlotValues) → (outside_now r e ≡ []) × (outside_next r e ≡ [])) → (t : ℕ) → t < m → (row_at c es ks t).outside ≡ false
  unmet none others t l = subst (λ r. r.outside ≡ false) (sym (row_is c es ks t)) (rw (now, next) refl)
    where
      vs : List Value
      vs = brought_to c es ks t

      row : Row
      row = filled c es t (record { values = vs; outside = false }) ks

      now : (filled c es t (record { values = brought_to c es ks t; outside = false }) ks).outside ≡ false
      now = stays_within c es t in_set by_now (s t) (slots_of vs) (follows t l vs (tells_at t l)) (λ k e q g. (none t l k e q g).0)
          (λ k e q g r. (others k e q g r).0) [] ks (record { values = vs; outside = false }) (starts t l vs (tells_at t l) (brought_whole es c ks t)) refl

      same : (k : ℕ) → in_set k ≡ true → slots_of row.values k ≡ s t k
      same = row_agrees t l vs (brought_whole es c ks t) (tells_at t l) (inl (none t l))

      each : (k : ℕ) (e : Source) → slice_get es k ≡ Some e → (in_set k ≡ true) ⊎ (in_set k ≡ false) → outside_next (slots_of row.values) e ≡ []
      each k e q (inl g) = outside_next_same (slots_of row.values) (s t) e (all_from (λ j. in_set j ≡ true) (λ j. slots_of row.values j ≡ s t j) same
          (reads_before e) (closed.before k e q g)) ∙ (none t l k e q g).1
      each k e q (inr g) = (others k e q g (slots_of row.values)).1

      next : next_outside (slots_of (filled c es t (record { values = brought_to c es ks t; outside = false }) ks).values) es ≡ false
      next = all_within (slots_of row.values) es (λ k e q. each k e q (cases_Bool (in_set k)))

  -- where the row met none, the rows that follow have none outside
  pub within : (t : ℕ) → t < m → (row_at c es ks t).outside ≡ false → NoneOutside es in_set (s t)
  within t l flag k e q g = (
    were_within c es t in_set by_now (s t) (slots_of vs) (follows t l vs (tells_at t l)) [] ks (record { values = vs; outside = false })
        (starts t l vs (tells_at t l) (brought_whole es c ks t)) (neither row.outside (next_outside (slots_of row.values) es) here).0 k e q g
        (order.all k (closed.slots k g)),
    sym (outside_next_same (slots_of row.values) (s t) e (all_from (λ j. in_set j ≡ true) (λ j. slots_of row.values j ≡ s t j) same
        (reads_before e) (closed.before k e q g)))
        ∙ none_next (slots_of row.values) es k e q (neither row.outside (next_outside (slots_of row.values) es) here).1,
  )
    where
      vs : List Value
      vs = brought_to c es ks t

      row : Row
      row = filled c es t (record { values = vs; outside = false }) ks

      here : (row_from c es ks t vs).outside ≡ false
      here = subst (λ r. r.outside ≡ false) (row_is c es ks t) flag

      same : (k : ℕ) → in_set k ≡ true → slots_of row.values k ≡ s t k
      same = row_agrees t l vs (brought_whole es c ks t) (tells_at t l) (inr here)

-- ---- in the table

pub rows_whole : (c : Choices) (es : List Source) (ks : List ℕ) (n : ℕ) → length (rows c es ks n) ≡ n
rows_whole c es ks zero = refl
rows_whole c es ks (suc n) = omega (arith, length-append (rows c es ks n) (row_at c es ks n ∷ []), rows_whole c es ks n)

pub row_there : (c : Choices) (es : List Source) (ks : List ℕ) (n t : ℕ) → t < n → get_or (rows c es ks n) t no_row ≡ row_at c es ks t
row_there c es ks zero t l = absurd (omega (arith, l))
row_there c es ks (suc n) t l = go (cases_order t n) (row_there c es ks n t)
  where
    go : (t ≡ n) ⊎ ((t < n) ⊎ (n < t)) → (t < n → get_or (rows c es ks n) t no_row ≡ row_at c es ks t) → get_or (rows c es ks n ++ row_at c es ks n ∷ []) t no_row ≡ row_at c es ks t
    go (inl q) earlier = subst (λ t. get_or (rows c es ks n ++ row_at c es ks n ∷ []) t no_row ≡ row_at c es ks t) (sym q)
        (get_or_push (rows c es ks n) (row_at c es ks n) no_row n (rows_whole c es ks n))
    go (inr (inl h)) earlier =
        get_or_append_left (rows c es ks n) (row_at c es ks n ∷ []) no_row t (subst (λ z. t < z) (sym (rows_whole c es ks n)) h)
        ∙ earlier h
    go (inr (inr h)) earlier = absurd (omega (arith, l, h))

pub rows_agree : RowsAgree
rows_agree es c ks in_set n m s order closed few follow none t l k i =
    let h : t < n = omega (arith, l, few) in
    ap (λ r. slots_of r.values k) (row_there c es ks n t h)
    ∙ agrees es c ks in_set n m s order closed few follow (λ t l. inl (none t l)) t l k i

pub unmet_agree : UnmetAgree
unmet_agree es c ks in_set n m s order closed few follow none t l k i =
    let h : t < n = omega (arith, l, few) in
    ap (λ r. slots_of r.values k) (row_there c es ks n t h) ∙ agrees es c ks in_set n m s order closed few follow (λ t l. inr (unmet t l)) t l k i
  where
    unmet : (t : ℕ) → t < m → (row_at c es ks t).outside ≡ false
    unmet t l = let h : t < n = omega (arith, l, few) in ap (λ r. r.outside) (sym (row_there c es ks n t h)) ∙ none t l

pub read_agree : ReadAgree
read_agree es c ks n m s order closed few follow none =
    unmet_agree es c ks (read_slots es) n m s order closed few (λ k e q i. follow k e q (closed.read k e q i)) none

pub none_met : NoneMetWithin
none_met es c ks n m s order closed few follow none t l =
    let h : t < n = omega (arith, l, few) in
    ap (λ r. r.outside) (row_there c es ks n t h)
    ∙ unmet es c ks (read_slots es) n m s order closed few (λ k e q i. follow k e q (closed.read k e q i)) (λ t l. inl (none t l)) none
    (λ k e q g. unread_within e (subst (λ o. is_read_at o ≡ false) q g)) t l

pub unmet_within : UnmetWithin
unmet_within es c ks in_set n m s order closed few follow none t l =
    within es c ks in_set n m s order closed few follow (λ t l. inr (flag t l)) t l (flag t l)
  where
    flag : (t : ℕ) → t < m → (row_at c es ks t).outside ≡ false
    flag t l = let h : t < n = omega (arith, l, few) in ap (λ r. r.outside) (sym (row_there c es ks n t h)) ∙ none t l

-- ---- what is done of the next row

pub done_agrees : DoneAgrees
done_agrees es c ks in_set done n t s order closed below follow none d k i =
    ap (λ r. slots_of r.values k) (row_there c es ks n t below ∙ row_is c es ks t)
    ∙ fills c es t done by_now (s t) (slots_of vs) follows [] ks first filling (inl d.within) k i (order.all k (closed.slots k (d.inside k i)))
  where
    vs : List Value
    vs = brought_to c es ks t

    first : Row
    first = record { values = vs; outside = false }

    by_now : IsClosedNow es done
    by_now = record { slots = λ k i. closed.slots k (d.inside k i); now = d.reads }

    follows : (k : ℕ) (e : Source) → slice_get es k ≡ Some e → done k ≡ true → s t k ≡ value_now (s t) (listed_or c t k (slots_of vs k) e) e
    follows k e q g =
        let few : t ≤ n = omega (arith, below) in
        let same : t ≤ t = omega arith in
        follow k e q (d.inside k g) t below
        ∙ ap (λ v. value_now (s t) v e) (tells es c ks in_set n t s order closed few follow (λ t l. inl (none t l)) t same k e q (d.inside k g))

    filling : Filling c es t done by_now (s t) (slots_of vs) follows [] ks first
    filling = record {
      whole = brought_whole es c ks t;
      ready = order.ready;
      once = order.once;
      below = order.below;
      there = λ j g e. absurd (false≢true e);
      own = λ j e. refl;
    }
