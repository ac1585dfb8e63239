-- What is told by the table is so of the rows that follow.
use Rattle.std.proofs.Common.{◌≡◌, ℕ, zero, suc, ◌<◌, ◌≤◌, Bool, true, false, ◌||◌, List, [], ◌∷◌, ◌++◌, Option, Some, None, slice_get, refl, ap, ◌∙◌, sym, subst, arith}
use Rattle.std.specs.List.{AllByRecursion}
use Rattle.std.proofs.Math.Logic.{◌⊎◌, inl, inr}
use Rattle.std.proofs.lemmas.Bool.{true≢false, cases_Bool, cases_order}
use Rattle.std.proofs.lemmas.List.{append_assoc}
use Rattle.slot_values.specs.Resolution.{Resolution}
use Rattle.slot_values.specs.Evaluated.{SlotValues, outside}
use Rattle.slot_values.specs.declared.resolved.PastAt.{PastAt}
use Rattle.slot_sources.specs.Source.{Source}
use Rattle.slot_sources.specs.Rows.{Choices, is_on}
use Rattle.slot_rows.specs.Table.{is_any, rows, value_in}
use Rattle.slot_rows.specs.Agreement.{FollowIn, IsClosed, NoneMet, is_read_at, read_slots}
use Rattle.slot_rows.proofs.Agreed.{done_agrees, rows_agree, unmet_agree, unmet_within}
use Rattle.slot_rows.proofs.Filled.{none_of, source_at}
use Rattle.slot_replay.specs.Conditions.{Conditions, any_outside}
use Rattle.slot_replay.specs.Parts.{Part, pasts_of}
use Rattle.slot_replay.specs.Answer.{AllGoOn, IsFirstTold, Seen, first_past, is_outside, met_before, met_outside, seen_in}
use Rattle.slot_replay.specs.Agreement.{AgreeOn}
use Rattle.slot_replay.specs.Following.{AreCovered, GoingOnIsWithin, IsFirstOutside, IsReadDone, PartsWithin, ToldIsFirst, WithinAgrees, WithinBreaks, WithinLawful}
use Rattle.slot_replay.proofs.Agreed.{any_same, breaks_agree, first_front, lawful_agree, part_alike, pasts_same}

-- ---- truth values

neither : (a b : Bool) → (a || b) ≡ false → (a ≡ false) × (b ≡ false)
neither true b e = absurd (true≢false e)
neither false b e = (refl, e)

-- ---- the first operation outside

-- the first part that has an operation outside, with those before it
record IsSplit (v : SlotValues) (ps : List Part) (x : PastAt) : Type 0 where
  front : List Part
  part : Part
  rest : List Part
  split : ps ≡ front ++ part ∷ rest
  before : PartsWithin front v
  first : slice_get (pasts_of v (front ++ part ∷ [])) 0 ≡ Some x

split_at : (v : SlotValues) (ps : List Part) (x : PastAt) → slice_get (pasts_of v ps) 0 ≡ Some x → IsSplit v ps x
split_at v [] x h = cc
split_at v (p ∷ ps) x h = go (outside v (is_on v p.clock) p.expression) refl (split_at v ps x)
  where
    go : (ys : List PastAt) → outside v (is_on v p.clock) p.expression ≡ ys → (slice_get (pasts_of v ps) 0 ≡ Some x → IsSplit v ps x)
        → IsSplit v (p ∷ ps) x
    go [] e later =
        let g : IsSplit v ps x = later (subst (λ ys. slice_get (ys ++ pasts_of v ps) 0 ≡ Some x) e h) in
        record {
          front = p ∷ g.front;
          part = g.part;
          rest = g.rest;
          split = ap (λ ps. p ∷ ps) g.split;
          before = subst (λ ys. ys ++ pasts_of v g.front ≡ []) (sym e) g.before;
          first = subst (λ ys. slice_get (ys ++ pasts_of v (g.front ++ g.part ∷ [])) 0 ≡ Some x) (sym e) g.first;
        }
    go (y ∷ ys) e later = record {
      front = [];
      part = p;
      rest = ps;
      split = refl;
      before = refl;
      first = subst (λ zs. slice_get (zs ++ []) 0 ≡ Some x) (sym e) (subst (λ zs. slice_get (zs ++ pasts_of v ps) 0 ≡ Some x) e h);
    }

nothing_told : (xs : List PastAt) (x : PastAt) → xs ≡ [] → slice_get xs 0 ≡ Some x → ⊥
nothing_told [] x e h = cc
nothing_told (y ∷ ys) x e h = cc

both_none : (xs ys : List PastAt) → xs ++ ys ≡ [] → (xs ≡ []) × (ys ≡ [])
both_none [] ys e = (refl, e)
both_none (x ∷ xs) ys e = cc

pasts_append : (v : SlotValues) (ps qs : List Part) → pasts_of v (ps ++ qs) ≡ pasts_of v ps ++ pasts_of v qs
pasts_append v [] qs = refl
pasts_append v (p ∷ ps) qs =
    ap (λ xs. outside v (is_on v p.clock) p.expression ++ xs) (pasts_append v ps qs)
    ∙ sym (append_assoc (outside v (is_on v p.clock) p.expression) (pasts_of v ps) (pasts_of v qs))

-- ---- conditions

any_within : (v : SlotValues) (es : List Resolution) → any_outside v es ≡ false → AllByRecursion (λ e. outside v true e ≡ []) es
any_within v [] f = tt
any_within v (e ∷ es) f =
    let h : (is_any (outside v true e) ≡ false) × (any_outside v es ≡ false) = neither (is_any (outside v true e)) (any_outside v es) f in
    (none_of (outside v true e) (λ x. true≢false (sym x ∙ h.0)), any_within v es h.1)

-- ---- what was outside

none_here : (s : Seen) (q : Conditions) (t : ℕ) → met_before s q t ≡ false → (u : ℕ) → u < t → is_outside s q u ≡ false
none_here s q zero e u l = absurd (omega (arith, l))
none_here s q (suc t) e u l = go (cases_order u t) (none_here s q t both.0 u)
  where
    both : (met_before s q t ≡ false) × (is_outside s q t ≡ false)
    both = neither (met_before s q t) (is_outside s q t) e

    go : (u ≡ t) ⊎ ((u < t) ⊎ (t < u)) → (u < t → is_outside s q u ≡ false) → is_outside s q u ≡ false
    go (inl i) earlier = subst (λ t. is_outside s q t ≡ false) (sym i) both.1
    go (inr (inl i)) earlier = earlier i
    go (inr (inr i)) earlier = absurd (omega (arith, l, i))

stays_met : (s : Seen) (q : Conditions) (t n : ℕ) → t < n → met_outside s q t ≡ true → met_before s q n ≡ true
stays_met s q t zero l e = absurd (omega (arith, l))
stays_met s q t (suc n) l e = go (cases_order t n) (stays_met s q t n)
  where
    go : (t ≡ n) ⊎ ((t < n) ⊎ (n < t)) → (t < n → met_outside s q t ≡ true → met_before s q n ≡ true) → met_before s q (suc n) ≡ true
    go (inl i) earlier = subst (λ n. met_before s q (suc n) ≡ true) i e
    go (inr (inl i)) earlier = ap (λ b. b || is_outside s q n) (earlier i e)
    go (inr (inr i)) earlier = absurd (omega (arith, l, i))

-- ---- of n instants

module _ (es : List Source) (c : Choices) (ks : List ℕ) (q : Conditions) (ps : List Part) (in_set : ℕ → Bool) (n : ℕ) (s : ℕ → SlotValues)
    (all : AreCovered es c ks q ps in_set n s) where
  abbrev table : ℕ → SlotValues
  table = value_in (rows c es ks n)

  abbrev seen : Seen
  seen = seen_in (rows c es ks n)

  abbrev Before : ℕ → Type 0
  Before m = (t : ℕ) → t < m → PartsWithin ps (s t)

  follow_in : (set : ℕ → Bool) → IsClosed es set → FollowIn es set c n s
  follow_in set closed k e p i = all.follow k e p (closed.read k e p i)

  -- the slots of the set are read
  are_read : (k : ℕ) → in_set k ≡ true → read_slots es k ≡ true
  are_read k i =
      let f : (e : Source) × (slice_get es k ≡ Some e) = source_at es k (all.closed.slots k i) in
      subst (λ o. is_read_at o ≡ true) (sym f.1) (all.closed.read k f.0 f.1 i)

  -- ---- up to the first operation outside

  agree : (m : ℕ) → m ≤ n → Before m → (t : ℕ) → t < m → AgreeOn in_set (table t) (s t)
  agree m few h t l k i = rows_agree es c ks in_set n m s all.order all.closed few (follow_in in_set all.closed)
      (λ u j. (all.covered u (omega (arith, few, j))).sources (h u j)) t l k i

  -- at the first instant that has one the parts up to the first have the same in the table
  part_same : (m : ℕ) → m < n → Before m → (before : List Part) (p : Part) (rest : List Part) → ps ≡ before ++ p ∷ rest → PartsWithin before (s m)
      → outside (table m) (is_on (table m) p.clock) p.expression ≡ outside (s m) (is_on (s m) p.clock) p.expression
  part_same m l h before p rest e within = part_alike d.done (table m) (s m) there p d.read
    where
      d : IsReadDone es in_set p (s m)
      d = (all.covered m l).first before p rest e within

      there : AgreeOn d.done (table m) (s m)
      there = done_agrees es c ks in_set d.done n m s all.order all.closed l (follow_in in_set all.closed)
          (λ u j. (all.covered u (omega (arith, l, j))).sources (h u j)) d.is_done

  front_same : (m : ℕ) → m < n → Before m → (before front : List Part) (p : Part) (rest : List Part) → ps ≡ before ++ (front ++ p ∷ rest)
      → PartsWithin before (s m) → PartsWithin front (s m) → pasts_of (table m) (front ++ p ∷ []) ≡ pasts_of (s m) (front ++ p ∷ [])
  front_same m l h before [] p rest e within none = ap (λ xs. xs ++ []) (part_same m l h before p rest e within)
  front_same m l h before (r ∷ front) p rest e within none =
      let z : (outside (s m) (is_on (s m) r.clock) r.expression ≡ []) × (pasts_of (s m) front ≡ []) =
      both_none (outside (s m) (is_on (s m) r.clock) r.expression) (pasts_of (s m) front) none in
      rw (
        part_same m l h before r (front ++ p ∷ rest) e within,
        front_same m l h (before ++ r ∷ []) front p rest (e ∙ sym (append_assoc before (r ∷ []) (front ++ p ∷ rest)))
            (pasts_append (s m) before (r ∷ []) ∙ rw (within, z.0) refl) z.1,
      ) refl

  -- so the table has the first one too
  first_there : (m : ℕ) → m < n → Before m → (x : PastAt) → slice_get (pasts_of (s m) ps) 0 ≡ Some x → first_past seen ps m ≡ Some x
  first_there m l h x e = subst (λ qs. slice_get (pasts_of (table m) qs) 0 ≡ Some x)
      (append_assoc f.front (f.part ∷ []) f.rest ∙ sym f.split)
      (first_front (table m) (f.front ++ f.part ∷ []) f.rest x
      (ap (λ xs. slice_get xs 0) (front_same m l h [] f.front f.part f.rest f.split refl f.before) ∙ f.first))
    where
      f : IsSplit (s m) ps x
      f = split_at (s m) ps x e

  -- and by then something was outside in it
  met_there : (m : ℕ) → m < n → (x : PastAt) → slice_get (pasts_of (s m) ps) 0 ≡ Some x → met_outside seen q m ≡ true
  met_there m l x e = go (cases_Bool (met_outside seen q m))
    where
      unmet : met_outside seen q m ≡ false → PartsWithin ps (s m)
      unmet f = (all.covered m l).parts
          (unmet_within es c ks (read_slots es) n (suc m) s all.order all.read few (follow_in (read_slots es) all.read) none m here)
          (record {
            legal = any_within (s m) q.legal (sym (any_same in_set (table m) (s m) same q.legal all.conditions.legal) ∙ both.0);
            properties =
                any_within (s m) q.properties (sym (any_same in_set (table m) (s m) same q.properties all.conditions.properties) ∙ both.1);
          })
        where
          few : suc m ≤ n
          few = omega (arith, l)

          here : m < suc m
          here = omega arith

          none : NoneMet es c ks n (suc m)
          none t j = (neither (seen.outside t) (any_outside (table t) q.legal || any_outside (table t) q.properties) (none_here seen q (suc m) f t j)).0

          both : (any_outside (table m) q.legal ≡ false) × (any_outside (table m) q.properties ≡ false)
          both = neither (any_outside (table m) q.legal) (any_outside (table m) q.properties)
              (neither (seen.outside m) (any_outside (table m) q.legal || any_outside (table m) q.properties) (none_here seen q (suc m) f m here)).1

          same : AgreeOn in_set (table m) (s m)
          same k i = unmet_agree es c ks (read_slots es) n (suc m) s all.order all.read few (follow_in (read_slots es) all.read) none m here k
              (are_read k i)

      go : (met_outside seen q m ≡ true) ⊎ (met_outside seen q m ≡ false) → met_outside seen q m ≡ true
      go (inl t) = t
      go (inr f) = absurd (nothing_told (pasts_of (s m) ps) x (unmet f) e)

  -- ---- is there one

  record IsFirst (m : ℕ) : Type 0 where
    at : ℕ
    below : at < m
    before : Before at
    past : PastAt
    first : slice_get (pasts_of (s at) ps) 0 ≡ Some past

  found : (m : ℕ) → Before m ⊎ IsFirst m
  found zero = inl (λ t l. absurd (omega (arith, l)))
  found (suc m) = go (found m)
    where
      go : Before m ⊎ IsFirst m → Before (suc m) ⊎ IsFirst (suc m)
      go (inr f) = inr (record { at = f.at; below = let l = f.below in omega (arith, l); before = f.before; past = f.past; first = f.first })
      go (inl h) = look (pasts_of (s m) ps) refl
        where
          each : PartsWithin ps (s m) → (t : ℕ) → t < suc m → (t ≡ m) ⊎ ((t < m) ⊎ (m < t)) → PartsWithin ps (s t)
          each e t l (inl i) = subst (λ m. PartsWithin ps (s m)) (sym i) e
          each e t l (inr (inl i)) = h t i
          each e t l (inr (inr i)) = absurd (omega (arith, l, i))

          look : (xs : List PastAt) → pasts_of (s m) ps ≡ xs → Before (suc m) ⊎ IsFirst (suc m)
          look [] e = inl (λ t l. each e t l (cases_order t m))
          look (x ∷ xs) e = inr (record { at = m; below = omega arith; before = h; past = x; first = ap (λ xs. slice_get xs 0) e })

  -- ---- what is told

  goes_not_on : (f : IsFirst n) → (first_past seen ps f.at ≡ None) → ⊥
  goes_not_on f none = apart (first_past seen ps f.at) (first_there f.at f.below f.before f.past f.first) none
    where
      apart : (o : Option PastAt) → o ≡ Some f.past → o ≡ None → ⊥
      apart o h k = cc

  told_is_first : (t : ℕ) (p : PastAt) → IsFirstTold seen q ps n t p → IsFirstOutside s ps n t p
  told_is_first t p h = go (found t)
    where
      go : Before t ⊎ IsFirst t → IsFirstOutside s ps n t p
      go (inr f) =
          let l = h.below in
          let m = f.below in
          let g : IsFirst n = record { at = f.at; below = omega (arith, l, m); before = f.before; past = f.past; first = f.first } in
          absurd (goes_not_on g (h.earlier f.at m (met_there g.at g.below g.past g.first)))
      go (inl before) = record { below = h.below; earlier = before; first = look (pasts_of (s t) ps) refl }
        where
          each : PartsWithin ps (s t) → (u : ℕ) → u < suc t → (u ≡ t) ⊎ ((u < t) ⊎ (t < u)) → PartsWithin ps (s u)
          each e u l (inl i) = subst (λ t. PartsWithin ps (s t)) (sym i) e
          each e u l (inr (inl i)) = before u i
          each e u l (inr (inr i)) = absurd (omega (arith, l, i))

          look : (xs : List PastAt) → pasts_of (s t) ps ≡ xs → slice_get (pasts_of (s t) ps) 0 ≡ Some p
          look [] e =
              let l = h.below in
              let few : suc t ≤ n = omega (arith, l) in
              let here : t < suc t = omega arith in
              let same : pasts_of (table t) ps ≡ pasts_of (s t) ps =
              pasts_same in_set (table t) (s t) (agree (suc t) few (λ u l. each e u l (cases_order u t)) t here) ps all.parts in
              absurd (nothing_told (pasts_of (table t) ps) p (same ∙ e) h.first)
          look (x ∷ xs) e =
              let first : slice_get (pasts_of (s t) ps) 0 ≡ Some x = ap (λ xs. slice_get xs 0) e in
              first ∙ (sym (first_there t h.below before x first) ∙ h.first)

  going_on_is_within : (met_before seen q n ≡ true → AllGoOn seen q ps n) → (t : ℕ) → t < n → PartsWithin ps (s t)
  going_on_is_within h = go (found n)
    where
      go : Before n ⊎ IsFirst n → Before n
      go (inl before) = before
      go (inr f) =
          let met : met_outside seen q f.at ≡ true = met_there f.at f.below f.past f.first in
          absurd (goes_not_on f (h (stays_met seen q f.at n f.below met) f.at f.below met))

  all_agree : Before n → (t : ℕ) → t < n → AgreeOn in_set (table t) (s t)
  all_agree h = let few : n ≤ n = omega arith in agree n few h

pub told_first : ToldIsFirst
told_first es c ks q ps in_set n s all t p h = told_is_first es c ks q ps in_set n s all t p h

pub within_going_on : GoingOnIsWithin
within_going_on es c ks q ps in_set n s all h = going_on_is_within es c ks q ps in_set n s all h

pub within_agrees : WithinAgrees
within_agrees es c ks q ps in_set n s all h = all_agree es c ks q ps in_set n s all h

pub within_breaks : WithinBreaks
within_breaks es c ks q ps in_set n s all h hits breaks =
    breaks_agree in_set q n (value_in (rows c es ks n)) s hits all.conditions (all_agree es c ks q ps in_set n s all h) breaks

pub within_lawful : WithinLawful
within_lawful es c ks q ps in_set n s all h a lawful =
    lawful_agree in_set q n a (value_in (rows c es ks n)) s all.conditions (all_agree es c ks q ps in_set n s all h) lawful
