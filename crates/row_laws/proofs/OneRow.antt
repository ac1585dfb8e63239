-- Rows that follow from sources with ranks, for the same choices, have the same in all slots that are read.
use Rattle.std.proofs.Common.{◌≡◌, ℕ, zero, suc, ◌<◌, Bool, true, List, [], ◌∷◌, ◌++◌, refl, ap, ◌∙◌, sym, arith, Some, slice_get}
use Rattle.std.specs.List.{AllByRecursion}
use Rattle.lus_meaning.specs.Value.{Value, is}
use Rattle.lus_meaning.proofs.Lists.{all_from, all_from_both, all_from_three}
use Rattle.lus_meaning.proofs.Now.{left_part, right_part}
use Rattle.slot_values.specs.Resolution.{Resolution, known, slot, negated, opposite, combined, chosen, started, sampled, merged, latest}
use Rattle.slot_values.specs.Evaluated.{SlotValues, worth, outside}
use Rattle.slot_sources.specs.declared.source.Switch.{Switch}
use Rattle.slot_sources.specs.Source.{Source, always, runs, runs_while, same, given, argument, listed, remembered, starting, held, unread}
use Rattle.slot_sources.specs.Rows.{is_on, Choices, value_now, outside_now, brought_next, outside_next, brought, is_read, Follow, slots_read, reads_now, reads_before}
use Rattle.slot_sources.specs.Sources.{HasRanks}
use Rattle.row_laws.specs.OneRow.{IsReadSlot, ReadSlotsAlone, OneRowFollows, ResolutionsBySlotsRead, SourcesBySlotsRead, IsDone}

module _ (s u : SlotValues) where
  abbrev pub Agree : List ℕ → Type 0
  Agree ks = AllByRecursion (λ k. s k ≡ u k) ks

  first : (xs ys : List ℕ) → Agree (xs ++ ys) → Agree xs
  first xs ys a = left_part (λ k. s k ≡ u k) xs ys a

  rest : (xs ys : List ℕ) → Agree (xs ++ ys) → Agree ys
  rest xs ys a = right_part (λ k. s k ≡ u k) xs ys a

  pub worth_same : (e : Resolution) (on : Bool) → Agree (slots_read e) → worth s on e ≡ worth u on e
  worth_same (known v) on a = refl
  worth_same (slot k) on a = rw a.0 refl
  worth_same (negated e) on a = rw (worth_same e on a) refl
  worth_same (opposite p e) on a = rw (worth_same e on a) refl
  worth_same (combined p o e d) on a =
      rw (worth_same e on (first (slots_read e) (slots_read d) a), worth_same d on (rest (slots_read e) (slots_read d) a)) refl
  worth_same (chosen e d c) on a =
      let b = first (slots_read e ++ slots_read d) (slots_read c) a in
      rw (
        worth_same e on (first (slots_read e) (slots_read d) b),
        worth_same d on (rest (slots_read e) (slots_read d) b),
        worth_same c on (rest (slots_read e ++ slots_read d) (slots_read c) a),
      ) refl
  worth_same (started k e d) on a =
      rw (a.0, worth_same e on (first (slots_read e) (slots_read d) a.1), worth_same d on (rest (slots_read e) (slots_read d) a.1)) refl
  worth_same (sampled k q e) on a = rw (a.0, worth_same e _ a.1) refl
  worth_same (merged k e d) on a =
      rw (a.0, worth_same e _ (first (slots_read e) (slots_read d) a.1), worth_same d _ (rest (slots_read e) (slots_read d) a.1)) refl
  worth_same (latest e b o h) on a =
      let z = rest (slots_read e) (b ∷ o ∷ h ∷ []) a in rw (z.0, z.1.0, z.1.1.0) refl

  pub outside_same : (e : Resolution) (on : Bool) → Agree (slots_read e) → outside s on e ≡ outside u on e
  outside_same (known v) on a = refl
  outside_same (slot k) on a = refl
  outside_same (negated e) on a = outside_same e on a
  outside_same (opposite p e) on a = rw (outside_same e on a, worth_same e on a) refl
  outside_same (combined p o e d) on a =
      let b = first (slots_read e) (slots_read d) a in
      let c = rest (slots_read e) (slots_read d) a in
      rw (outside_same e on b, outside_same d on c, worth_same e on b, worth_same d on c) refl
  outside_same (chosen e d c) on a =
      let b = first (slots_read e ++ slots_read d) (slots_read c) a in
      rw (
        outside_same e on (first (slots_read e) (slots_read d) b),
        outside_same d on (rest (slots_read e) (slots_read d) b),
        outside_same c on (rest (slots_read e ++ slots_read d) (slots_read c) a),
      ) refl
  outside_same (started k e d) on a =
      rw (outside_same e on (first (slots_read e) (slots_read d) a.1), outside_same d on (rest (slots_read e) (slots_read d) a.1)) refl
  outside_same (sampled k q e) on a = rw (a.0, outside_same e _ a.1) refl
  outside_same (merged k e d) on a =
      rw (a.0, outside_same e _ (first (slots_read e) (slots_read d) a.1), outside_same d _ (rest (slots_read e) (slots_read d) a.1)) refl
  outside_same (latest e b o h) on a = outside_same e on (first (slots_read e) (b ∷ o ∷ h ∷ []) a)

  on_same : (w : Switch) → s w.slot ≡ u w.slot → is_on s w ≡ is_on u w
  on_same w e = ap (is w.wanted) e

  worth_where : (w : Switch) (e : Resolution) → s w.slot ≡ u w.slot → Agree (slots_read e) → worth s (is_on s w) e ≡ worth u (is_on u w) e
  worth_where w e h a = worth_same e (is_on s w) a ∙ ap (λ o. worth u o e) (on_same w h)

  pub now_same : (v z : Value) (e : Source) → v ≡ z → Agree (reads_now e) → value_now s v e ≡ value_now u z e
  now_same v z always h a = refl
  now_same v z (runs w) h a = rw (on_same w a.0) refl
  now_same v z (runs_while w e) h a = rw (worth_where w e a.0 a.1, on_same w a.0) refl
  now_same v z (same k) h a = a.0
  now_same v z (given w e) h a = worth_where w e a.0 a.1
  now_same v z (argument b w e) h a = rw (a.0, worth_where w e a.1.0 a.1.1) refl
  now_same v z (listed w) h a = rw (on_same w a.0, h) refl
  now_same v z (remembered w e) h a = h
  now_same v z (starting w) h a = h
  now_same v z (held b o d) h a = h
  now_same v z unread h a = h

  next_same : (k : ℕ) (e : Source) → s k ≡ u k → Agree (reads_before e) → brought_next s k e ≡ brought_next u k e
  next_same k always h a = refl
  next_same k (runs w) h a = refl
  next_same k (runs_while w e) h a = refl
  next_same k (same j) h a = refl
  next_same k (given w e) h a = refl
  next_same k (argument b w e) h a = refl
  next_same k (listed w) h a = refl
  next_same k (remembered w e) h a = rw (worth_where w e a.0 a.1, on_same w a.0, h) refl
  next_same k (starting w) h a = rw (on_same w a.0, h) refl
  next_same k (held b o d) h a = rw (a.0, a.1.0, h) refl
  next_same k unread h a = refl

  outside_where : (w : Switch) (e : Resolution) → s w.slot ≡ u w.slot → Agree (slots_read e) → outside s (is_on s w) e ≡ outside u (is_on u w) e
  outside_where w e h a = outside_same e (is_on s w) a ∙ ap (λ o. outside u o e) (on_same w h)

  outside_now_same : (e : Source) → Agree (reads_now e) → outside_now s e ≡ outside_now u e
  outside_now_same always a = refl
  outside_now_same (runs w) a = refl
  outside_now_same (runs_while w e) a = outside_where w e a.0 a.1
  outside_now_same (same j) a = refl
  outside_now_same (given w e) a = outside_where w e a.0 a.1
  outside_now_same (argument b w e) a = outside_where w e a.1.0 a.1.1
  outside_now_same (listed w) a = refl
  outside_now_same (remembered w e) a = refl
  outside_now_same (starting w) a = refl
  outside_now_same (held b o d) a = refl
  outside_now_same unread a = refl

  outside_next_same : (e : Source) → Agree (reads_before e) → outside_next s e ≡ outside_next u e
  outside_next_same always a = refl
  outside_next_same (runs w) a = refl
  outside_next_same (runs_while w e) a = refl
  outside_next_same (same j) a = refl
  outside_next_same (given w e) a = refl
  outside_next_same (argument b w e) a = refl
  outside_next_same (listed w) a = refl
  outside_next_same (remembered w e) a = outside_where w e a.0 a.1
  outside_next_same (starting w) a = refl
  outside_next_same (held b o d) a = refl
  outside_next_same unread a = refl

pub resolutions_by_slots_read : ResolutionsBySlotsRead
resolutions_by_slots_read s u on e a = (worth_same s u e on a, outside_same s u e on a)

pub sources_by_slots_read : SourcesBySlotsRead
sources_by_slots_read s u e = record {
  values = λ a v. now_same s u v v e refl a;
  operations = λ a. outside_now_same s u e a;
  brought = λ a k h. next_same s u k e h a;
  operations_before = λ a. outside_next_same s u e a;
}

module _ (c : Choices) (rows others : ℕ → SlotValues) (k : ℕ) where
  brought_zero : (e : Source) → brought c rows k zero e ≡ brought c others k zero e
  brought_zero always = refl
  brought_zero (runs w) = refl
  brought_zero (runs_while w e) = refl
  brought_zero (same j) = refl
  brought_zero (given w e) = refl
  brought_zero (argument b w e) = refl
  brought_zero (listed w) = refl
  brought_zero (remembered w e) = refl
  brought_zero (starting w) = refl
  brought_zero (held b o d) = refl
  brought_zero unread = refl

  brought_later : (t : ℕ) (e : Source) → rows t k ≡ others t k → Agree (rows t) (others t) (reads_before e) →
      brought c rows k (suc t) e ≡ brought c others k (suc t) e
  brought_later t (listed w) h a = refl
  brought_later t always h a = refl
  brought_later t (runs w) h a = refl
  brought_later t (runs_while w e) h a = refl
  brought_later t (same j) h a = refl
  brought_later t (given w e) h a = refl
  brought_later t (argument b w e) h a = refl
  brought_later t (remembered w e) h a = next_same (rows t) (others t) k (remembered w e) h a
  brought_later t (starting w) h a = next_same (rows t) (others t) k (starting w) h a
  brought_later t (held b o d) h a = next_same (rows t) (others t) k (held b o d) h a
  brought_later t unread h a = refl

module _ (es : List Source) (r : HasRanks es) (alone : ReadSlotsAlone es) (c : Choices) (n : ℕ) (rows others : ℕ → SlotValues)
    (follow : Follow es c n rows) (follow' : Follow es c n others) where
  abbrev SameAt : ℕ → Type 0
  SameAt t = (k : ℕ) (e : Source) → slice_get es k ≡ Some e → is_read e ≡ true → rows t k ≡ others t k

  abbrev SameBrought : ℕ → Type 0
  SameBrought t = (k : ℕ) (e : Source) → slice_get es k ≡ Some e → is_read e ≡ true → brought c rows k t e ≡ brought c others k t e

  by_rank : (t : ℕ) → t < n → SameBrought t → (m k : ℕ) (e : Source) → r.rank k < m → slice_get es k ≡ Some e → is_read e ≡ true →
      rows t k ≡ others t k
  by_rank t l b zero k e q h z = absurd (omega (arith, q))
  by_rank t l b (suc m) k e q h z =
      follow k e h z t l
      ∙ now_same (rows t) (others t) (brought c rows k t e) (brought c others k t e) e (b k e h z)
      (all_from_both (λ j. r.rank j < r.rank k) (IsReadSlot es) (λ j. rows t j ≡ others t j)
      (λ j o y. by_rank t l b m j y.0 (omega (arith, o, q)) y.1 y.2) (reads_now e) (r.above k e h) (alone k e h).0)
      ∙ sym (follow' k e h z t l)

  at_instant : (t : ℕ) → t < n → SameBrought t → SameAt t
  at_instant t l b k e h z = by_rank t l b (suc (r.rank k)) k e (omega arith) h z

  all_same : (t : ℕ) → t < n → SameAt t
  all_same zero l = at_instant zero l (λ k e h z. brought_zero c rows others k e)
  all_same (suc t) l =
      let before : SameAt t = all_same t (omega (arith, l)) in
      at_instant (suc t) l (λ k e h z. brought_later c rows others k t e (before k e h z)
      (all_from (IsReadSlot es) (λ j. rows t j ≡ others t j) (λ j y. before j y.0 y.1 y.2) (reads_before e) (alone k e h).1))

-- ---- a row in the making

module _ (es : List Source) (r : HasRanks es) (alone : ReadSlotsAlone es) (c : Choices) (n : ℕ) (rows others : ℕ → SlotValues)
    (follow : Follow es c n rows) (follow' : Follow es c (suc n) others) (done : ℕ → Bool) (is_done : IsDone es c n rows done) where
  earlier : (t : ℕ) → t < n → (k : ℕ) (e : Source) → slice_get es k ≡ Some e → is_read e ≡ true → rows t k ≡ others t k
  earlier t l = all_same es r alone c n rows others follow (λ k e h z t l. follow' k e h z t (omega (arith, l))) t l

  brought_here : (t : ℕ) → t ≡ n → (k : ℕ) (e : Source) → slice_get es k ≡ Some e → is_read e ≡ true → brought c rows k t e ≡ brought c others k t e
  brought_here zero q k e h z = brought_zero c rows others k e
  brought_here (suc t) q k e h z =
      brought_later c rows others k t e (earlier t (omega (arith, q)) k e h z)
      (all_from (IsReadSlot es) (λ j. rows t j ≡ others t j) (λ j y. earlier t (omega (arith, q)) j y.0 y.1 y.2) (reads_before e) (alone k e h).1)

  done_by_rank : (m k : ℕ) (e : Source) → r.rank k < m → slice_get es k ≡ Some e → is_read e ≡ true → done k ≡ true → rows n k ≡ others n k
  done_by_rank zero k e q h z d = absurd (omega (arith, q))
  done_by_rank (suc m) k e q h z d =
      (is_done k e h z d).0
      ∙ now_same (rows n) (others n) (brought c rows k n e) (brought c others k n e) e (brought_here n refl k e h z)
      (all_from_three (λ j. r.rank j < r.rank k) (IsReadSlot es) (λ j. done j ≡ true) (λ j. rows n j ≡ others n j)
      (λ j o y i. done_by_rank m j y.0 (omega (arith, o, q)) y.1 y.2 i) (reads_now e) (r.above k e h) (alone k e h).0 (is_done k e h z d).1)
      ∙ sym (follow' k e h z n (omega arith))

  pub done_same : (k : ℕ) (e : Source) → slice_get es k ≡ Some e → is_read e ≡ true → done k ≡ true → rows n k ≡ others n k
  done_same k e h z d = done_by_rank (suc (r.rank k)) k e (omega arith) h z d

pub one_row_follows : OneRowFollows
one_row_follows es r alone c n rows others f g t l = all_same es r alone c n rows others f g t l
