-- What is noted are the breaks and the lawful instants.
use Rattle.std.proofs.Common.{◌≡◌, ℕ, zero, suc, ◌<◌, ◌≤◌, ◌+◌, Bool, true, false, not, cond, ◌&&◌, eqb, List, [], ◌∷◌, Option, Some, None, get_or, slice_get, refl, ap, ◌∙◌, sym, subst, arith}
use Rattle.std.proofs.Math.Logic.{◌⊎◌, inl, inr}
use Rattle.std.proofs.lemmas.Bool.{true≢false, and_parts, cases_order, cases_lt, eqb-true, eqb-false}
use Rattle.slot_values.specs.Resolution.{Resolution}
use Rattle.slot_values.specs.Evaluated.{SlotValues}
use Rattle.slot_rows.specs.Table.{Row, value_in}
use Rattle.slot_replay.specs.Conditions.{Conditions, all_true, is_true}
use Rattle.slot_replay.specs.Answer.{AreBreaks, AreLawful, Breaks, IsBreak, IsBreakOf, IsLawful}
use Rattle.slot_replay.specs.Marks.{Marks, counts_here, marked, marks_at, noted}

-- ---- in the list of what was found

some_is : (d e : Resolution) → Some d ≡ Some e → d ≡ e
some_is d e q = cc

noted_at : (v : SlotValues) (c : Bool) (t k : ℕ) (es : List Resolution) (bs : List (Option ℕ)) (j : ℕ) (e : Resolution) → slice_get es j ≡ Some e
    → get_or (noted v c t k es bs) j None ≡ marked (is_true v e) c t (get_or bs (k + j) None)
noted_at v c t k [] bs j e q = cc
noted_at v c t k (d ∷ es) bs zero e q = let z : k ≡ k + 0 = omega arith in
    ap (λ e. marked (is_true v e) c t (get_or bs k None)) (some_is d e q) ∙ ap (λ n. marked (is_true v e) c t (get_or bs n None)) z
noted_at v c t k (d ∷ es) bs (suc j) e q = let z : suc k + j ≡ k + suc j = omega arith in
    noted_at v c t (suc k) es bs j e q ∙ ap (λ n. marked (is_true v e) c t (get_or bs n None)) z

noted_here : (v : SlotValues) (c : Bool) (t : ℕ) (es : List Resolution) (bs : List (Option ℕ)) (j : ℕ) (e : Resolution) → slice_get es j ≡ Some e
    → get_or (noted v c t 0 es bs) j None ≡ marked (is_true v e) c t (get_or bs j None)
noted_here v c t es bs j e q = let z : 0 + j ≡ j = omega arith in
    noted_at v c t 0 es bs j e q ∙ ap (λ n. marked (is_true v e) c t (get_or bs n None)) z

noted_none : (v : SlotValues) (c : Bool) (t k : ℕ) (es : List Resolution) (bs : List (Option ℕ)) (j : ℕ) → slice_get es j ≡ None
    → get_or (noted v c t k es bs) j None ≡ None
noted_none v c t k [] bs j q = refl
noted_none v c t k (d ∷ es) bs zero q = cc
noted_none v c t k (d ∷ es) bs (suc j) q = noted_none v c t (suc k) es bs j q

module _ (s : ℕ → SlotValues) (q : Conditions) where
  -- ---- lawful instants

  -- so many of the first t instants are lawful
  record IsFront (t a : ℕ) : Type 0 where
    most : a ≤ t
    all : (u : ℕ) → u < a → all_true (s u) q.legal ≡ true
    stops : a < t → all_true (s a) q.legal ≡ false

  front_step : (t a : ℕ) → IsFront t a → IsFront (suc t) (cond (counts_here (s t) q t a) (suc t) a)
  front_step t a h = go (all_true (s t) q.legal) refl (eqb a t) refl
    where
      stays : eqb a t ≡ false → IsFront (suc t) a
      stays f = record {
        most = omega (arith, h.most);
        all = h.all;
        stops = λ l. later (cases_order a t);
      }
        where
          later : (a ≡ t) ⊎ ((a < t) ⊎ (t < a)) → all_true (s a) q.legal ≡ false
          later (inl e) = absurd (eqb-false a t f e)
          later (inr (inl l)) = h.stops l
          later (inr (inr l)) = let m = h.most in absurd (omega (arith, l, m))

      go : (b : Bool) → all_true (s t) q.legal ≡ b → (c : Bool) → eqb a t ≡ c → IsFront (suc t) (cond (b && c) (suc t) a)
      go true e false f = stays f
      go false e false f = stays f
      go false e true f = record {
        most = omega (arith, h.most);
        all = h.all;
        stops = λ l. subst (λ n. all_true (s n) q.legal ≡ false) (sym (eqb-true a t f)) e;
      }
      go true e true f = record {
        most = omega arith;
        all = λ u l. each u l (cases_order u t);
        stops = λ l. absurd (omega (arith, l));
      }
        where
          each : (u : ℕ) → u < suc t → (u ≡ t) ⊎ ((u < t) ⊎ (t < u)) → all_true (s u) q.legal ≡ true
          each u l (inl x) = subst (λ n. all_true (s n) q.legal ≡ true) (sym x) e
          each u l (inr (inl m)) = h.all u (subst (λ n. u < n) (sym (eqb-true a t f)) m)
          each u l (inr (inr m)) = absurd (omega (arith, l, m))

  front_is : (t : ℕ) → IsFront t (marks_at s q t).lawful
  front_is zero = record { most = omega arith; all = λ u l. absurd (omega (arith, l)); stops = λ l. absurd (omega (arith, l)) }
  front_is (suc t) = front_step t (marks_at s q t).lawful (front_is t)

  lawful_in : (n a t : ℕ) → IsFront n a → t < a → IsLawful s q t
  lawful_in n a t h l u m = h.all u (omega (arith, l, m))

  lawless_past : (n a t : ℕ) → IsFront n a → a ≤ t → t < n → IsLawful s q t → ⊥
  lawless_past n a t h l m lawful = true≢false (sym (lawful a l) ∙ h.stops (omega (arith, l, m)))

  pub are_lawful : (n : ℕ) → AreLawful s q n (marks_at s q n).lawful
  are_lawful n = record {
    most = (front_is n).most;
    lawful = λ t l. lawful_in n (marks_at s q n).lawful t (front_is n) l;
    lawless = λ t l m. lawless_past n (marks_at s q n).lawful t (front_is n) l m;
  }

  -- ---- breaks

  -- the first of so many instants at which a property is not true
  abbrev Found : Resolution → ℕ → Option ℕ → Type 0
  Found e a None = (u : ℕ) → u < a → is_true (s u) e ≡ true
  Found e a (Some t) = (t < a) × (is_true (s t) e ≡ false) × ((u : ℕ) → u < t → is_true (s u) e ≡ true)

  found_step : (t a : ℕ) (e : Resolution) (hit : Option ℕ) → IsFront t a → Found e a hit
      → Found e (cond (counts_here (s t) q t a) (suc t) a) (marked (is_true (s t) e) (counts_here (s t) q t a) t hit)
  found_step t a e hit front h = go (counts_here (s t) q t a) refl hit h
    where
      all_before : counts_here (s t) q t a ≡ true → a ≡ t
      all_before c = eqb-true a t (and_parts (all_true (s t) q.legal) (eqb a t) c).1

      go : (c : Bool) → counts_here (s t) q t a ≡ c → (hit : Option ℕ) → Found e a hit → Found e (cond c (suc t) a) (marked (is_true (s t) e) c t hit)
      go false k None h = h
      go false k (Some u) h = h
      go true k (Some u) h = let m = front.most in let l = h.0 in (omega (arith, l, m), h.1, h.2)
      go true k None h = at (is_true (s t) e) refl
        where
          before : (u : ℕ) → u < t → is_true (s u) e ≡ true
          before u l = h u (subst (λ n. u < n) (sym (all_before k)) l)

          each : is_true (s t) e ≡ true → (u : ℕ) → u < suc t → (u ≡ t) ⊎ ((u < t) ⊎ (t < u)) → is_true (s u) e ≡ true
          each x u l (inl i) = subst (λ n. is_true (s n) e ≡ true) (sym i) x
          each x u l (inr (inl m)) = before u m
          each x u l (inr (inr m)) = absurd (omega (arith, l, m))

          at : (b : Bool) → is_true (s t) e ≡ b → Found e (suc t) (cond (true && not b) (Some t) None)
          at true x = λ u l. each x u l (cases_order u t)
          at false x = (omega arith, x, before)

  found_is : (t k : ℕ) (e : Resolution) → slice_get q.properties k ≡ Some e
      → Found e (marks_at s q t).lawful (get_or (marks_at s q t).broken k None)
  found_is zero k e p = λ u l. absurd (omega (arith, l))
  found_is (suc t) k e p =
      let a = (marks_at s q t).lawful in
      let bs = (marks_at s q t).broken in
      subst (Found e (cond (counts_here (s t) q t a) (suc t) a)) (sym (noted_here (s t) (counts_here (s t) q t a) t q.properties bs k e p))
      (found_step t a e (get_or bs k None) (front_is t) (found_is t k e p))

  found_none : (t k : ℕ) → slice_get q.properties k ≡ None → get_or (marks_at s q t).broken k None ≡ None
  found_none zero k p = refl
  found_none (suc t) k p =
      noted_none (s t) (counts_here (s t) q t (marks_at s q t).lawful) t 0 q.properties (marks_at s q t).broken k p

  break_found : (n a : ℕ) (e : Resolution) (hit : Option ℕ) → IsFront n a → Found e a hit → IsBreak s q n e hit
  break_found n a e None front h = λ t l b. go t l b (cases_lt t a)
    where
      go : (t : ℕ) → t < n → Breaks s q e t → (t < a) ⊎ (a ≤ t) → ⊥
      go t l b (inl m) = true≢false (sym (h t m) ∙ b.fails)
      go t l b (inr m) = lawless_past n a t front m l b.lawful
  break_found n a e (Some t) front h =
      let m = front.most in
      let l = h.0 in
      (omega (arith, l, m), record { lawful = lawful_in n a t front l; first = h.2; fails = h.1 })

  pub are_breaks : (n : ℕ) → AreBreaks s q n (λ k. get_or (marks_at s q n).broken k None)
  are_breaks n k = go (slice_get q.properties k) refl
    where
      go : (o : Option Resolution) → slice_get q.properties k ≡ o → IsBreakOf s q n o (get_or (marks_at s q n).broken k None)
      go None p = found_none n k p
      go (Some e) p = break_found n (marks_at s q n).lawful e (get_or (marks_at s q n).broken k None) (front_is n) (found_is n k e p)

-- ---- of a table

pub table_lawful : (rs us : List Row) (q : Conditions) (n : ℕ) (m : Marks) → rs ≡ us → m ≡ marks_at (value_in rs) q n
    → AreLawful (value_in us) q n m.lawful
table_lawful rs us q n m e f =
    subst (λ m. AreLawful (value_in us) q n m.lawful) (sym (f ∙ ap (λ rs. marks_at (value_in rs) q n) e)) (are_lawful (value_in us) q n)

pub table_breaks : (rs us : List Row) (q : Conditions) (n : ℕ) (m : Marks) → rs ≡ us → m ≡ marks_at (value_in rs) q n
    → AreBreaks (value_in us) q n (λ k. get_or m.broken k None)
table_breaks rs us q n m e f = subst (λ m. AreBreaks (value_in us) q n (λ k. get_or m.broken k None))
    (sym (f ∙ ap (λ rs. marks_at (value_in rs) q n) e)) (are_breaks (value_in us) q n)
