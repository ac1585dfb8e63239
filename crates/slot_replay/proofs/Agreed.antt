-- Rows that agree on what conditions and parts read have the same answers.
use Rattle.std.proofs.Common.{◌≡◌, ℕ, zero, suc, ◌<◌, ◌≤◌, Bool, true, List, [], ◌∷◌, ◌++◌, Option, Some, None, slice_get, refl, ap, ◌∙◌, sym, subst, arith}
use Rattle.lus_meaning.proofs.Lists.{all_from}
use Rattle.slot_values.specs.Resolution.{Resolution}
use Rattle.slot_values.specs.Evaluated.{SlotValues, outside}
use Rattle.slot_values.specs.declared.resolved.PastAt.{PastAt}
use Rattle.slot_sources.specs.Rows.{is_on, slots_read}
use Rattle.slot_rows.proofs.Dependence.{SameOn, outside_same, worth_same}
use Rattle.slot_replay.specs.Conditions.{Conditions, all_true, any_outside, is_true}
use Rattle.slot_replay.specs.Parts.{Part, pasts_of}
use Rattle.slot_replay.specs.Answer.{Breaks, GoesOn, IsBreak, IsBreakOf, IsLawful, first_past, is_outside, met_before, met_outside}
use Rattle.slot_replay.specs.Agreement.{AgreeOn, AreIn, BreaksAgree, ConditionsReadIn, FirstAgree, LawfulAgree, PartsReadIn, PastsAgree, ReadIn, WithinTrue, part_reads}

-- ---- at one instant

module _ (in_set : ℕ → Bool) (s r : SlotValues) (agree : AgreeOn in_set s r) where
  same_on : (ks : List ℕ) → AreIn in_set ks → SameOn s r ks
  same_on ks a = all_from (λ k. in_set k ≡ true) (λ k. s k ≡ r k) agree ks a

  true_same : (e : Resolution) → AreIn in_set (slots_read e) → is_true s e ≡ is_true r e
  true_same e a = rw (worth_same s r true e (same_on (slots_read e) a), outside_same s r true e (same_on (slots_read e) a)) refl

  all_same : (es : List Resolution) → ReadIn in_set es → all_true s es ≡ all_true r es
  all_same [] a = refl
  all_same (e ∷ es) a = rw (true_same e a.0, all_same es a.1) refl

  pub any_same : (es : List Resolution) → ReadIn in_set es → any_outside s es ≡ any_outside r es
  any_same [] a = refl
  any_same (e ∷ es) a = rw (outside_same s r true e (same_on (slots_read e) a.0), any_same es a.1) refl

  pub part_alike : (p : Part) → AreIn in_set (part_reads p) → outside s (is_on s p.clock) p.expression ≡ outside r (is_on r p.clock) p.expression
  part_alike p a = rw (agree p.clock.slot a.0) (outside_same s r (is_on r p.clock) p.expression (same_on (slots_read p.expression) a.1))

  pub pasts_same : (ps : List Part) → PartsReadIn in_set ps → pasts_of s ps ≡ pasts_of r ps
  pasts_same [] a = refl
  pasts_same (p ∷ ps) a = rw (part_alike p a.0, pasts_same ps a.1) refl

turned : (in_set : ℕ → Bool) (s r : SlotValues) → AgreeOn in_set s r → AgreeOn in_set r s
turned in_set s r h k i = sym (h k i)

read_at : (in_set : ℕ → Bool) (es : List Resolution) (k : ℕ) (e : Resolution) → slice_get es k ≡ Some e → ReadIn in_set es
    → AreIn in_set (slots_read e)
read_at in_set [] k e q a = cc
read_at in_set (d ∷ es) zero e q a = subst (λ e. AreIn in_set (slots_read e)) (some_is d e q) a.0
  where
    some_is : (d e : Resolution) → Some d ≡ Some e → d ≡ e
    some_is d e q = cc
read_at in_set (d ∷ es) (suc k) e q a = read_at in_set es k e q a.1

-- ---- of n instants

abbrev Agree : (ℕ → Bool) → ℕ → (ℕ → SlotValues) → (ℕ → SlotValues) → Type 0
Agree in_set n s r = (t : ℕ) → t < n → AgreeOn in_set (s t) (r t)

turned_all : (in_set : ℕ → Bool) (n : ℕ) (s r : ℕ → SlotValues) → Agree in_set n s r → Agree in_set n r s
turned_all in_set n s r h t l = turned in_set (s t) (r t) (h t l)

lawful_same : (in_set : ℕ → Bool) (q : Conditions) (n : ℕ) (s r : ℕ → SlotValues) → ConditionsReadIn in_set q → Agree in_set n s r
    → (t : ℕ) → t < n → IsLawful s q t → IsLawful r q t
lawful_same in_set q n s r reads agree t l h u m =
    sym (all_same in_set (s u) (r u) (agree u (omega (arith, l, m))) q.legal reads.legal) ∙ h u m

breaks_same : (in_set : ℕ → Bool) (q : Conditions) (n : ℕ) (s r : ℕ → SlotValues) → ConditionsReadIn in_set q → Agree in_set n s r
    → (e : Resolution) → AreIn in_set (slots_read e) → (t : ℕ) → t < n → Breaks s q e t → Breaks r q e t
breaks_same in_set q n s r reads agree e a t l b = record {
  lawful = lawful_same in_set q n s r reads agree t l b.lawful;
  first = λ u m. sym (true_same in_set (s u) (r u) (agree u (omega (arith, l, m))) e a) ∙ b.first u m;
  fails = sym (true_same in_set (s t) (r t) (agree t l) e a) ∙ b.fails;
}

pub breaks_agree : BreaksAgree
breaks_agree in_set q n s r hits reads agree breaks k = go (slice_get q.properties k) refl (hits k) (breaks k)
  where
    one : (e : Resolution) → AreIn in_set (slots_read e) → (hit : Option ℕ) → IsBreak s q n e hit → IsBreak r q n e hit
    one e a None h = λ t l b. h t l (breaks_same in_set q n r s reads (turned_all in_set n s r agree) e a t l b)
    one e a (Some t) h = (h.0, breaks_same in_set q n s r reads agree e a t h.0 h.1)

    go : (o : Option Resolution) → slice_get q.properties k ≡ o → (hit : Option ℕ) → IsBreakOf s q n o hit → IsBreakOf r q n o hit
    go None p hit h = h
    go (Some e) p hit h = one e (read_at in_set q.properties k e p reads.properties) hit h

pub lawful_agree : LawfulAgree
lawful_agree in_set q n a s r reads agree h = record {
  most = h.most;
  lawful = λ t l. let m = h.most in lawful_same in_set q n s r reads agree t (omega (arith, l, m)) (h.lawful t l);
  lawless = λ t l m lawful. h.lawless t l m (lawful_same in_set q n r s reads (turned_all in_set n s r agree) t m lawful);
}

-- ---- what is told

pub pasts_agree : PastsAgree
pasts_agree in_set q ps n m s r reads parts agree flags = record {
  told = λ t p l h. record {
    below = h.below;
    met = sym (met_same t l) ∙ h.met;
    first = sym (first_same t l) ∙ h.first;
    earlier = λ u k. goes_on u (omega (arith, l, k)) (h.earlier u k);
  };
  going_on = λ h t l. goes_on t l (h t l);
}
  where
    here_same : (t : ℕ) → t < m → is_outside s q t ≡ is_outside r q t
    here_same t l = rw (
      flags t l,
      any_same in_set (s.values t) (r.values t) (agree t l) q.legal reads.legal,
      any_same in_set (s.values t) (r.values t) (agree t l) q.properties reads.properties,
    ) refl

    before_same : (t : ℕ) → t ≤ m → met_before s q t ≡ met_before r q t
    before_same zero l = refl
    before_same (suc t) l = rw (before_same t (omega (arith, l)), here_same t (omega (arith, l))) refl

    met_same : (t : ℕ) → t < m → met_outside s q t ≡ met_outside r q t
    met_same t l = before_same (suc t) (omega (arith, l))

    first_same : (t : ℕ) → t < m → first_past s ps t ≡ first_past r ps t
    first_same t l = ap (λ xs. slice_get xs 0) (pasts_same in_set (s.values t) (r.values t) (agree t l) ps parts)

    goes_on : (t : ℕ) → t < m → GoesOn s q ps t → GoesOn r q ps t
    goes_on t l h met = sym (first_same t l) ∙ h (met_same t l ∙ met)

pub first_front : (r : SlotValues) (front rest : List Part) (p : PastAt) → slice_get (pasts_of r front) 0 ≡ Some p
    → slice_get (pasts_of r (front ++ rest)) 0 ≡ Some p
first_front r [] rest p h = cc
first_front r (f ∷ fs) rest p h = go (outside r (is_on r f.clock) f.expression) (first_front r fs rest p) h
  where
    go : (xs : List PastAt) → (slice_get (pasts_of r fs) 0 ≡ Some p → slice_get (pasts_of r (fs ++ rest)) 0 ≡ Some p)
        → slice_get (xs ++ pasts_of r fs) 0 ≡ Some p → slice_get (xs ++ pasts_of r (fs ++ rest)) 0 ≡ Some p
    go [] later h = later h
    go (x ∷ xs) later h = h

pub first_agree : FirstAgree
first_agree in_set front rest s r p parts agree h =
    first_front r front rest p (ap (λ xs. slice_get xs 0) (sym (pasts_same in_set s r agree front parts)) ∙ h)

pub within_true : WithinTrue
within_true s e h = rw h refl
