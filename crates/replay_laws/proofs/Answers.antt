-- What is said of rows of values is said of the run.
use Rattle.std.proofs.Common.{◌≡◌, ℕ, zero, suc, ◌<◌, true, List, [], ◌∷◌, Option, Some, None, slice_get, refl, ◌∙◌, sym, subst, arith}
use Rattle.std.specs.List.{AllByRecursion}
use Rattle.slot_values.specs.Resolution.{Resolution}
use Rattle.slot_values.specs.Evaluated.{SlotValues, outside}
use Rattle.slot_replay.specs.Conditions.{Conditions, all_true, is_true}
use Rattle.slot_replay.specs.Answer.{AreBreaks, AreLawful, IsBreak, IsBreakOf, IsLawful}
use Rattle.slot_replay.specs.Following.{ConditionsWithin}
use Rattle.slot_replay.proofs.Agreed.{within_true}
use Rattle.condition_laws.specs.Breaks as rows
use Rattle.condition_laws.specs.Breaks.{AreLawfulRows, AreRowBreaks, BreaksRow, IsLawfulRow, IsRowBreak, IsRowBreakOf}

-- ---- at an instant

module _ (v : SlotValues) where
  abbrev Quiet : List Resolution → Type 0
  Quiet es = AllByRecursion (λ e. outside v true e ≡ []) es

  all_same : (es : List Resolution) → Quiet es → all_true v es ≡ rows.all_true v es
  all_same [] a = refl
  all_same (e ∷ es) a = rw (within_true v e a.0, all_same es a.1) refl

  one_quiet : (es : List Resolution) (k : ℕ) (e : Resolution) → Quiet es → slice_get es k ≡ Some e → outside v true e ≡ []
  one_quiet [] k e a q = cc
  one_quiet (d ∷ es) zero e a q = subst (λ e. outside v true e ≡ []) (some_is d e q) a.0
    where
      some_is : (d e : Resolution) → Some d ≡ Some e → d ≡ e
      some_is d e q = cc
  one_quiet (d ∷ es) (suc k) e a q = one_quiet es k e a.1 q

-- ---- of n instants

module _ (s : ℕ → SlotValues) (q : Conditions) (n : ℕ) (quiet : (t : ℕ) → t < n → ConditionsWithin q (s t)) where
  legal_same : (t : ℕ) → t < n → all_true (s t) q.legal ≡ rows.all_true (s t) q.legal
  legal_same t l = all_same (s t) q.legal (quiet t l).legal

  true_same : (k : ℕ) (e : Resolution) → slice_get q.properties k ≡ Some e → (t : ℕ) → t < n → is_true (s t) e ≡ rows.is_true (s t) e
  true_same k e p t l = within_true (s t) e (one_quiet (s t) q.properties k e (quiet t l).properties p)

  lawful_row : (t : ℕ) → t < n → IsLawful s q t → IsLawfulRow s q.legal t
  lawful_row t l h u m = sym (legal_same u (omega (arith, l, m))) ∙ h u m

  row_lawful : (t : ℕ) → t < n → IsLawfulRow s q.legal t → IsLawful s q t
  row_lawful t l h u m = legal_same u (omega (arith, l, m)) ∙ h u m

  pub lawful_rows : (a : ℕ) → AreLawful s q n a → AreLawfulRows s q.legal n a
  lawful_rows a h = record {
    most = h.most;
    lawful = λ t l. let m = h.most in lawful_row t (omega (arith, l, m)) (h.lawful t l);
    lawless = λ t l m lawful. h.lawless t l m (row_lawful t m lawful);
  }

  pub row_breaks : (hits : ℕ → Option ℕ) → AreBreaks s q n hits → AreRowBreaks s q.legal q.properties n hits
  row_breaks hits h k = go (slice_get q.properties k) refl (hits k) (h k)
    where
      one : (e : Resolution) → slice_get q.properties k ≡ Some e → (hit : Option ℕ) → IsBreak s q n e hit → IsRowBreak s q.legal n e hit
      one e p None h = λ t l b. h t l (record {
        lawful = row_lawful t l b.lawful;
        first = λ u m. true_same k e p u (omega (arith, l, m)) ∙ b.first u m;
        fails = true_same k e p t l ∙ b.fails;
      })
      one e p (Some t) h = let l = h.0 in (
        l,
        record {
          lawful = lawful_row t l h.1.lawful;
          first = λ u m. sym (true_same k e p u (omega (arith, l, m))) ∙ h.1.first u m;
          fails = sym (true_same k e p t l) ∙ h.1.fails;
        },
      )

      go : (o : Option Resolution) → slice_get q.properties k ≡ o → (hit : Option ℕ) → IsBreakOf s q n o hit → IsRowBreakOf s q.legal n o hit
      go None p hit h = h
      go (Some e) p hit h = one e p hit h
