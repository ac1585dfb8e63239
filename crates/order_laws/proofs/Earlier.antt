-- In a least order a number comes before another one where all that it needs does.
use Rattle.std.proofs.Common.{◌≡◌, ℕ, ◌<◌, true, false, List, [], ◌∷◌, ◌++◌, length, subst}
use Rattle.std.proofs.Math.Logic.{◌⊎◌, inl, inr}
use Rattle.std.proofs.lemmas.Bool.{cases_Bool}
use Rattle.lus_meaning.specs.Order.{is_listed, IsReady, IsNext, AreNext, IsLeastOrder}
use Rattle.lus_evaluation.specs.Evaluation.{Waits}
use Rattle.lus_evaluation.proofs.Turns.{next_at}
use Rattle.order_laws.specs.Laws.{ComesFirst}

module _ (count : ℕ) (Needs : ℕ → ℕ → Type 0) where
  pub listed_first : (ks : List ℕ) → IsLeastOrder count Needs ks → (first second : ℕ) → first < second → (before after : List ℕ) →
      ks ≡ before ++ second ∷ after →
      ((j : ℕ) → j < count → Needs first j → Needs second j ⊎ (is_listed before j ≡ true)) → is_listed before first ≡ true
  listed_first ks o first second l before after d among = go (cases_Bool (is_listed before first))
    where
      next : IsNext count Needs before second
      next = next_at count Needs [] before second after (subst (AreNext count Needs []) d o.next)

      by : (j : ℕ) → j < count → Needs second j ⊎ (is_listed before j ≡ true) → is_listed before j ≡ true
      by j b (inl m) = next.ready j b m
      by j b (inr t) = t

      ready : IsReady count Needs before first
      ready j b n = by j b (among j b n)

      go : (is_listed before first ≡ true) ⊎ (is_listed before first ≡ false) → is_listed before first ≡ true
      go (inl t) = t
      go (inr f) = absurd (next.least first l f ready)

pub comes_first : ComesFirst
comes_first i ps ks o first second l before after d among =
    listed_first (length ps) (Waits i ps) ks o first second l before after d (λ j b w. among j w)
