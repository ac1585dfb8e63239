-- There is at most one least order, whatever needs what.
use Rattle.std.proofs.Common.{◌≡◌, ℕ, ◌<◌, true, List, [], ◌∷◌, ◌++◌, refl, ap, ◌∙◌, sym, subst, append_assoc}
use Rattle.std.proofs.Math.Logic.{◌⊎◌, inl, inr}
use Rattle.std.proofs.lemmas.Bool.{true≢false, cases_order}
use Rattle.lus_meaning.specs.Order.{is_listed, IsNext, AreNext, IsLeastOrder}
use Rattle.lus_meaning.proofs.Lists.{append_none}

module _ (count : ℕ) (Needs : ℕ → ℕ → Type 0) where
  one_next : (done : List ℕ) (j k : ℕ) → IsNext count Needs done j → IsNext count Needs done k → j ≡ k
  one_next done j k a b = go (cases_order j k)
    where
      go : (j ≡ k) ⊎ ((j < k) ⊎ (k < j)) → j ≡ k
      go (inl e) = e
      go (inr (inl l)) = absurd (b.least j l a.new a.ready)
      go (inr (inr l)) = absurd (a.least k l b.new b.ready)

  abbrev AllListed : List ℕ → Type 0
  AllListed ks = (k : ℕ) → k < count → is_listed ks k ≡ true

  none_left : (done : List ℕ) (k : ℕ) → IsNext count Needs done k → AllListed (done ++ []) → ⊥
  none_left done k a all = true≢false (sym (subst (λ d. is_listed d k ≡ true) (append_none done) (all k a.below)) ∙ a.new)

  one_rest : (done js ks : List ℕ) → AreNext count Needs done js → AreNext count Needs done ks → AllListed (done ++ js) →
      AllListed (done ++ ks) → js ≡ ks
  one_rest done [] [] a b l m = refl
  one_rest done [] (k ∷ ks) a b l m = absurd (none_left done k b.0 l)
  one_rest done (j ∷ js) [] a b l m = absurd (none_left done j a.0 m)
  one_rest done (j ∷ js) (k ∷ ks) a b l m =
      let e : k ≡ j = one_next done k j b.0 a.0 in
      let b' : AreNext count Needs (done ++ j ∷ []) ks = subst (λ q. AreNext count Needs (done ++ q ∷ []) ks) e b.1 in
      let m' : AllListed (done ++ j ∷ ks) = subst (λ q. AllListed (done ++ q ∷ ks)) e m in
      let r : js ≡ ks = one_rest (done ++ j ∷ []) js ks a.1 b' (subst AllListed (sym (append_assoc done (j ∷ []) js)) l)
      (subst AllListed (sym (append_assoc done (j ∷ []) ks)) m') in
      ap (λ q. j ∷ q) r ∙ ap (λ q. q ∷ ks) (sym e)

  pub one_least_order : (js ks : List ℕ) → IsLeastOrder count Needs js → IsLeastOrder count Needs ks → js ≡ ks
  one_least_order js ks a b = one_rest [] js ks a.next b.next a.order.all b.order.all
