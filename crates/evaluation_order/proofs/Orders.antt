-- The least order of the parts by the rows that say for which each waits.
use Rattle.std.proofs.Common.{◌≡◌, ◌∙◌, ℕ, ◌<◌, Bool, true, false, ◌||◌, eqb, List, [], ◌∷◌, ◌++◌, length, refl, sym, subst}
use Rattle.std.specs.List.{AllByRecursion}
use Rattle.std.proofs.Math.Logic.{◌⊎◌, inl, inr}
use Rattle.std.proofs.lemmas.Bool.{true≢false, false≢true, cases_Bool, eqb-true, eq-eqb}
use Rattle.std.proofs.lemmas.List.Folds.{list_any-append}
use Rattle.lus_meaning.specs.Order.{is_listed, Passes, AreReady, IsOrder, IsLeastOrder, IsStuck}
use Rattle.lus_meaning.specs.Scene.{Instance}
use Rattle.lus_evaluation.specs.Part.{Part}
use Rattle.lus_evaluation.specs.Evaluation.{Waits}
use Rattle.number_graphs.specs.Graphs.{Rows, row_at, leads}
use Rattle.number_graphs.proofs.Contracted.{same_least_order}
use Rattle.evaluation_order.specs.Givers.{AreWaited}

-- ---- where there is an order no listing is stuck

module _ (count : ℕ) (Needs : ℕ → ℕ → Type 0) where
  all_done : (done before ks : List ℕ) → IsStuck count Needs done → AreReady count Needs before ks → ((k : ℕ) → is_listed ks k ≡ true → k < count) →
      ((j : ℕ) → is_listed before j ≡ true → is_listed done j ≡ true) → (k : ℕ) → is_listed ks k ≡ true → is_listed done k ≡ true
  all_done done before [] s a below h k e = absurd (false≢true e)
  all_done done before (n ∷ ks) s a below h k e =
      go (either (eqb k n) (is_listed ks k) e) (all_done done (before ++ n ∷ []) ks s a.1 (λ j l. below j (right (eqb j n) (is_listed ks j) l)) more k)
    where
      either : (b c : Bool) → (b || c) ≡ true → (b ≡ true) ⊎ (c ≡ true)
      either true c e = inl refl
      either false c e = inr e

      right : (b c : Bool) → c ≡ true → (b || c) ≡ true
      right true c e = refl
      right false c e = e

      left : (b c : Bool) → b ≡ true → (b || c) ≡ true
      left b c e = rw e refl

      here : is_listed done n ≡ true
      here = yes (cases_Bool (is_listed done n))
        where
          yes : (is_listed done n ≡ true) ⊎ (is_listed done n ≡ false) → is_listed done n ≡ true
          yes (inl t) = t
          yes (inr f) = absurd (s.none n (below n (left (eqb n n) (is_listed ks n) (eq-eqb n n refl))) f (λ j l r. h j (a.0 j l r)))

      more : (j : ℕ) → is_listed (before ++ n ∷ []) j ≡ true → is_listed done j ≡ true
      more j l = pick (either (is_listed before j) (is_listed (n ∷ []) j) (sym (list_any-append (eqb j) before (n ∷ [])) ∙ l))
        where
          last : (b : Bool) → (b || false) ≡ true → b ≡ true
          last true e = refl
          last false e = absurd (false≢true e)

          pick : (is_listed before j ≡ true) ⊎ (is_listed (n ∷ []) j ≡ true) → is_listed done j ≡ true
          pick (inl t) = h j t
          pick (inr t) = subst (λ z. is_listed done z ≡ true) (sym (eqb-true j n (last (eqb j n) t))) here

      go : (eqb k n ≡ true) ⊎ (is_listed ks k ≡ true) → (is_listed ks k ≡ true → is_listed done k ≡ true) → is_listed done k ≡ true
      go (inl t) r = subst (λ z. is_listed done z ≡ true) (sym (eqb-true k n t)) here
      go (inr t) r = r t

  each_below : (ks : List ℕ) → AllByRecursion (λ k. k < count) ks → (k : ℕ) → is_listed ks k ≡ true → k < count
  each_below [] a k e = absurd (false≢true e)
  each_below (n ∷ ks) a k e = go (cases_Bool (eqb k n)) (each_below ks a.1 k)
    where
      go : (eqb k n ≡ true) ⊎ (eqb k n ≡ false) → (is_listed ks k ≡ true → k < count) → k < count
      go (inl t) r = subst (λ z. z < count) (sym (eqb-true k n t)) a.0
      go (inr f) r = r (rw f at e)

  pub never_stuck : (ks done : List ℕ) → IsOrder count Needs ks → IsStuck count Needs done → ⊥
  never_stuck ks done o s =
      true≢false (sym (all_done done [] ks s o.ready (each_below ks o.below) (λ j e. absurd (false≢true e)) s.left (o.all s.left s.below)) ∙ s.new)

-- ---- by rows

module _ (i : Instance) (qs : List Part) (rows : Rows) (whole : length rows ≡ length qs)
    (waited : (k : ℕ) → k < length qs → AreWaited i qs k (row_at rows k)) where
  pub least_of_rows : (ks : List ℕ) → IsLeastOrder (length rows) (Passes (leads rows)) ks → IsLeastOrder (length qs) (Waits i qs) ks
  least_of_rows ks o =
      same_least_order (length qs) (Passes (leads rows)) (Waits i qs) (λ k j l h e. (waited k l).each j e) (λ k j l h w. (waited k l).all j w) ks
      (subst (λ n. IsLeastOrder n (Passes (leads rows)) ks) whole o)

  pub stuck_of_rows : (ks : List ℕ) → IsStuck (length rows) (Passes (leads rows)) ks → IsStuck (length qs) (Waits i qs) ks
  stuck_of_rows ks s =
      let t : IsStuck (length qs) (Passes (leads rows)) ks = subst (λ n. IsStuck n (Passes (leads rows)) ks) whole s in
      record { left = t.left; below = t.below; new = t.new; none = λ k l e r. t.none k l e (λ j h n. r j h ((waited k l).each j n)) }
