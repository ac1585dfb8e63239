-- Orders of numbers by two relations that say the same, and by the steps of a relation and by their closure.
use Rattle.std.proofs.Common.{◌≡◌, ◌↔◌, ℕ, ◌<◌, Bool, true, false, eqb, ◌||◌, List, [], ◌∷◌, ◌++◌, refl, subst}
use Rattle.std.specs.List.{AllByRecursion}
use Rattle.std.proofs.Math.Logic.{◌⊎◌, inl, inr}
use Rattle.std.proofs.lemmas.Bool.{false≢true, eqb-true}
use Rattle.lus_meaning.specs.Order.{is_listed, Passes, IsReady, AreReady, IsOrder, AreNext, IsLeastOrder}
use Rattle.way_laws.specs.Closure.{Closure, one_step, more_steps}
use Rattle.way_laws.specs.Laws.{OrdersBySteps}

-- ---- two relations that say the same

module _ (count : ℕ) (A B : ℕ → ℕ → Type 0) where
  -- what is ready by the one is so by the other, in these lists
  module _ (Good : List ℕ → Type 0) (keeps : (done : List ℕ) (k : ℕ) → Good done → k < count → IsReady count A done k → Good (done ++ k ∷ []))
      (to : (done : List ℕ) (k : ℕ) → Good done → IsReady count A done k → IsReady count B done k)
      (back : (done : List ℕ) (k : ℕ) → Good done → IsReady count B done k → IsReady count A done k) where
    ready_to : (done ks : List ℕ) → Good done → AllByRecursion (λ k. k < count) ks → AreReady count A done ks → AreReady count B done ks
    ready_to done [] h b r = tt
    ready_to done (k ∷ ks) h b r = (to done k h r.0, ready_to (done ++ k ∷ []) ks (keeps done k h b.0 r.0) b.1 r.1)

    ready_back : (done ks : List ℕ) → Good done → AllByRecursion (λ k. k < count) ks → AreReady count B done ks → AreReady count A done ks
    ready_back done [] h b r = tt
    ready_back done (k ∷ ks) h b r =
        let a : IsReady count A done k = back done k h r.0 in
        (a, ready_back (done ++ k ∷ []) ks (keeps done k h b.0 a) b.1 r.1)

    next_to : (done ks : List ℕ) → Good done → AreNext count A done ks → AreNext count B done ks
    next_to done [] h n = tt
    next_to done (k ∷ ks) h n = (
      record {
        below = n.0.below;
        new = n.0.new;
        ready = to done k h n.0.ready;
        least = λ j l e r. n.0.least j l e (back done j h r);
      },
      next_to (done ++ k ∷ []) ks (keeps done k h n.0.below n.0.ready) n.1,
    )

    next_back : (done ks : List ℕ) → Good done → AreNext count B done ks → AreNext count A done ks
    next_back done [] h n = tt
    next_back done (k ∷ ks) h n =
        let a : IsReady count A done k = back done k h n.0.ready in (
          record { below = n.0.below; new = n.0.new; ready = a; least = λ j l e r. n.0.least j l e (to done j h r) },
          next_back (done ++ k ∷ []) ks (keeps done k h n.0.below a) n.1,
        )

    pub orders_to : Good [] → (ks : List ℕ) → IsOrder count A ks → IsOrder count B ks
    orders_to h ks o = record { below = o.below; all = o.all; once = o.once; ready = ready_to [] ks h o.below o.ready }

    pub orders_back : Good [] → (ks : List ℕ) → IsOrder count B ks → IsOrder count A ks
    orders_back h ks o = record { below = o.below; all = o.all; once = o.once; ready = ready_back [] ks h o.below o.ready }

    pub orders_same : Good [] → (ks : List ℕ) → (IsOrder count B ks ↔ IsOrder count A ks) × (IsLeastOrder count B ks ↔ IsLeastOrder count A ks)
    orders_same h ks = (
      (orders_back h ks, orders_to h ks),
      (
        (λ o. record { order = orders_back h ks o.order; next = next_back [] ks h o.next }),
        (λ o. record { order = orders_to h ks o.order; next = next_to [] ks h o.next }),
      ),
    )

pub same_orders : (count : ℕ) (A B : ℕ → ℕ → Type 0) → ((k j : ℕ) → A k j ↔ B k j) → (ks : List ℕ)
    → (IsOrder count B ks ↔ IsOrder count A ks) × (IsLeastOrder count B ks ↔ IsLeastOrder count A ks)
same_orders count A B f = orders_same count A B (λ _. Unit {0}) (λ done k h l r. tt) (λ done k h r j l n. r j l ((f k j).1 n))
    (λ done k h r j l n. r j l ((f k j).0 n)) tt

-- ---- steps

module _ (count : ℕ) (Step : ℕ → ℕ → Type 0) where
  abbrev All : ℕ → ℕ → Type 0
  All = Closure count Step

  -- all that what is listed needs is listed
  abbrev IsClosed : List ℕ → Type 0
  IsClosed done = (k j : ℕ) → j < count → is_listed done k ≡ true → Step k j → is_listed done j ≡ true

  follows : (done : List ℕ) → IsClosed done → (k j : ℕ) → j < count → is_listed done k ≡ true → All k j → is_listed done j ≡ true
  follows done c k j l e (one_step a b s) = c k j l e s
  follows done c k j l e (more_steps a m b h s r) = follows done c m j l (c k m h e s) r

  -- listed behind the last
  in_either : (x : ℕ) (xs : List ℕ) (k : ℕ) → is_listed (xs ++ k ∷ []) x ≡ true → (is_listed xs x ≡ true) ⊎ (x ≡ k)
  in_either x [] k e = go (eqb x k) refl e
    where
      go : (b : Bool) → eqb x k ≡ b → (b || false) ≡ true → (is_listed [] x ≡ true) ⊎ (x ≡ k)
      go true h e = inr (eqb-true x k h)
      go false h e = absurd (false≢true e)
  in_either x (y ∷ xs) k e = go (eqb x y) e (in_either x xs k)
    where
      go : (b : Bool) → (b || is_listed (xs ++ k ∷ []) x) ≡ true → (is_listed (xs ++ k ∷ []) x ≡ true → (is_listed xs x ≡ true) ⊎ (x ≡ k))
          → ((b || is_listed xs x) ≡ true) ⊎ (x ≡ k)
      go true e f = inl refl
      go false e f = f e

  still_listed : (x : ℕ) (xs ys : List ℕ) → is_listed xs x ≡ true → is_listed (xs ++ ys) x ≡ true
  still_listed x [] ys e = absurd (false≢true e)
  still_listed x (y ∷ xs) ys e = go (eqb x y) e (still_listed x xs ys)
    where
      go : (b : Bool) → (b || is_listed xs x) ≡ true → (is_listed xs x ≡ true → is_listed (xs ++ ys) x ≡ true) → (b || is_listed (xs ++ ys) x) ≡ true
      go true e f = refl
      go false e f = f e

  closed_more : (done : List ℕ) (k : ℕ) → IsClosed done → k < count → IsReady count Step done k → IsClosed (done ++ k ∷ [])
  closed_more done k c l r m j h e s = go (in_either m done k e)
    where
      go : (is_listed done m ≡ true) ⊎ (m ≡ k) → is_listed (done ++ k ∷ []) j ≡ true
      go (inl t) = still_listed j done (k ∷ []) (c m j h t s)
      go (inr t) = still_listed j done (k ∷ []) (r j h (subst (λ x. Step x j) t s))

  ready_all : (done : List ℕ) (k : ℕ) → IsClosed done → IsReady count Step done k → IsReady count All done k
  ready_all done k c r j l (one_step a b s) = r j l s
  ready_all done k c r j l (more_steps a m b h s t) = follows done c m j l (r m h s) t

  ready_step : (done : List ℕ) (k : ℕ) → IsClosed done → IsReady count All done k → IsReady count Step done k
  ready_step done k c r j l s = r j l (one_step k j s)

  by_steps : (ks : List ℕ) → (IsOrder count All ks ↔ IsOrder count Step ks) × (IsLeastOrder count All ks ↔ IsLeastOrder count Step ks)
  by_steps = orders_same count Step All IsClosed closed_more ready_all ready_step (λ k j l e s. absurd (false≢true e))

pub orders_by_steps : OrdersBySteps
orders_by_steps count step = by_steps count (Passes step)
