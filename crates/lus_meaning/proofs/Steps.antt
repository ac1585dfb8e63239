-- Orders by needs of several steps, and by those of one.
use Rattle.std.proofs.Common.{◌≡◌, ℕ, ◌<◌, true, false, eqb, List, [], ◌∷◌, ◌++◌, refl, sym, ◌∙◌, subst, arith}
use Rattle.std.specs.List.{AllByRecursion}
use Rattle.std.proofs.Math.Logic.{◌⊎◌, inl, inr}
use Rattle.std.proofs.lemmas.Bool.{true≢false, eqb-true, cases_Bool}
use Rattle.std.proofs.lemmas.List.Folds.{list_any-append}
use Rattle.lus_meaning.specs.Order.{is_listed, IsReady, AreReady, IsOrder, AreNext, IsLeastOrder}

-- needs that are among others
module _ (count : ℕ) (Less More : ℕ → ℕ → Type 0) (among : (k j : ℕ) → k < count → j < count → Less k j → More k j) where
  pub fewer_ready : (done : List ℕ) (k : ℕ) → k < count → IsReady count More done k → IsReady count Less done k
  fewer_ready done k l r j h n = r j h (among k j l h n)

  pub fewer_are_ready : (done ks : List ℕ) → AllByRecursion (λ k. k < count) ks → AreReady count More done ks → AreReady count Less done ks
  fewer_are_ready done [] b a = tt
  fewer_are_ready done (k ∷ ks) b a = (fewer_ready done k b.0 a.0, fewer_are_ready (done ++ k ∷ []) ks b.1 a.1)

  pub fewer_order : (ks : List ℕ) → IsOrder count More ks → IsOrder count Less ks
  fewer_order ks o = record { below = o.below; all = o.all; once = o.once; ready = fewer_are_ready [] ks o.below o.ready }

-- steps, each to a number that the one before needs
module _ (count : ℕ) (Step : ℕ → ℕ → Type 0) where
  abbrev pub AreSteps : ℕ → List ℕ → Type 0
  AreSteps k [] = Unit {0}
  AreSteps k (j ∷ js) = (j < count) × Step k j × AreSteps j js

  abbrev pub last_step : ℕ → List ℕ → ℕ
  last_step k [] = k
  last_step k (j ∷ js) = last_step j js

  -- one needs the other by one step at least
  pub record NeedsBySteps (k j : ℕ) : Type 0 where
    pub first : ℕ
    pub rest : List ℕ
    pub steps : AreSteps k (first ∷ rest)
    pub last : last_step first rest ≡ j

-- Where needs are those by steps, both relations have the same orders.
module _ (count : ℕ) (Step Far : ℕ → ℕ → Type 0) (near : (k j : ℕ) → k < count → j < count → Step k j → Far k j) (by_steps : (k j : ℕ) → k < count → j < count → Far k j → NeedsBySteps count Step k j) where
  -- with each number all that it needs is listed
  abbrev IsClosed : List ℕ → Type 0
  IsClosed done = (k : ℕ) → k < count → is_listed done k ≡ true → IsReady count Step done k

  follow : (done : List ℕ) → IsClosed done → (k : ℕ) (js : List ℕ) → k < count → is_listed done k ≡ true → AreSteps count Step k js
      → is_listed done (last_step count Step k js) ≡ true
  follow done c k [] l e s = e
  follow done c k (j ∷ js) l e s = follow done c j js s.0 (c k l e j s.0 s.1) s.2

  far_ready : (done : List ℕ) → IsClosed done → (k : ℕ) → k < count → IsReady count Step done k → IsReady count Far done k
  far_ready done c k l r j h n =
      let q : NeedsBySteps count Step k j = by_steps k j l h n in
      subst (λ m. is_listed done m ≡ true) q.last (follow done c q.first q.rest q.steps.0 (r q.first q.steps.0 q.steps.1) q.steps.2)

  listed_more : (done : List ℕ) (k j : ℕ) → is_listed done j ≡ true → is_listed (done ++ k ∷ []) j ≡ true
  listed_more done k j e = list_any-append (eqb j) done (k ∷ []) ∙ rw e refl

  one_more : (done : List ℕ) (k : ℕ) → IsClosed done → IsReady count Step done k → IsClosed (done ++ k ∷ [])
  one_more done k c r m l e j h n = go (cases_Bool (is_listed done m)) (cases_Bool (eqb m k))
    where
      go : (is_listed done m ≡ true) ⊎ (is_listed done m ≡ false) → (eqb m k ≡ true) ⊎ (eqb m k ≡ false) → is_listed (done ++ k ∷ []) j ≡ true
      go (inl t) q = listed_more done k j (c m l t j h n)
      go (inr f) (inl t) = listed_more done k j (r j h (subst (λ q. Step q j) (eqb-true m k t) n))
      go (inr f) (inr g) = absurd (true≢false (sym e ∙ list_any-append (eqb m) done (k ∷ []) ∙ rw (f, g) refl))

  far_are_ready : (done ks : List ℕ) → IsClosed done → AllByRecursion (λ k. k < count) ks → AreReady count Step done ks → AreReady count Far done ks
  far_are_ready done [] c b a = tt
  far_are_ready done (k ∷ ks) c b a = (far_ready done c k b.0 a.0, far_are_ready (done ++ k ∷ []) ks (one_more done k c a.0) b.1 a.1)

  far_next : (done ks : List ℕ) → IsClosed done → AreNext count Step done ks → AreNext count Far done ks
  far_next done [] c a = tt
  far_next done (k ∷ ks) c a =
      let l : k < count = a.0.below in (
        record {
          below = l;
          new = a.0.new;
          ready = far_ready done c k l a.0.ready;
          least = λ j h e r. a.0.least j h e (fewer_ready count Step Far near done j (omega arith) r);
        },
        far_next (done ++ k ∷ []) ks (one_more done k c a.0.ready) a.1,
      )

  near_next : (done ks : List ℕ) → IsClosed done → AreNext count Far done ks → AreNext count Step done ks
  near_next done [] c a = tt
  near_next done (k ∷ ks) c a =
      let l : k < count = a.0.below in
      let r : IsReady count Step done k = fewer_ready count Step Far near done k l a.0.ready in (
        record { below = l; new = a.0.new; ready = r; least = λ j h e q. a.0.least j h e (far_ready done c j (omega arith) q) },
        near_next (done ++ k ∷ []) ks (one_more done k c r) a.1,
      )

  none_closed : IsClosed []
  none_closed k l e = absurd (true≢false (sym e))

  pub far_order : (ks : List ℕ) → IsOrder count Step ks → IsOrder count Far ks
  far_order ks o = record { below = o.below; all = o.all; once = o.once; ready = far_are_ready [] ks none_closed o.below o.ready }

  pub far_least : (ks : List ℕ) → IsLeastOrder count Step ks → IsLeastOrder count Far ks
  far_least ks o = record { order = far_order ks o.order; next = far_next [] ks none_closed o.next }

  pub near_least : (ks : List ℕ) → IsLeastOrder count Far ks → IsLeastOrder count Step ks
  near_least ks o = record { order = fewer_order count Step Far near ks o.order; next = near_next [] ks none_closed o.next }
