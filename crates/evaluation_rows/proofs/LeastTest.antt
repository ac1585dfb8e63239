-- Whether a list of numbers is the least order: a test that computes.
use Rattle.std.proofs.Common.{◌≡◌, ℕ, zero, suc, ◌<◌, Bool, true, false, not, ◌&&◌, ◌||◌, eqb, List, [], ◌∷◌, ◌++◌, refl, ◌∙◌, sym, subst, arith, nat_lt}
use Rattle.std.specs.List.{AllByRecursion, IsDistinct, list_all}
use Rattle.std.proofs.Math.Logic.{◌⊎◌, inl, inr}
use Rattle.std.proofs.lemmas.Bool.{true≢false, false≢true, cases_Bool, cases_order, ltb-true}
use Rattle.lus_meaning.specs.Order.{is_listed, IsReady, AreReady, IsNext, AreNext, IsLeastOrder}
use Rattle.lus_meaning.proofs.Orders.{distinct-cons, no_numbers}
use Rattle.lus_meaning.proofs.FirstFault.{both}

-- the numbers below a number
abbrev pub below : ℕ → List ℕ
below zero = []
below (suc n) = n ∷ below n

abbrev pub all_below : ℕ → (ℕ → Bool) → Bool
all_below n p = list_all p (below n)

pub each_below : (n : ℕ) (p : ℕ → Bool) → all_below n p ≡ true → (k : ℕ) → k < n → p k ≡ true
each_below zero p e k l = absurd (omega arith)
each_below (suc n) p e k l = go (cases_order k n) (each_below n p (both (p n) (all_below n p) e).1 k)
  where
    go : (k ≡ n) ⊎ ((k < n) ⊎ (n < k)) → (k < n → p k ≡ true) → p k ≡ true
    go (inl h) r = subst (λ m. p m ≡ true) (sym h) (both (p n) (all_below n p) e).0
    go (inr (inl h)) r = r h
    go (inr (inr h)) r = absurd (omega arith)

pub either : (a b : Bool) → (a || b) ≡ true → (a ≡ true) ⊎ (b ≡ true)
either true b e = inl refl
either false b e = inr e

pub not_true : (a : Bool) → not a ≡ true → a ≡ false
not_true true e = absurd (false≢true e)
not_true false e = refl

abbrev is_distinct : List ℕ → Bool
is_distinct [] = true
is_distinct (k ∷ ks) = not (is_listed ks k) && is_distinct ks

distinct_by : (ks : List ℕ) → is_distinct ks ≡ true → IsDistinct eqb ks
distinct_by [] e = no_numbers
distinct_by (k ∷ ks) e =
    let h : (not (is_listed ks k) ≡ true) × (is_distinct ks ≡ true) = both (not (is_listed ks k)) (is_distinct ks) e in
    distinct-cons k ks (distinct_by ks h.1) (not_true (is_listed ks k) h.0)

module _ (count : ℕ) (Needs : ℕ → ℕ → Type 0) (needs : ℕ → ℕ → Bool) where
  abbrev is_ready : List ℕ → ℕ → Bool
  is_ready done k = all_below count (λ j. not (needs k j) || is_listed done j)

  abbrev is_passed : List ℕ → ℕ → Bool
  is_passed done j = is_listed done j || not (is_ready done j)

  abbrev is_next : List ℕ → ℕ → Bool
  is_next done k = nat_lt k count && (not (is_listed done k) && (is_ready done k && all_below k (is_passed done)))

  abbrev are_next : List ℕ → List ℕ → Bool
  are_next done [] = true
  are_next done (k ∷ ks) = is_next done k && are_next (done ++ k ∷ []) ks

  abbrev pub is_least_order : List ℕ → Bool
  is_least_order ks = is_distinct ks && (all_below count (is_listed ks) && are_next [] ks)

  module _ (found : (k j : ℕ) → needs k j ≡ true → Needs k j)
      (missed : (k j : ℕ) → k < count → j < count → needs k j ≡ false → Needs k j → ⊥) where
    ready_by : (done : List ℕ) (k : ℕ) → k < count → is_ready done k ≡ true → IsReady count Needs done k
    ready_by done k b e j l n =
        go (either (not (needs k j)) (is_listed done j) (each_below count (λ j. not (needs k j) || is_listed done j) e j l))
      where
        go : (not (needs k j) ≡ true) ⊎ (is_listed done j ≡ true) → is_listed done j ≡ true
        go (inl h) = absurd (missed k j b l (not_true (needs k j) h) n)
        go (inr h) = h

    -- what a ready number needs is listed, so the test finds it ready
    all_from : (n : ℕ) (p : ℕ → Bool) → ((k : ℕ) → k < n → p k ≡ true) → all_below n p ≡ true
    all_from zero p h = refl
    all_from (suc n) p h = rw (h n (omega arith)) (all_from n p (λ k l. h k (omega arith)))

    ready_test : (done : List ℕ) (k : ℕ) → IsReady count Needs done k → is_ready done k ≡ true
    ready_test done k r = all_from count (λ j. not (needs k j) || is_listed done j) each
      where
        each : (j : ℕ) → j < count → (not (needs k j) || is_listed done j) ≡ true
        each j l = go (cases_Bool (needs k j))
          where
            go : (needs k j ≡ true) ⊎ (needs k j ≡ false) → (not (needs k j) || is_listed done j) ≡ true
            go (inl e) = rw (e, r j l (found k j e)) refl
            go (inr e) = rw e refl

    next_by : (done : List ℕ) (k : ℕ) → is_next done k ≡ true → IsNext count Needs done k
    next_by done k e =
        let a : (nat_lt k count ≡ true) × ((not (is_listed done k) && (is_ready done k && all_below k (is_passed done))) ≡ true) =
        both (nat_lt k count) (not (is_listed done k) && (is_ready done k && all_below k (is_passed done))) e in
        let b : (not (is_listed done k) ≡ true) × ((is_ready done k && all_below k (is_passed done)) ≡ true) =
        both (not (is_listed done k)) (is_ready done k && all_below k (is_passed done)) a.1 in
        let c : (is_ready done k ≡ true) × (all_below k (is_passed done) ≡ true) =
        both (is_ready done k) (all_below k (is_passed done)) b.1 in
        let l : k < count = ltb-true k count a.0 in
        record {
          below = l;
          new = not_true (is_listed done k) b.0;
          ready = ready_by done k l c.0;
          least = λ j m f r. none j (each_below k (is_passed done) c.1 j m) f r;
        }
      where
        none : (j : ℕ) → is_passed done j ≡ true → is_listed done j ≡ false → IsReady count Needs done j → ⊥
        none j h f r = true≢false (sym h ∙ rw (f, ready_test done j r) refl)

    nexts_by : (done ks : List ℕ) → are_next done ks ≡ true → AreNext count Needs done ks
    nexts_by done [] e = tt
    nexts_by done (k ∷ ks) e =
        let h : (is_next done k ≡ true) × (are_next (done ++ k ∷ []) ks ≡ true) = both (is_next done k) (are_next (done ++ k ∷ []) ks) e in
        (next_by done k h.0, nexts_by (done ++ k ∷ []) ks h.1)

    readies : (done ks : List ℕ) → AreNext count Needs done ks → AreReady count Needs done ks
    readies done [] a = tt
    readies done (k ∷ ks) a = (a.0.ready, readies (done ++ k ∷ []) ks a.1)

    belows : (done ks : List ℕ) → AreNext count Needs done ks → AllByRecursion (λ k. k < count) ks
    belows done [] a = tt
    belows done (k ∷ ks) a = (a.0.below, belows (done ++ k ∷ []) ks a.1)

    pub least_by : (ks : List ℕ) → is_least_order ks ≡ true → IsLeastOrder count Needs ks
    least_by ks e =
        let a : (is_distinct ks ≡ true) × ((all_below count (is_listed ks) && are_next [] ks) ≡ true) =
        both (is_distinct ks) (all_below count (is_listed ks) && are_next [] ks) e in
        let b : (all_below count (is_listed ks) ≡ true) × (are_next [] ks ≡ true) = both (all_below count (is_listed ks)) (are_next [] ks) a.1 in
        let n : AreNext count Needs [] ks = nexts_by [] ks b.1 in
        record {
          order = record { below = belows [] ks n; all = each_below count (is_listed ks) b.0; once = distinct_by ks a.0; ready = readies [] ks n };
          next = n;
        }
