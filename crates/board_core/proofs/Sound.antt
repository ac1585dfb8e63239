-- Sound books: grown by true entries, and lists of facts.
use Rattle.std.specs.Prelude.{ℕ, zero, suc, ◌≡◌, ◌++◌, List, [], ◌∷◌, take, Some, slice_get, refl}
use Rattle.std.proofs.Common.{ap, sym, subst}
use Rattle.sys_terms.specs.View.{Machine}
use Rattle.sys_terms.specs.Fits.{IsFit}
use Rattle.cert_rules.specs.Facts.{Fact, IsFactAfter, AreFacts, IsHeldOf}
use Rattle.cert_rules.specs.Laws.{FactsHold}
use Rattle.board_core.specs.declared.plan.Plan.{Plan}
use Rattle.board_core.specs.Entries.{Claim, proved, broken, stuck, spent, Posting, IsTrueAfter, AreSound, facts_in, fact_in}
use Rattle.board_core.specs.Interleaving.{Event, posts, reads, AreEvents, book_of, IsBrokenOf, BookHolds}

-- an entry of a list with one more: one of the list, or the last
pub data Where (history : List Posting) (i : Posting) (n : ℕ) (j : Posting) : Type 0 where
  before : slice_get history n ≡ Some j → take n (history ++ i ∷ []) ≡ take n history → Where history i n j
  last : i ≡ j → take n (history ++ i ∷ []) ≡ history → Where history i n j

where-next : (k i : Posting) (history : List Posting) (n : ℕ) (j : Posting) → Where history i n j → Where (k ∷ history) i (suc n) j
where-next k i history n j (before e f) = before e (ap (λ l. k ∷ l) f)
where-next k i history n j (last e f) = last e (ap (λ l. k ∷ l) f)

some-same : {X : Type 0} (x y : X) → Some x ≡ Some y → x ≡ y
some-same x y e = cc

find-where : (history : List Posting) (i : Posting) (n : ℕ) (j : Posting) → slice_get (history ++ i ∷ []) n ≡ Some j → Where history i n j
find-where [] i zero j e = last (some-same i j e) refl
find-where [] i (suc n) j e = absurd cc
find-where (k ∷ history) i zero j e = before e refl
find-where (k ∷ history) i (suc n) j e = where-next k i history n j (find-where history i n j e)

-- a true entry put last leaves a sound book
pub sound-more : (m : Machine) (plan : Plan) (history : List Posting) (i : Posting) → AreSound m plan history → IsTrueAfter m plan history i.says
    → AreSound m plan (history ++ i ∷ [])
sound-more m plan history i sound t n j e = by (find-where history i n j e) where
  by : Where history i n j → IsTrueAfter m plan (take n (history ++ i ∷ [])) j.says
  by (before g f) = subst (λ l. IsTrueAfter m plan l j.says) (sym f) (sound n j g)
  by (last g f) = subst (λ l. IsTrueAfter m plan l j.says) (sym f) (subst (λ (k : Posting). IsTrueAfter m plan history k.says) g t)

pub events-sound : (m : Machine) (plan : Plan) (events : List Event) (history : List Posting) → AreSound m plan history → AreEvents m plan history events
    → AreSound m plan (book_of history events)
events-sound m plan [] history sound h = sound
events-sound m plan (posts seat says ∷ events) history sound h =
    events-sound m plan events (history ++ record { seat = seat; says = says } ∷ [])
    (sound-more m plan history (record { seat = seat; says = says }) sound h.0) h.1
events-sound m plan (reads seat ∷ events) history sound h = events-sound m plan events history sound h.1

pub empty-sound : (m : Machine) (plan : Plan) → AreSound m plan []
empty-sound m plan n i e = absurd cc

-- an entry behind a fact
pub record Behind (history : List Posting) (n : ℕ) (f : Fact) : Type 0 where
  pub item : Posting
  pub is_item : slice_get history n ≡ Some item
  pub is_fact : fact_in item.says ≡ f

behind : (history : List Posting) (n : ℕ) (f : Fact) → slice_get (facts_in history) n ≡ Some f → Behind history n f
behind [] n f e = absurd cc
behind (i ∷ history) zero f e = record { item = i; is_item = refl; is_fact = some-same (fact_in i.says) f e }
behind (i ∷ history) (suc n) f e = let b = behind history n f e in record { item = b.item; is_item = b.is_item; is_fact = b.is_fact }

facts-front : (n : ℕ) (history : List Posting) → facts_in (take n history) ≡ take n (facts_in history)
facts-front zero history = refl
facts-front (suc n) [] = refl
facts-front (suc n) (i ∷ history) = ap (λ l. fact_in i.says ∷ l) (facts-front n history)

fact-true : (m : Machine) (plan : Plan) (earlier : List Posting) (says : Claim)
    → IsTrueAfter m plan earlier says → IsFactAfter m (facts_in earlier) (fact_in says)
fact-true m plan earlier (proved f) h = h
fact-true m plan earlier (broken p path) h = tt
fact-true m plan earlier (stuck p path front) h = tt
fact-true m plan earlier (spent e p why grounds) h = tt

pub sound-facts : (m : Machine) (plan : Plan) (history : List Posting) → AreSound m plan history → AreFacts m (facts_in history)
sound-facts m plan history sound n f e =
    let b = behind history n f e in
    let h = fact-true m plan (take n history) b.item.says (sound n b.item b.is_item) in
    subst (IsFactAfter m (take n (facts_in history))) b.is_fact (subst (λ l. IsFactAfter m l (fact_in b.item.says)) (facts-front n history) h)

pub fact-at : (history : List Posting) (n : ℕ) (i : Posting) → slice_get history n ≡ Some i → slice_get (facts_in history) n ≡ Some (fact_in i.says)
fact-at [] n i e = absurd cc
fact-at (j ∷ history) zero i e = ap (λ (k : Posting). Some (fact_in k.says)) (some-same j i e)
fact-at (j ∷ history) (suc n) i e = fact-at history n i e

unbroken : (m : Machine) (plan : Plan) (history earlier : List Posting) → FactsHold m (facts_in history) → (n p : ℕ) (i : Posting)
    → slice_get history n ≡ Some i → IsHeldOf p (fact_in i.says) → (says : Claim) → IsTrueAfter m plan earlier says → IsBrokenOf p says → ⊥
unbroken m plan history earlier holds n p i at h (proved f) t b = b
unbroken m plan history earlier holds n p i at h (broken q path) t b =
    holds.unbroken n q (fact_in i.says) path (fact-at history n i at) (subst (λ r. IsHeldOf r (fact_in i.says)) (sym b) h) t.breaks
unbroken m plan history earlier holds n p i at h (stuck q path front) t b = b
unbroken m plan history earlier holds n p i at h (spent e q why grounds) t b = b

pub book-holds : ((m : Machine) (facts : List Fact) → IsFit m → AreFacts m facts → FactsHold m facts)
    → (m : Machine) (plan : Plan) (history : List Posting) → IsFit m → AreSound m plan history → BookHolds m history
book-holds law m plan history fit sound =
    let holds = law m (facts_in history) fit (sound-facts m plan history sound) in
    record {
      lemmas = holds.lemmas;
      held = holds.held;
      consistent = λ n k p i j a b h d. unbroken m plan history (take k history) holds n p i a h j.says (sound k j b) d;
    }
