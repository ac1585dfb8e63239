-- What some slots read at the same instant, and what that reads, and so on.
use Rattle.std.proofs.Common.{◌≡◌, ℕ, zero, suc, ◌+◌, ◌<◌, Bool, true, false, ◌||◌, eqb, List, [], ◌∷◌, ◌++◌, flat_map, refl, sym, subst, arith, Option, Some, None, slice_get}
use Rattle.std.specs.List.{AllByRecursion}
use Rattle.std.proofs.Math.Logic.{◌⊎◌, inl, inr}
use Rattle.std.proofs.lemmas.Bool.{false≢true, eqb-true, eq-eqb}
use Rattle.lus_meaning.specs.Order.{is_listed}
use Rattle.lus_meaning.proofs.Lists.{all_from, both_parts, or_left, or_true}
use Rattle.slot_sources.specs.Source.{Source}
use Rattle.slot_sources.specs.Rows.{reads_now}
use Rattle.slot_sources.specs.Sources.{HasRanks}

abbrev pub reads_of : Option Source → List ℕ
reads_of None = []
reads_of (Some e) = reads_now e

abbrev pub reads_at : List Source → ℕ → List ℕ
reads_at es k = reads_of (slice_get es k)

-- so many times
abbrev pub grown : List Source → ℕ → List ℕ → List ℕ
grown es zero ks = ks
grown es (suc n) ks = ks ++ grown es n (flat_map (reads_at es) ks)

-- what all are that are listed
listed_all : (P : ℕ → Type 0) (ks : List ℕ) → AllByRecursion P ks → (k : ℕ) → is_listed ks k ≡ true → P k
listed_all P [] a k h = absurd (false≢true h)
listed_all P (j ∷ ks) a k h = go (eqb k j) refl h (listed_all P ks a.1 k)
  where
    go : (c : Bool) → eqb k j ≡ c → (c || is_listed ks k) ≡ true → (is_listed ks k ≡ true → P k) → P k
    go true e h r = subst P (sym (eqb-true k j e)) a.0
    go false e h r = r h

listed_left : (ks js : List ℕ) (k : ℕ) → is_listed ks k ≡ true → is_listed (ks ++ js) k ≡ true
listed_left [] js k h = absurd (false≢true h)
listed_left (j ∷ ks) js k h = go (eqb k j) h (listed_left ks js k)
  where
    go : (c : Bool) → (c || is_listed ks k) ≡ true → (is_listed ks k ≡ true → is_listed (ks ++ js) k ≡ true) → (c || is_listed (ks ++ js) k) ≡ true
    go true h r = refl
    go false h r = r h

listed_right : (ks js : List ℕ) (k : ℕ) → is_listed js k ≡ true → is_listed (ks ++ js) k ≡ true
listed_right [] js k h = h
listed_right (j ∷ ks) js k h = or_true (eqb k j) (is_listed (ks ++ js) k) (listed_right ks js k h)

listed_either : (ks js : List ℕ) (k : ℕ) → is_listed (ks ++ js) k ≡ true → (is_listed ks k ≡ true) ⊎ (is_listed js k ≡ true)
listed_either [] js k h = inr h
listed_either (j ∷ ks) js k h = go (eqb k j) h (listed_either ks js k)
  where
    go : (c : Bool) → (c || is_listed (ks ++ js) k) ≡ true → (is_listed (ks ++ js) k ≡ true → (is_listed ks k ≡ true) ⊎ (is_listed js k ≡ true)) →
        ((c || is_listed ks k) ≡ true) ⊎ (is_listed js k ≡ true)
    go true h r = inl refl
    go false h r = r h

all_listed : (ks : List ℕ) → AllByRecursion (λ k. is_listed ks k ≡ true) ks
all_listed [] = tt
all_listed (k ∷ ks) = (
  or_left (eqb k k) (is_listed ks k) (eq-eqb k k refl),
  all_from (λ j. is_listed ks j ≡ true) (λ j. (eqb j k || is_listed ks j) ≡ true) (λ j h. or_true (eqb j k) (is_listed ks j) h) ks (all_listed ks),
)

flat_all : (P : ℕ → Type 0) (g : ℕ → List ℕ) (ks : List ℕ) → AllByRecursion (λ k. AllByRecursion P (g k)) ks → AllByRecursion P (flat_map g ks)
flat_all P g [] a = tt
flat_all P g (k ∷ ks) a = both_parts P (g k) (flat_map g ks) a.0 (flat_all P g ks a.1)

flat_listed : (g : ℕ → List ℕ) (ks : List ℕ) (k : ℕ) → is_listed ks k ≡ true → AllByRecursion (λ j. is_listed (flat_map g ks) j ≡ true) (g k)
flat_listed g [] k h = absurd (false≢true h)
flat_listed g (j ∷ ks) k h = go (eqb k j) refl h (flat_listed g ks k)
  where
    go : (c : Bool) → eqb k j ≡ c → (c || is_listed ks k) ≡ true →
        (is_listed ks k ≡ true → AllByRecursion (λ m. is_listed (flat_map g ks) m ≡ true) (g k)) →
        AllByRecursion (λ m. is_listed (g j ++ flat_map g ks) m ≡ true) (g k)
    go true e h r =
        subst (λ z. AllByRecursion (λ m. is_listed (g j ++ flat_map g ks) m ≡ true) (g z)) (sym (eqb-true k j e))
        (all_from (λ m. is_listed (g j) m ≡ true) (λ m. is_listed (g j ++ flat_map g ks) m ≡ true) (λ m q. listed_left (g j) (flat_map g ks) m q) (g j)
        (all_listed (g j)))
    go false e h r =
        all_from (λ m. is_listed (flat_map g ks) m ≡ true) (λ m. is_listed (g j ++ flat_map g ks) m ≡ true)
        (λ m q. listed_right (g j) (flat_map g ks) m q) (g k) (r h)

module _ (es : List Source) where
  -- what is so of these slots, and of all that such slots read, is so of all
  grown_all : (P : ℕ → Type 0) → ((k : ℕ) → P k → AllByRecursion P (reads_at es k)) → (n : ℕ) (ks : List ℕ) → AllByRecursion P ks →
      AllByRecursion P (grown es n ks)
  grown_all P step zero ks a = a
  grown_all P step (suc n) ks a =
      both_parts P ks (grown es n (flat_map (reads_at es) ks)) a
      (grown_all P step n (flat_map (reads_at es) ks)
      (flat_all P (reads_at es) ks (all_from P (λ k. AllByRecursion P (reads_at es k)) step ks a)))

  -- by ranks nothing is left to read in the end
  module _ (ranks : HasRanks es) where
    abbrev Low : ℕ → ℕ → Type 0
    Low n k = ranks.rank k < n

    lower_reads : (n k : ℕ) → Low (suc n) k → AllByRecursion (Low n) (reads_at es k)
    lower_reads n k l = go (slice_get es k) refl
      where
        go : (o : Option Source) → slice_get es k ≡ o → AllByRecursion (Low n) (reads_of o)
        go None e = tt
        go (Some s) e =
            all_from (λ j. ranks.rank j < ranks.rank k) (Low n) (λ j h. omega (arith, h, l)) (reads_now s) (ranks.above k s e)

    grown_closed : (n : ℕ) (ks : List ℕ) → AllByRecursion (Low n) ks → (k : ℕ) → is_listed (grown es n ks) k ≡ true →
        AllByRecursion (λ j. is_listed (grown es n ks) j ≡ true) (reads_at es k)
    grown_closed zero ks a k h = absurd (let l : ranks.rank k < 0 = listed_all (Low 0) ks a k h in omega (arith, l))
    grown_closed (suc n) ks a k h = go (listed_either ks more k h) (λ q. grown_closed n (flat_map (reads_at es) ks) low k q)
      where
        more : List ℕ
        more = grown es n (flat_map (reads_at es) ks)

        low : AllByRecursion (Low n) (flat_map (reads_at es) ks)
        low = flat_all (Low n) (reads_at es) ks (all_from (Low (suc n)) (λ k. AllByRecursion (Low n) (reads_at es k)) (lower_reads n) ks a)

        first : (n : ℕ) (js : List ℕ) (j : ℕ) → is_listed js j ≡ true → is_listed (grown es n js) j ≡ true
        first zero js j q = q
        first (suc n) js j q = listed_left js (grown es n (flat_map (reads_at es) js)) j q

        go : (is_listed ks k ≡ true) ⊎ (is_listed more k ≡ true) →
            (is_listed more k ≡ true → AllByRecursion (λ j. is_listed more j ≡ true) (reads_at es k)) →
            AllByRecursion (λ j. is_listed (ks ++ more) j ≡ true) (reads_at es k)
        go (inl q) r =
            all_from (λ j. is_listed (flat_map (reads_at es) ks) j ≡ true) (λ j. is_listed (ks ++ more) j ≡ true)
            (λ j z. listed_right ks more j (first n (flat_map (reads_at es) ks) j z)) (reads_at es k) (flat_listed (reads_at es) ks k q)
        go (inr q) r =
            all_from (λ j. is_listed more j ≡ true) (λ j. is_listed (ks ++ more) j ≡ true) (λ j z. listed_right ks more j z) (reads_at es k) (r q)

    -- a number above all ranks
    abbrev pub above_all : List ℕ → ℕ
    above_all [] = 0
    above_all (k ∷ ks) = suc (ranks.rank k + above_all ks)

    all_below : (ks : List ℕ) → AllByRecursion (Low (above_all ks)) ks
    all_below [] = tt
    all_below (k ∷ ks) = (
      omega arith,
      all_from (Low (above_all ks)) (Low (suc (ranks.rank k + above_all ks))) (λ j l. omega (arith, l)) ks (all_below ks),
    )

    -- all that these slots rest on at one instant
    abbrev pub rested_on : List ℕ → ℕ → Bool
    rested_on ks k = is_listed (grown es (above_all ks) ks) k

    pub rest_themselves : (ks : List ℕ) → AllByRecursion (λ k. rested_on ks k ≡ true) ks
    rest_themselves ks =
        all_from (λ k. is_listed ks k ≡ true) (λ k. rested_on ks k ≡ true) (λ k h. here (above_all ks) k h) ks (all_listed ks)
      where
        here : (n k : ℕ) → is_listed ks k ≡ true → is_listed (grown es n ks) k ≡ true
        here zero k h = h
        here (suc n) k h = listed_left ks (grown es n (flat_map (reads_at es) ks)) k h

    pub rest_further : (ks : List ℕ) (k : ℕ) (s : Source) → slice_get es k ≡ Some s → rested_on ks k ≡ true →
        AllByRecursion (λ j. rested_on ks j ≡ true) (reads_now s)
    rest_further ks k s e h =
        subst (λ o. AllByRecursion (λ j. rested_on ks j ≡ true) (reads_of o)) e (grown_closed (above_all ks) ks (all_below ks) k h)

    pub rest_all : (P : ℕ → Type 0) → ((k : ℕ) (s : Source) → slice_get es k ≡ Some s → P k → AllByRecursion P (reads_now s)) → (ks : List ℕ) →
        AllByRecursion P ks → (k : ℕ) → rested_on ks k ≡ true → P k
    rest_all P step ks a k h =
        listed_all P (grown es (above_all ks) ks) (grown_all P (λ k q. go k (slice_get es k) refl q) (above_all ks) ks a) k h
      where
        go : (k : ℕ) (o : Option Source) → slice_get es k ≡ o → P k → AllByRecursion P (reads_of o)
        go k None e q = tt
        go k (Some s) e q = step k s e q
