-- Step by step the search keeps what holds of it, and where it stops early no order is possible.
use Rattle.std.proofs.Common.{◌≡◌, ℕ, zero, suc, ◌<◌, ◌≤◌, Bool, true, false, not, ◌&&◌, ◌||◌, cond, eqb, List, [], ◌∷◌, ◌++◌, length, get_or, set, take, refl, ap, ◌∙◌, sym, subst, arith, length-append}
use Rattle.std.specs.List.{AllByRecursion}
use Rattle.std.specs.Bool.{MatchBool}
use Rattle.std.proofs.Math.Logic.{◌⊎◌, inl, inr}
use Rattle.std.proofs.lemmas.Bool.{true≢false, false≢true, eqb-true, eqb-false, eq-eqb, cases_Bool, cases_lt}
use Rattle.std.proofs.lemmas.List.{get_or-set_same, get_or-set_other, length-set, length-replicate, get_or-replicate}
use Rattle.std.proofs.lemmas.List.Folds.{list_any-append}
use Rattle.lus_meaning.specs.Order.{AreReady, IsReady, Passes, is_listed}
use Rattle.lus_meaning.proofs.Lists.{both_parts, or_left, or_true}
use Rattle.lus_meaning.proofs.Orders.{distinct-snoc, no_numbers}
use Rattle.slot_rows.specs.Order.{AreRanks, IsUnranked, Reads, needs, reads_of}
use Rattle.slot_rows.specs.Searching.{GoesOn, IsChain, IsPassed, Searching, State, StaysMet, again, are_done, entered, is_done, is_met, met, nothing_listed, passed_to, steps_left, unmet, with_listed}
use Rattle.slot_rows.proofs.Dependence.{left_of, right_of}

-- ---- lists

both_true : (c b : Bool) → (c && b) ≡ true → (c ≡ true) × (b ≡ true)
both_true true b e = (refl, e)
both_true false b e = absurd (false≢true e)

still_done : (bs : List Bool) (i j : ℕ) → is_done bs j ≡ true → is_done (set bs i true) j ≡ true
still_done [] i j e = refl
still_done (b ∷ bs) zero zero e = refl
still_done (b ∷ bs) zero (suc j) e = e
still_done (b ∷ bs) (suc i) zero e = e
still_done (b ∷ bs) (suc i) (suc j) e = still_done bs i j e

all_still_done : (bs : List Bool) (i : ℕ) (js : List ℕ) → are_done bs js ≡ true → are_done (set bs i true) js ≡ true
all_still_done bs i [] e = refl
all_still_done bs i (j ∷ js) e =
    let p : (is_done bs j ≡ true) × (are_done bs js ≡ true) = both_true (is_done bs j) (are_done bs js) e in
    rw (still_done bs i j p.0, all_still_done bs i js p.1) refl

past_done : (bs : List Bool) (j : ℕ) → length bs ≤ j → is_done bs j ≡ true
past_done [] j l = refl
past_done (b ∷ bs) zero l = absurd (omega (arith, l))
past_done (b ∷ bs) (suc j) l = past_done bs j (omega (arith, l))

-- one that is not done is a slot
open_below : (bs : List Bool) (j : ℕ) → is_done bs j ≡ false → j < length bs
open_below bs j e = go (cases_lt j (length bs))
  where
    go : (j < length bs) ⊎ (length bs ≤ j) → j < length bs
    go (inl l) = l
    go (inr l) = absurd (true≢false (sym (past_done bs j l) ∙ e))

one_of_all : (bs : List Bool) (js : List ℕ) (j : ℕ) → are_done bs js ≡ true → is_listed js j ≡ true → is_done bs j ≡ true
one_of_all bs [] j a e = absurd (false≢true e)
one_of_all bs (i ∷ js) j a e = go (cases_Bool (eqb j i)) (one_of_all bs js j)
  where
    p : (is_done bs i ≡ true) × (are_done bs js ≡ true)
    p = both_true (is_done bs i) (are_done bs js) a

    go : (eqb j i ≡ true) ⊎ (eqb j i ≡ false) → (are_done bs js ≡ true → is_listed js j ≡ true → is_done bs j ≡ true) → is_done bs j ≡ true
    go (inl q) r = subst (λ m. is_done bs m ≡ true) (sym (eqb-true j i q)) p.0
    go (inr q) r = r p.1 (rw q at e)

all_passed : (done : List Bool) (row : List ℕ) (place : ℕ) → are_done done (take place row) ≡ true → length row ≤ place → are_done done row ≡ true
all_passed done [] place p l = refl
all_passed done (j ∷ row) zero p l = absurd (omega (arith, l))
all_passed done (j ∷ row) (suc place) p l =
    let q : (is_done done j ≡ true) × (are_done done (take place row) ≡ true) = both_true (is_done done j) (are_done done (take place row)) p in
    rw (q.0, all_passed done row place q.1 (omega (arith, l))) refl

pub one_passed : (done : List Bool) (row : List ℕ) (place : ℕ) → are_done done (take place row) ≡ true → place < length row
    → is_done done (get_or row place 0) ≡ true → are_done done (take (suc place) row) ≡ true
one_passed done [] place a l e = absurd (omega (arith, l))
one_passed done (j ∷ row) zero a l e = rw e refl
one_passed done (j ∷ row) (suc place) a l e =
    let q : (is_done done j ≡ true) × (are_done done (take place row) ≡ true) = both_true (is_done done j) (are_done done (take place row)) a in
    rw (q.0, one_passed done row place q.1 (omega (arith, l)) e) refl

listed_at : (row : List ℕ) (place : ℕ) → place < length row → is_listed row (get_or row place 0) ≡ true
listed_at [] place l = absurd (omega (arith, l))
listed_at (i ∷ row) zero l = rw (eq-eqb i i refl) refl
listed_at (i ∷ row) (suc place) l = or_true (eqb (get_or row place 0) i) (is_listed row (get_or row place 0)) (listed_at row place (omega (arith, l)))

listed_last : (js : List ℕ) (k : ℕ) → is_listed (js ++ k ∷ []) k ≡ true
listed_last js k = list_any-append (eqb k) js (k ∷ []) ∙ or_true (is_listed js k) (eqb k k || false) (rw (eq-eqb k k refl) refl)

listed_before : (js : List ℕ) (k j : ℕ) → is_listed js j ≡ true → is_listed (js ++ k ∷ []) j ≡ true
listed_before js k j e = list_any-append (eqb j) js (k ∷ []) ∙ or_left (is_listed js j) (eqb j k || false) e

listed_else : (js : List ℕ) (k j : ℕ) → eqb j k ≡ false → is_listed (js ++ k ∷ []) j ≡ true → is_listed js j ≡ true
listed_else js k j f m = turn (is_listed js j) (rw f at (sym (list_any-append (eqb j) js (k ∷ [])) ∙ m))
  where
    turn : (a : Bool) → (a || (false || false)) ≡ true → a ≡ true
    turn true e = refl
    turn false e = e

ready-snoc : (n : ℕ) (P : ℕ → ℕ → Type 0) (done ks : List ℕ) (k : ℕ) → AreReady n P done ks → IsReady n P (done ++ ks) k → AreReady n P done (ks ++ k ∷ [])
ready-snoc n P done [] k a h = ((λ j l p. plain done j (h j l p)), tt)
  where
    plain : (done : List ℕ) (j : ℕ) → is_listed (done ++ []) j ≡ true → is_listed done j ≡ true
    plain [] j e = e
    plain (i ∷ done) j e = go (eqb j i) (plain done j) e
      where
        go : (c : Bool) → (is_listed (done ++ []) j ≡ true → is_listed done j ≡ true) → (c || is_listed (done ++ []) j) ≡ true
            → (c || is_listed done j) ≡ true
        go true r e = refl
        go false r e = r e
ready-snoc n P done (i ∷ ks) k a h = (a.0, ready-snoc n P (done ++ i ∷ []) ks k a.1 (λ j l p. moved done j (h j l p)))
  where
    moved : (done : List ℕ) (j : ℕ) → is_listed (done ++ i ∷ ks) j ≡ true → is_listed ((done ++ i ∷ []) ++ ks) j ≡ true
    moved [] j e = e
    moved (d ∷ done) j e = go (eqb j d) (moved done j) e
      where
        go : (c : Bool) → (is_listed (done ++ i ∷ ks) j ≡ true → is_listed ((done ++ i ∷ []) ++ ks) j ≡ true)
            → (c || is_listed (done ++ i ∷ ks) j) ≡ true → (c || is_listed ((done ++ i ∷ []) ++ ks) j) ≡ true
        go true r e = refl
        go false r e = r e

-- ---- chains

module _ (rows : Reads) where
  chain_front : (js : List ℕ) (k : ℕ) → IsChain rows (js ++ k ∷ []) → IsChain rows js
  chain_front [] k h = tt
  chain_front (i ∷ []) k h = (tt, tt)
  chain_front (i ∷ (j ∷ js)) k h = (h.0, chain_front (j ∷ js) k h.1)

  chain-snoc : (js : List ℕ) (k j : ℕ) → IsChain rows (js ++ k ∷ []) → needs rows k j ≡ true → IsChain rows ((js ++ k ∷ []) ++ j ∷ [])
  chain-snoc [] k j h e = (e, (tt, tt))
  chain-snoc (i ∷ []) k j h e = (h.0, chain-snoc [] k j h.1 e)
  chain-snoc (i ∷ (x ∷ js)) k j h e = (h.0, chain-snoc (x ∷ js) k j h.1 e)

  module _ (rank : ℕ → ℕ) (ranks : AreRanks rows rank) where
    -- along a chain ranks fall
    first_falls : (i : ℕ) (js : List ℕ) (k : ℕ) → IsChain rows (i ∷ (js ++ k ∷ [])) → AllByRecursion (λ k. k < length rows) (i ∷ (js ++ k ∷ []))
        → rank k < rank i
    first_falls i [] k h b = ranks.above i k b.0 b.1.0 h.0
    first_falls i (x ∷ js) k h b =
        let p : rank x < rank i = ranks.above i x b.0 b.1.0 h.0 in
        let q : rank k < rank x = first_falls x js k h.1 b.1 in
        omega (arith, p, q)

    falls : (js : List ℕ) (k j : ℕ) → IsChain rows (js ++ k ∷ []) → AllByRecursion (λ k. k < length rows) (js ++ k ∷ [])
        → is_listed (js ++ k ∷ []) j ≡ true → rank k ≤ rank j
    falls [] k j h b e = go (cases_Bool (eqb j k))
      where
        go : (eqb j k ≡ true) ⊎ (eqb j k ≡ false) → rank k ≤ rank j
        go (inl q) = subst (λ m. rank k ≤ rank m) (sym (eqb-true j k q)) (omega arith)
        go (inr q) = absurd (false≢true (rw q at e))
    falls (i ∷ js) k j h b e = go (cases_Bool (eqb j i)) (falls js k j h.1 b.1)
      where
        go : (eqb j i ≡ true) ⊎ (eqb j i ≡ false) → (is_listed (js ++ k ∷ []) j ≡ true → rank k ≤ rank j) → rank k ≤ rank j
        go (inl q) r =
            let p : rank k < rank i = first_falls i js k h b in subst (λ m. rank k ≤ rank m) (sym (eqb-true j i q)) (omega (arith, p))
        go (inr q) r = r (rw q at e)

-- ---- how many are to be met

unmet_less : (bs : List Bool) (k : ℕ) → get_or bs k true ≡ false → suc (unmet (set bs k true)) ≡ unmet bs
unmet_less [] k e = absurd (true≢false e)
unmet_less (b ∷ bs) zero e = rw e refl
unmet_less (true ∷ bs) (suc k) e = unmet_less bs k e
unmet_less (false ∷ bs) (suc k) e = ap suc (unmet_less bs k e)

-- ---- steps

pub starts : (rows : Reads) (n : ℕ) → n ≡ length rows → Searching rows (nothing_listed n)
starts rows n e = record {
  done_whole = length-replicate n false ∙ e;
  seen_whole = length-replicate n false ∙ e;
  passed_whole = length-replicate n 0 ∙ e;
  passed = λ k l. rw (get_or-replicate {A = ℕ} n k 0 0 (within k l)) refl;
  listed = λ j l. get_or-replicate n j false true (within j l);
  below = tt;
  once = no_numbers;
  ready = tt;
  visited_below = tt;
  chain = tt;
  waits = λ j l m d. absurd (false≢true (sym (get_or-replicate n j false true (within j l)) ∙ m));
}
  where
    within : (j : ℕ) → j < length rows → j < n
    within j l = subst (λ m. j < m) (sym e) l

module _ (rows : Reads) where
  -- a slot is visited next
  enters : (s : State) (k : ℕ) → Searching rows s → k < length rows → IsChain rows (s.visited ++ k ∷ []) → Searching rows (met s k)
  enters s k h l chain = record {
    done_whole = h.done_whole;
    seen_whole = length-set s.seen k true ∙ h.seen_whole;
    passed_whole = h.passed_whole;
    passed = h.passed;
    listed = h.listed;
    below = h.below;
    once = h.once;
    ready = h.ready;
    visited_below = both_parts (λ k. k < length rows) s.visited (k ∷ []) h.visited_below (l, tt);
    chain = chain;
    waits = λ j i m d. each j i m d (cases_Bool (eqb j k));
  }
    where
      each : (j : ℕ) → j < length rows → get_or (set s.seen k true) j true ≡ true → is_done s.done j ≡ false → (eqb j k ≡ true) ⊎ (eqb j k ≡ false)
          → is_listed (s.visited ++ k ∷ []) j ≡ true
      each j i m d (inl q) = subst (λ x. is_listed (s.visited ++ k ∷ []) x ≡ true) (sym (eqb-true j k q)) (listed_last s.visited k)
      each j i m d (inr q) =
          listed_before s.visited k j (h.waits j i (sym (get_or-set_other s.seen k j true true (eqb-false j k q)) ∙ m) d)

  passes : (s : State) (k place : ℕ) → Searching rows s → k < length rows → are_done s.done (take place (reads_of rows k)) ≡ true
      → Searching rows (passed_to s k place)
  passes s k place h l p = record {
    done_whole = h.done_whole;
    seen_whole = h.seen_whole;
    passed_whole = length-set s.passed k place ∙ h.passed_whole;
    passed = λ j i. each j i (cases_Bool (eqb j k));
    listed = h.listed;
    below = h.below;
    once = h.once;
    ready = h.ready;
    visited_below = h.visited_below;
    chain = h.chain;
    waits = h.waits;
  }
    where
      each : (j : ℕ) → j < length rows → (eqb j k ≡ true) ⊎ (eqb j k ≡ false)
          → are_done s.done (take (get_or (set s.passed k place) j 0) (reads_of rows j)) ≡ true
      each j i (inl q) =
          let x : j ≡ k = eqb-true j k q in
          let m : get_or (set s.passed k place) k 0 ≡ place = get_or-set_same s.passed k place 0 (subst (λ z. k < z) (sym h.passed_whole) l) in
          subst (λ j. are_done s.done (take (get_or (set s.passed k place) j 0) (reads_of rows j)) ≡ true) (sym x)
          (subst (λ z. are_done s.done (take z (reads_of rows k)) ≡ true) (sym m) p)
      each j i (inr q) = subst (λ z. are_done s.done (take z (reads_of rows j)) ≡ true)
          (sym (get_or-set_other s.passed k j place 0 (eqb-false j k q))) (h.passed j i)

  last_below : (s : State) (k : ℕ) → Searching rows (again s k) → k < length rows
  last_below s k h = (right_of (λ k. k < length rows) s.visited (k ∷ []) h.visited_below).0

  -- the last one that is visited is listed
  lists_new : (s : State) (k : ℕ) → Searching rows (again s k) → are_done s.done (reads_of rows k) ≡ true → is_done s.done k ≡ false
      → Searching rows (record { done = set s.done k true; seen = s.seen; passed = s.passed; visited = s.visited; order = s.order ++ k ∷ [] })
  lists_new s k h a new = record {
    done_whole = length-set s.done k true ∙ h.done_whole;
    seen_whole = h.seen_whole;
    passed_whole = h.passed_whole;
    passed = λ j i. all_still_done s.done k (take (get_or s.passed j 0) (reads_of rows j)) (h.passed j i);
    listed = λ j i. each j i (cases_Bool (eqb j k));
    below = both_parts (λ k. k < length rows) s.order (k ∷ []) h.below (l, tt);
    once = distinct-snoc s.order k h.once (sym (h.listed k l) ∙ new);
    ready = ready-snoc (length rows) (Passes (needs rows)) [] s.order k h.ready (λ j i n. sym (h.listed j i) ∙ one_of_all s.done (reads_of rows k) j a n);
    visited_below = left_of (λ k. k < length rows) s.visited (k ∷ []) h.visited_below;
    chain = chain_front rows s.visited k h.chain;
    waits = λ j i m d. rest j i m d (cases_Bool (eqb j k));
  }
    where
      l : k < length rows
      l = last_below s k h

      here : is_done (set s.done k true) k ≡ true
      here = get_or-set_same s.done k true true (subst (λ z. k < z) (sym h.done_whole) l)

      each : (j : ℕ) → j < length rows → (eqb j k ≡ true) ⊎ (eqb j k ≡ false) → is_done (set s.done k true) j ≡ is_listed (s.order ++ k ∷ []) j
      each j i (inl q) = subst (λ x. is_done (set s.done k true) x ≡ is_listed (s.order ++ k ∷ []) x) (sym (eqb-true j k q))
          (here ∙ sym (listed_last s.order k))
      each j i (inr q) = get_or-set_other s.done k j true true (eqb-false j k q) ∙ (h.listed j i ∙ turn)
        where
          plain : (c : Bool) → c ≡ (c || (false || false))
          plain true = refl
          plain false = refl

          turn : is_listed s.order j ≡ is_listed (s.order ++ k ∷ []) j
          turn = rw (list_any-append (eqb j) s.order (k ∷ []), q) (plain (is_listed s.order j))

      rest : (j : ℕ) → j < length rows → get_or s.seen j true ≡ true → is_done (set s.done k true) j ≡ false
          → (eqb j k ≡ true) ⊎ (eqb j k ≡ false) → is_listed s.visited j ≡ true
      rest j i m d (inl q) =
          absurd (true≢false (sym (subst (λ x. is_done (set s.done k true) x ≡ true) (sym (eqb-true j k q)) here) ∙ d))
      rest j i m d (inr q) = listed_else s.visited k j q
          (h.waits j i m (sym (get_or-set_other s.done k j true true (eqb-false j k q)) ∙ d))

  lists_old : (s : State) (k : ℕ) → Searching rows (again s k) → is_done s.done k ≡ true → Searching rows s
  lists_old s k h old = record {
    done_whole = h.done_whole;
    seen_whole = h.seen_whole;
    passed_whole = h.passed_whole;
    passed = h.passed;
    listed = h.listed;
    below = h.below;
    once = h.once;
    ready = h.ready;
    visited_below = left_of (λ k. k < length rows) s.visited (k ∷ []) h.visited_below;
    chain = chain_front rows s.visited k h.chain;
    waits = λ j i m d. listed_else s.visited k j (other j d (cases_Bool (eqb j k))) (h.waits j i m d);
  }
    where
      other : (j : ℕ) → is_done s.done j ≡ false → (eqb j k ≡ true) ⊎ (eqb j k ≡ false) → eqb j k ≡ false
      other j d (inl q) = absurd (true≢false (sym (subst (λ x. is_done s.done x ≡ true) (sym (eqb-true j k q)) old) ∙ d))
      other j d (inr q) = q

  shorter : (s : State) (k : ℕ) → steps_left s < steps_left (again s k)
  shorter s k = omega (arith, length-append s.visited (k ∷ []))

  step_lists : (s : State) (k : ℕ) → Searching rows (again s k) → are_done s.done (reads_of rows k) ≡ true → GoesOn rows (again s k) (with_listed s k)
  step_lists s k h a = go (is_done s.done k) refl
    where
      new : State
      new = record { done = set s.done k true; seen = s.seen; passed = s.passed; visited = s.visited; order = s.order ++ k ∷ [] }

      go : (b : Bool) → is_done s.done k ≡ b → GoesOn rows (again s k) (cond b s new)
      go true e = record { searching = lists_old s k h e; fewer = shorter s k; stays = λ j l m. m }
      go false e = record { searching = lists_new s k h a e; fewer = shorter s k; stays = λ j l m. m }

  -- all that it reads is listed, so it is
  pub goes_on : (s : State) (k place : ℕ) → Searching rows (again s k) → IsPassed s.done (reads_of rows k) place → length (reads_of rows k) ≤ place
      → GoesOn rows (again s k) (with_listed (passed_to s k place) k)
  goes_on s k place h p l =
      let g = step_lists (passed_to s k place) k (passes (again s k) k place h (last_below s k h) p.listed)
      (all_passed s.done (reads_of rows k) place p.listed l) in
      record { searching = g.searching; fewer = g.fewer; stays = g.stays }

  -- one that it reads is not, and is visited next, or slots read each other in a circle
  pub goes_down : (s : State) (k place : ℕ) (b : Bool) → Searching rows (again s k) → IsPassed s.done (reads_of rows k) place
      → place < length (reads_of rows k) → b ≡ not (is_met s (get_or (reads_of rows k) place 0))
      → MatchBool b (GoesOn rows (again s k) (entered (passed_to (again s k) k place) (get_or (reads_of rows k) place 0))) (IsUnranked rows)
  goes_down s k place b h p l q = rw q (go (is_met s j) refl)
    where
      j : ℕ
      j = get_or (reads_of rows k) place 0

      here : State
      here = passed_to (again s k) k place

      at_here : Searching rows here
      at_here = passes (again s k) k place h (last_below s k h) p.listed

      inside : j < length rows
      inside = subst (λ n. j < n) h.done_whole (open_below s.done j (p.stops l))

      reads : needs rows k j ≡ true
      reads = listed_at (reads_of rows k) place l

      unranked : is_met s j ≡ true → IsUnranked rows
      unranked m rank ranks =
          let x : rank j < rank k = ranks.above k j (last_below s k h) inside reads in
          let y : rank k ≤ rank j = falls rows rank ranks s.visited k j h.chain h.visited_below (h.waits j inside m (p.stops l)) in
          absurd (omega (arith, x, y))

      go : (m : Bool) → is_met s j ≡ m → MatchBool (not m) (GoesOn rows (again s k) (cond m here (met here j))) (IsUnranked rows)
      go true e = unranked e
      go false e = record {
        searching = enters here j at_here inside (chain-snoc rows s.visited k j h.chain reads);
        fewer = omega (arith, unmet_less s.seen j e, length-append (s.visited ++ k ∷ []) (j ∷ []));
        stays = λ x i m. still_done s.seen j x m;
      }

  -- ---- as the code goes

  abbrev pub moved_to : State → ℕ → ℕ → List ℕ → State
  moved_to s k place vs = record { done = s.done; seen = s.seen; passed = set s.passed k place; visited = vs; order = s.order }

  pub advanced : (s : State) (k place j : ℕ) (b : Bool) (row vs : List ℕ) (u : State) → Searching rows (again s k) → row ≡ reads_of rows k
      → vs ≡ s.visited ++ k ∷ [] → IsPassed s.done row place → place < length row → j ≡ get_or row place 0
      → b ≡ not (is_met (moved_to s k place vs) j) → u ≡ entered (moved_to s k place vs) j
      → MatchBool b (GoesOn rows (again s k) u) (IsUnranked rows)
  advanced s k place j b row vs u h r v p l q new e = subst (λ row. IsPassed s.done row place → place < length row → j ≡ get_or row place 0
      → MatchBool b (GoesOn rows (again s k) u) (IsUnranked rows)) (sym r) at p l q
    where
      at : IsPassed s.done (reads_of rows k) place → place < length (reads_of rows k) → j ≡ get_or (reads_of rows k) place 0
          → MatchBool b (GoesOn rows (again s k) u) (IsUnranked rows)
      at p l q = subst (λ u. MatchBool b (GoesOn rows (again s k) u) (IsUnranked rows))
          (sym (e ∙ (ap (λ vs. entered (moved_to s k place vs) j) v ∙ ap (entered (passed_to (again s k) k place)) q)))
          (goes_down s k place b h p l (new ∙ ap (λ j. not (is_met s j)) q))

  pub finished : (s : State) (k place : ℕ) (row : List ℕ) (u : State) → Searching rows (again s k) → row ≡ reads_of rows k
      → IsPassed s.done row place → length row ≤ place → u ≡ with_listed (passed_to s k place) k → GoesOn rows (again s k) u
  finished s k place row u h r p l e = subst (λ row. IsPassed s.done row place → length row ≤ place → GoesOn rows (again s k) u) (sym r) at p l
    where
      at : IsPassed s.done (reads_of rows k) place → length (reads_of rows k) ≤ place → GoesOn rows (again s k) u
      at p l = subst (GoesOn rows (again s k)) (sym e) (goes_on s k place h p l)

  -- ---- visits

  pub put_back : (s : State) (k : ℕ) (vs : List ℕ) → vs ≡ s.visited ++ k ∷ [] → Searching rows
      (record { done = s.done; seen = s.seen; passed = s.passed; visited = vs; order = s.order }) → Searching rows (again s k)
  put_back s k vs e h = subst (λ vs. Searching rows
      (record { done = s.done; seen = s.seen; passed = s.passed; visited = vs; order = s.order })) e h

  pub visit_starts : (s : State) (root : ℕ) → Searching rows s → s.visited ≡ [] → root < length rows → Searching rows (entered s root)
  visit_starts s root h e l = go (is_met s root)
    where
      chain : IsChain rows (s.visited ++ root ∷ [])
      chain = subst (λ js. IsChain rows (js ++ root ∷ [])) (sym e) (tt, tt)

      go : (m : Bool) → Searching rows (cond m s (met s root))
      go true = h
      go false = enters s root h l chain

  pub root_met : (s : State) (root : ℕ) → is_met (entered s root) root ≡ true
  root_met s root = go (is_met s root) refl
    where
      now : (bs : List Bool) (k : ℕ) → get_or (set bs k true) k true ≡ true
      now [] k = refl
      now (b ∷ bs) zero = refl
      now (b ∷ bs) (suc k) = now bs k

      go : (m : Bool) → is_met s root ≡ m → is_met (cond m s (met s root)) root ≡ true
      go true e = e
      go false e = now s.seen root

  pub stays_met : (s : State) (root : ℕ) → StaysMet rows s (entered s root)
  stays_met s root j l e = go (is_met s root)
    where
      go : (m : Bool) → is_met (cond m s (met s root)) j ≡ true
      go true = e
      go false = still_done s.seen root j e
