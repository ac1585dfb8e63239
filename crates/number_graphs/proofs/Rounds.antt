-- Numbers that are listed: the least open one is the next, and where none is open the listing is stuck.
use Rattle.std.proofs.Common.{◌≡◌, ℕ, zero, suc, ◌<◌, ◌≤◌, ◌+◌, ◌-◌, Bool, true, false, not, ◌&&◌, ◌||◌, eqb, List, [], ◌∷◌, ◌++◌, length, get_or, set, take, replicate, refl, ap, ◌∙◌, sym, subst, arith}
use Rattle.std.specs.List.{list_all}
use Rattle.std.proofs.Math.Logic.{◌⊎◌, inl, inr}
use Rattle.std.proofs.lemmas.Bool.{true≢false, false≢true, eqb-true, eqb-false, eq-eqb, cases_Bool, cases_lt}
use Rattle.std.proofs.lemmas.List.{get_or-set_same, get_or-set_other, length-set, length-replicate, get_or-replicate}
use Rattle.std.proofs.lemmas.List.Folds.{list_any-append}
use Rattle.lus_meaning.specs.Order.{Passes, is_listed, IsReady, IsNext, AreNext, IsStuck}
use Rattle.lus_meaning.proofs.Orders.{next-snoc, stuck_short}
use Rattle.number_graphs.specs.Graphs.{Rows, row_at, leads}
use Rattle.number_graphs.specs.Rounds.{is_done, are_done, is_open, ArePassed, IsPassed}
use Rattle.number_graphs.proofs.Paths.{all_same}

-- the numbers below n that are done are those listed
abbrev pub AreListed : ℕ → List Bool → List ℕ → Type 0
AreListed n done ks = (j : ℕ) → j < n → is_done done j ≡ is_listed ks j

one_of_all : (p : ℕ → Bool) (js : List ℕ) (j : ℕ) → list_all p js ≡ true → is_listed js j ≡ true → p j ≡ true
one_of_all p [] j a e = absurd (false≢true e)
one_of_all p (i ∷ js) j a e = go (cases_Bool (p i)) (cases_Bool (eqb j i)) (one_of_all p js j)
  where
    go : (p i ≡ true) ⊎ (p i ≡ false) → (eqb j i ≡ true) ⊎ (eqb j i ≡ false) → (list_all p js ≡ true → is_listed js j ≡ true → p j ≡ true) → p j ≡ true
    go (inr f) d r = absurd (false≢true (rw f at a))
    go (inl t) (inl q) r = subst (λ m. p m ≡ true) (sym (eqb-true j i q)) t
    go (inl t) (inr q) r = r (rw t at a) (rw q at e)

all_of_each : (p : ℕ → Bool) (js : List ℕ) → ((j : ℕ) → is_listed js j ≡ true → p j ≡ true) → list_all p js ≡ true
all_of_each p [] h = refl
all_of_each p (i ∷ js) h = rw (h i first, all_of_each p js later) refl
  where
    first : is_listed (i ∷ js) i ≡ true
    first = rw (eq-eqb i i refl) refl

    or_true : (c b : Bool) → b ≡ true → (c || b) ≡ true
    or_true true b e = refl
    or_true false b e = e

    later : (j : ℕ) → is_listed js j ≡ true → p j ≡ true
    later j e = h j (or_true (eqb j i) (is_listed js j) e)

both_true : (c b : Bool) → (c && b) ≡ true → (c ≡ true) × (b ≡ true)
both_true true true e = (refl, refl)
both_true true false e = absurd (false≢true e)
both_true false b e = absurd (false≢true e)

not_true : (c : Bool) → not c ≡ true → c ≡ false
not_true true e = absurd (false≢true e)
not_true false e = refl

module _ (rows : Rows) (n : ℕ) (done : List Bool) (ks : List ℕ) (whole : length done ≡ n) (marks : AreListed n done ks) where
  ready_of_done : (k : ℕ) → are_done done (row_at rows k) ≡ true → IsReady n (Passes (leads rows)) ks k
  ready_of_done k a j l e = sym (marks j l) ∙ one_of_all (is_done done) (row_at rows k) j a e

  past_done : (bs : List Bool) (j : ℕ) → length bs ≤ j → is_done bs j ≡ true
  past_done [] j l = refl
  past_done (b ∷ bs) zero l = absurd (omega arith)
  past_done (b ∷ bs) (suc j) l = past_done bs j (omega arith)

  done_of_ready : (k : ℕ) → IsReady n (Passes (leads rows)) ks k → are_done done (row_at rows k) ≡ true
  done_of_ready k r = all_of_each (is_done done) (row_at rows k) (λ j e. each j e (cases_lt j n))
    where
      each : (j : ℕ) → is_listed (row_at rows k) j ≡ true → (j < n) ⊎ (n ≤ j) → is_done done j ≡ true
      each j e (inl l) = marks j l ∙ r j l e
      each j e (inr l) = past_done done j (omega arith)

  open_of_ready : (k : ℕ) → k < n → is_listed ks k ≡ false → IsReady n (Passes (leads rows)) ks k → is_open rows done k ≡ true
  open_of_ready k l e r = rw (marks k l ∙ e, done_of_ready k r) refl

  pub open_is_next : (k : ℕ) → k < n → is_open rows done k ≡ true → ((j : ℕ) → j < k → is_open rows done j ≡ false) → IsNext n (Passes (leads rows)) ks k
  open_is_next k l o first =
      let parts = both_true (not (is_done done k)) (are_done done (row_at rows k)) o in
      record {
        below = l;
        new = sym (marks k l) ∙ not_true (is_done done k) parts.0;
        ready = ready_of_done k parts.1;
        least = λ j h e r. true≢false (sym (open_of_ready j (omega arith) e r) ∙ first j h);
      }

  pub open_next : (k : ℕ) → AreNext n (Passes (leads rows)) [] ks → k < n → is_open rows done k ≡ true →
      ((j : ℕ) → j < k → is_open rows done j ≡ false) → AreNext n (Passes (leads rows)) [] (ks ++ k ∷ [])
  open_next k a l o first = next-snoc n (leads rows) [] ks k a (open_is_next k l o first)

  pub none_open : length ks < n → ((k : ℕ) → k < n → is_open rows done k ≡ false) → IsStuck n (Passes (leads rows)) ks
  none_open l none =
      let e : length ks + suc (n - suc (length ks)) ≡ n = omega arith in
      stuck_short n (leads rows) (n - suc (length ks)) ks e (λ k h f r. true≢false (sym (open_of_ready k h f r) ∙ none k h))

  pub listed_next : (k : ℕ) → k < n → AreListed n (set done k true) (ks ++ k ∷ [])
  listed_next k l j h = go (cases_Bool (eqb j k))
    where
      listed : is_listed (ks ++ k ∷ []) j ≡ (is_listed ks j || is_listed (k ∷ []) j)
      listed = list_any-append (eqb j) ks (k ∷ [])

      or_true : (c : Bool) → true ≡ (c || (true || false))
      or_true true = refl
      or_true false = refl

      or_false : (c : Bool) → c ≡ (c || (false || false))
      or_false true = refl
      or_false false = refl

      go : (eqb j k ≡ true) ⊎ (eqb j k ≡ false) → is_done (set done k true) j ≡ is_listed (ks ++ k ∷ []) j
      go (inl t) =
          let e : j ≡ k = eqb-true j k t in
          let m : get_or (set done k true) k true ≡ true = get_or-set_same done k true true (omega arith) in
          subst (λ i. get_or (set done k true) i true ≡ true) (sym e) m ∙
          (or_true (is_listed ks j) ∙ sym (subst (λ b. is_listed (ks ++ k ∷ []) j ≡ (is_listed ks j || (b || false))) t listed))
      go (inr f) = get_or-set_other done k j true true (eqb-false j k f) ∙
          (marks j h ∙ (or_false (is_listed ks j) ∙ sym (subst (λ b. is_listed (ks ++ k ∷ []) j ≡ (is_listed ks j || (b || false))) f
          listed)))

open_within : (n j : ℕ) → j < n → is_done (replicate n false) j ≡ false
open_within n j l = get_or-replicate n j false true l

pub listed_start : (n : ℕ) → AreListed n (replicate n false) []
listed_start n j l = open_within n j l

-- ---- places before which all is listed

still_done : (bs : List Bool) (i j : ℕ) → is_done bs j ≡ true → is_done (set bs i true) j ≡ true
still_done [] i j e = refl
still_done (b ∷ bs) zero zero e = refl
still_done (b ∷ bs) zero (suc j) e = e
still_done (b ∷ bs) (suc i) zero e = e
still_done (b ∷ bs) (suc i) (suc j) e = still_done bs i j e

all_still_done : (bs : List Bool) (i : ℕ) (js : List ℕ) → are_done bs js ≡ true → are_done (set bs i true) js ≡ true
all_still_done bs i [] e = refl
all_still_done bs i (j ∷ js) e =
    let p : (is_done bs j ≡ true) × (are_done bs js ≡ true) = both_true (is_done bs j) (are_done bs js) e in
    rw (still_done bs i j p.0, all_still_done bs i js p.1) refl

pub passed_listed : (rows : Rows) (done : List Bool) (passed : List ℕ) (i : ℕ) → ArePassed rows done passed → ArePassed rows (set done i true) passed
passed_listed rows done passed i a =
    record { whole = a.whole; listed = λ k l. all_still_done done i (take (get_or passed k 0) (row_at rows k)) (a.listed k l) }

pub passed_start : (rows : Rows) (done : List Bool) → ArePassed rows done (replicate (length rows) 0)
passed_start rows done = record { whole = length-replicate (length rows) 0; listed = λ k l. rw (all_same {X = ℕ} (length rows) 0 k) refl }

pub passed_moved : (rows : Rows) (done : List Bool) (passed : List ℕ) (k place : ℕ) → k < length rows → ArePassed rows done passed
    → IsPassed done (row_at rows k) place → ArePassed rows done (set passed k place)
passed_moved rows done passed k place l a p = record { whole = length-set passed k place ∙ a.whole; listed = λ j h. each j h (cases_Bool (eqb j k)) }
  where
    each : (j : ℕ) → j < length rows → (eqb j k ≡ true) ⊎ (eqb j k ≡ false) → are_done done (take (get_or (set passed k place) j 0) (row_at rows j)) ≡ true
    each j h (inl t) =
        let e : j ≡ k = eqb-true j k t in
        let m : get_or (set passed k place) k 0 ≡ place = get_or-set_same passed k place 0 (subst (λ z. k < z) (sym a.whole) l) in
        subst (λ i. are_done done (take (get_or (set passed k place) i 0) (row_at rows i)) ≡ true) (sym e)
        (subst (λ z. are_done done (take z (row_at rows k)) ≡ true) (sym m) p.listed)
    each j h (inr f) = subst (λ z. are_done done (take z (row_at rows j)) ≡ true) (sym (get_or-set_other passed k j place 0 (eqb-false j k f))) (a.listed j h)

-- all is listed where none is left
pub all_passed : (done : List Bool) (row : List ℕ) (place : ℕ) → IsPassed done row place → length row ≤ place → are_done done row ≡ true
all_passed done [] place p l = refl
all_passed done (j ∷ row) zero p l = absurd (omega arith)
all_passed done (j ∷ row) (suc place) p l =
    let q : (is_done done j ≡ true) × (are_done done (take place row) ≡ true) = both_true (is_done done j) (are_done done (take place row)) p.listed in
    rw (q.0, all_passed done row place (record { listed = q.1; stops = λ h. p.stops (omega (arith, h)) }) (omega (arith, l))) refl

-- and not all where one is
pub not_all_passed : (done : List Bool) (row : List ℕ) (place : ℕ) → IsPassed done row place → place < length row → are_done done row ≡ false
not_all_passed done [] place p l = absurd (omega arith)
not_all_passed done (j ∷ row) zero p l = rw (p.stops l) refl
not_all_passed done (j ∷ row) (suc place) p l =
    let q : (is_done done j ≡ true) × (are_done done (take place row) ≡ true) = both_true (is_done done j) (are_done done (take place row)) p.listed in
    rw (q.0, not_all_passed done row place (record { listed = q.1; stops = λ h. p.stops (omega (arith, h)) }) (omega (arith, l))) refl

-- one more place
pub one_passed : (done : List Bool) (row : List ℕ) (place : ℕ) → are_done done (take place row) ≡ true → place < length row
    → is_done done (get_or row place 0) ≡ true → are_done done (take (suc place) row) ≡ true
one_passed done [] place a l e = absurd (omega arith)
one_passed done (j ∷ row) zero a l e = rw e refl
one_passed done (j ∷ row) (suc place) a l e =
    let q : (is_done done j ≡ true) × (are_done done (take place row) ≡ true) = both_true (is_done done j) (are_done done (take place row)) a in
    rw (q.0, one_passed done row place q.1 (omega arith) e) refl

-- ---- as the code goes

pub nothing_listed : (n m : ℕ) (done : List Bool) → done ≡ replicate m false → m ≡ n → (length done ≡ n) × AreListed n done []
nothing_listed n m done e f = subst (λ z. (length z ≡ n) × AreListed n z []) (sym (e ∙ ap (λ k. replicate k false) f))
    (length-replicate n false, listed_start n)

pub nothing_passed : (rows : Rows) (m : ℕ) (done : List Bool) (passed : List ℕ) → passed ≡ replicate m 0 → m ≡ length rows → ArePassed rows done passed
nothing_passed rows m done passed e f = subst (ArePassed rows done) (sym (e ∙ ap (λ k. replicate k 0) f)) (passed_start rows done)
