-- The numbers that are met are those that one leads to.
use Rattle.std.proofs.Common.{◌≡◌, ℕ, zero, suc, ◌<◌, ◌≤◌, ◌+◌, ◌-◌, Bool, true, false, cond, not, ◌||◌, eqb, List, [], ◌∷◌, ◌++◌, length, get_or, set, replicate, refl, ap, ◌∙◌, sym, subst, arith, length-append}
use Rattle.std.specs.List.{AllByRecursion, IsDistinct}
use Rattle.std.proofs.Math.Logic.{◌⊎◌, inl, inr}
use Rattle.std.proofs.lemmas.Bool.{true≢false, false≢true, eqb-true, eqb-false, eq-eqb, cases_Bool}
use Rattle.std.proofs.lemmas.List.{get_or_append_left, get_or-set_other, get_or-set_same, length-set, length-replicate}
use Rattle.std.proofs.lemmas.List.Folds.{list_any-append}
use Rattle.std.proofs.lemmas.Map.Steps.{length-le_from_distinct_below}
use Rattle.lus_meaning.specs.Order.{is_listed}
use Rattle.lus_meaning.proofs.Lists.{both_parts}
use Rattle.lus_meaning.proofs.Orders.{all_below, distinct-snoc, no_numbers}
use Rattle.number_graphs.specs.Graphs.{Rows, row_at, leads, is_marked, end_of, AreReached, LeadsTo}
use Rattle.number_graphs.specs.Visits.{State, is_new, visited, visited_all, once}
use Rattle.number_graphs.proofs.Paths.{all_same, leads_within, one_step, one_step_more, path_keeps, starts_within}

not_true : (c : Bool) → not c ≡ true → c ≡ false
not_true true e = absurd (false≢true e)
not_true false e = refl

not_false : (c : Bool) → not c ≡ false → c ≡ true
not_false true e = refl
not_false false e = absurd (true≢false e)

pub or_cases : (a b : Bool) → (a || b) ≡ true → (a ≡ true) ⊎ (b ≡ true)
or_cases true b e = inl refl
or_cases false b e = inr e

pub or_right : (a b : Bool) → b ≡ true → (a || b) ≡ true
or_right true b e = refl
or_right false b e = e

-- ---- marks

marked_within : (ms : List Bool) (j : ℕ) → is_marked ms j ≡ true → j < length ms
marked_within [] j e = absurd (false≢true e)
marked_within (m ∷ ms) zero e = omega arith
marked_within (m ∷ ms) (suc j) e = let h : j < length ms = marked_within ms j e in omega (arith, h)

new_within : (ms : List Bool) (j : ℕ) → is_new ms j ≡ true → j < length ms
new_within [] j e = absurd (false≢true e)
new_within (m ∷ ms) zero e = omega arith
new_within (m ∷ ms) (suc j) e = let h : j < length ms = new_within ms j e in omega (arith, h)

new_unmarked : (ms : List Bool) (j : ℕ) → is_new ms j ≡ true → is_marked ms j ≡ false
new_unmarked [] j e = refl
new_unmarked (m ∷ ms) zero e = not_true m e
new_unmarked (m ∷ ms) (suc j) e = new_unmarked ms j e

old_marked : (ms : List Bool) (j : ℕ) → j < length ms → is_new ms j ≡ false → is_marked ms j ≡ true
old_marked [] j l e = absurd (omega arith)
old_marked (m ∷ ms) zero l e = not_false m e
old_marked (m ∷ ms) (suc j) l e = old_marked ms j (omega arith) e

still_marked : (bs : List Bool) (i j : ℕ) → is_marked bs j ≡ true → is_marked (set bs i true) j ≡ true
still_marked [] i j e = absurd (false≢true e)
still_marked (b ∷ bs) zero zero e = refl
still_marked (b ∷ bs) zero (suc j) e = e
still_marked (b ∷ bs) (suc i) zero e = e
still_marked (b ∷ bs) (suc i) (suc j) e = still_marked bs i j e

newly_marked : (bs : List Bool) (i j : ℕ) → is_marked (set bs i true) j ≡ true → (j ≡ i) ⊎ (is_marked bs j ≡ true)
newly_marked bs i j e = go (cases_Bool (eqb j i))
  where
    go : (eqb j i ≡ true) ⊎ (eqb j i ≡ false) → (j ≡ i) ⊎ (is_marked bs j ≡ true)
    go (inl t) = inl (eqb-true j i t)
    go (inr f) = inr (sym (get_or-set_other bs i j true false (eqb-false j i f)) ∙ e)

-- ---- what stays when numbers are met

-- marked and queued are the same numbers, each once, and of each of them P holds
pub record Kept (n : ℕ) (P : ℕ → Type 0) (s : State) : Type 0 where
  pub whole : length s.0 ≡ n
  pub listed : (j : ℕ) → j < n → is_marked s.0 j ≡ is_listed s.1 j
  pub below : AllByRecursion (λ k. k < n) s.1
  pub once : IsDistinct eqb s.1
  pub sound : (j : ℕ) → is_marked s.0 j ≡ true → P j

-- the marks and the queue are those before, and more
pub record Further (old new : State) : Type 0 where
  pub marked : (j : ℕ) → is_marked old.0 j ≡ true → is_marked new.0 j ≡ true
  pub longer : length old.1 ≤ length new.1
  pub queued : (t : ℕ) → t < length old.1 → get_or new.1 t 0 ≡ get_or old.1 t 0

no_further : (s : State) → Further s s
no_further s = record { marked = λ j e. e; longer = omega arith; queued = λ t l. refl }

both_further : (r s t : State) → Further r s → Further s t → Further r t
both_further r s t a b =
    let h : length r.1 ≤ length s.1 = a.longer in
    let i : length s.1 ≤ length t.1 = b.longer in
    record {
      marked = λ j e. b.marked j (a.marked j e);
      longer = omega (arith, h, i);
      queued = λ k l. b.queued k (omega (arith, h, l)) ∙ a.queued k l;
    }

visit_further : (s : State) (j : ℕ) → Further s (visited s j)
visit_further s j = go (is_new s.0 j)
  where
    go : (b : Bool) → Further s (cond b (set s.0 j true, s.1 ++ j ∷ []) s)
    go false = no_further s
    go true = record {
      marked = λ i e. still_marked s.0 j i e;
      longer = omega (arith, length-append s.1 (j ∷ []));
      queued = λ t l. get_or_append_left s.1 (j ∷ []) 0 t l;
    }

visit_marks : (s : State) (j : ℕ) → j < length s.0 → is_marked (visited s j).0 j ≡ true
visit_marks s j l = go (cases_Bool (is_new s.0 j))
  where
    go : (is_new s.0 j ≡ true) ⊎ (is_new s.0 j ≡ false) → is_marked (visited s j).0 j ≡ true
    go (inl t) = rw t (get_or-set_same s.0 j true false l)
    go (inr f) = rw f (old_marked s.0 j l f)

module _ (n : ℕ) (P : ℕ → Type 0) where
  visit_kept : (s : State) (j : ℕ) → P j → Kept n P s → Kept n P (visited s j)
  visit_kept s j p k = go (cases_Bool (is_new s.0 j))
    where
      within : is_new s.0 j ≡ true → j < n
      within t = let h : j < length s.0 = new_within s.0 j t in let e : length s.0 ≡ n = k.whole in omega (arith, h, e)

      unlisted : is_new s.0 j ≡ true → is_listed s.1 j ≡ false
      unlisted t = sym (k.listed j (within t)) ∙ new_unmarked s.0 j t

      same : is_new s.0 j ≡ true → (i : ℕ) → i < n → is_marked (set s.0 j true) i ≡ is_listed (s.1 ++ j ∷ []) i
      same t i l = each (cases_Bool (eqb i j))
        where
          split : is_listed (s.1 ++ j ∷ []) i ≡ (is_listed s.1 i || is_listed (j ∷ []) i)
          split = list_any-append (eqb i) s.1 (j ∷ [])

          or_true : (c : Bool) → true ≡ (c || (true || false))
          or_true true = refl
          or_true false = refl

          or_false : (c : Bool) → c ≡ (c || (false || false))
          or_false true = refl
          or_false false = refl

          each : (eqb i j ≡ true) ⊎ (eqb i j ≡ false) → is_marked (set s.0 j true) i ≡ is_listed (s.1 ++ j ∷ []) i
          each (inl e) =
              let q : i ≡ j = eqb-true i j e in
              subst (λ z. get_or (set s.0 j true) z false ≡ true) (sym q) (get_or-set_same s.0 j true false (new_within s.0 j t)) ∙
              (or_true (is_listed s.1 i) ∙ sym (subst (λ b. is_listed (s.1 ++ j ∷ []) i ≡ (is_listed s.1 i || (b || false))) e split))
          each (inr f) = get_or-set_other s.0 j i true false (eqb-false i j f) ∙ (k.listed i l ∙ (or_false (is_listed s.1 i)
              ∙ sym (subst (λ b. is_listed (s.1 ++ j ∷ []) i ≡ (is_listed s.1 i || (b || false))) f split)))

      sound : (i : ℕ) → is_marked (set s.0 j true) i ≡ true → P i
      sound i e = each (newly_marked s.0 j i e)
        where
          each : (i ≡ j) ⊎ (is_marked s.0 i ≡ true) → P i
          each (inl q) = subst P (sym q) p
          each (inr m) = k.sound i m

      go : (is_new s.0 j ≡ true) ⊎ (is_new s.0 j ≡ false) → Kept n P (visited s j)
      go (inr f) = rw f k
      go (inl t) = rw t (record {
        whole = length-set s.0 j true ∙ k.whole;
        listed = same t;
        below = both_parts (λ i. i < n) s.1 (j ∷ []) k.below (within t, tt);
        once = distinct-snoc s.1 j k.once (unlisted t);
        sound = sound;
      })

  all_kept : (s : State) (js : List ℕ) → ((j : ℕ) → is_listed js j ≡ true → P j) → Kept n P s → Kept n P (visited_all s js)
  all_kept s [] h k = k
  all_kept s (j ∷ js) h k = all_kept (visited s j) js (λ i e. h i (or_right (eqb i j) (is_listed js i) e))
      (visit_kept s j (h j (rw (eq-eqb j j refl) refl)) k)

all_further : (s : State) (js : List ℕ) → Further s (visited_all s js)
all_further s [] = no_further s
all_further s (j ∷ js) = both_further s (visited s j) (visited_all (visited s j) js) (visit_further s j) (all_further (visited s j) js)

visit_length : (s : State) (j : ℕ) → length (visited s j).0 ≡ length s.0
visit_length s j = go (is_new s.0 j)
  where
    go : (b : Bool) → length (cond b (set s.0 j true, s.1 ++ j ∷ []) s).0 ≡ length s.0
    go true = length-set s.0 j true
    go false = refl

all_marked : (s : State) (js : List ℕ) (j : ℕ) → j < length s.0 → is_listed js j ≡ true → is_marked (visited_all s js).0 j ≡ true
all_marked s [] j l e = absurd (false≢true e)
all_marked s (i ∷ js) j l e = go (or_cases (eqb j i) (is_listed js j) e) (λ m. all_marked (visited s i) js j (subst (λ z. j < z) (sym (visit_length s i)) l) m)
  where
    go : (eqb j i ≡ true) ⊎ (is_listed js j ≡ true) → (is_listed js j ≡ true → is_marked (visited_all (visited s i) js).0 j ≡ true)
        → is_marked (visited_all (visited s i) js).0 j ≡ true
    go (inl q) r = (all_further (visited s i) js).marked j (subst (λ z. is_marked (visited s z).0 j ≡ true) (eqb-true j i q) (visit_marks s j l))
    go (inr m) r = r m

-- ---- the search

pub record Searching (rows : Rows) (start : ℕ) (s : State) (turn : ℕ) : Type 0 where
  pub kept : Kept (length rows) (LeadsTo rows start) s
  pub within : turn ≤ length s.1
  pub first : (j : ℕ) → j < length rows → leads rows start j ≡ true → is_marked s.0 j ≡ true
  pub done : (t : ℕ) → t < turn → (j : ℕ) → j < length rows → leads rows (get_or s.1 t 0) j ≡ true → is_marked s.0 j ≡ true

nothing_there : (n : ℕ) (P : ℕ → Type 0) → Kept n P (replicate n false, [])
nothing_there n P = record {
  whole = length-replicate n false;
  listed = λ j l. all_same n false j;
  below = tt;
  once = no_numbers;
  sound = λ j m. absurd (true≢false (sym m ∙ all_same n false j));
}

nothing_met : (rows : Rows) (start : ℕ) → Kept (length rows) (LeadsTo rows start) (replicate (length rows) false, [])
nothing_met rows start = nothing_there (length rows) (LeadsTo rows start)

pub search_starts : (rows : Rows) (start : ℕ) (s : State) → s ≡ visited_all (replicate (length rows) false, []) (row_at rows start) → Searching rows start s 0
search_starts rows start s is = subst (λ z. Searching rows start z 0) (sym is) (record {
  kept = all_kept (length rows) (LeadsTo rows start) (replicate (length rows) false, []) (row_at rows start) (λ j q. one_step rows start j q)
      (nothing_met rows start);
  within = omega arith;
  first = λ j l q. all_marked (replicate (length rows) false, []) (row_at rows start) j (subst (λ z. j < z) (sym (length-replicate (length rows) false)) l) q;
  done = λ t l. absurd (omega (arith, l));
})

queued_below : (n : ℕ) (ks : List ℕ) (t : ℕ) → t < length ks → AllByRecursion (λ k. k < n) ks → get_or ks t 0 < n
queued_below n [] t l a = absurd (omega arith)
queued_below n (k ∷ ks) zero l a = a.0
queued_below n (k ∷ ks) (suc t) l a = queued_below n ks t (omega arith) a.1

queued_listed : (ks : List ℕ) (t : ℕ) → t < length ks → is_listed ks (get_or ks t 0) ≡ true
queued_listed [] t l = absurd (omega arith)
queued_listed (k ∷ ks) zero l = rw (eq-eqb k k refl) refl
queued_listed (k ∷ ks) (suc t) l = or_right (eqb (get_or ks t 0) k) (is_listed ks (get_or ks t 0)) (queued_listed ks t (omega arith))

pub search_goes_on : (rows : Rows) (start : ℕ) (s s' : State) (turn : ℕ) → Searching rows start s turn → turn < length s.1
    → s' ≡ visited_all s (row_at rows (get_or s.1 turn 0)) → Searching rows start s' (turn + 1)
search_goes_on rows start s s' turn w l is = subst (λ z. Searching rows start z (turn + 1)) (sym is) (record {
  kept = all_kept (length rows) (LeadsTo rows start) s (row_at rows this) (λ j e. one_step_more rows start this j met e) w.kept;
  within = let h : length s.1 ≤ length new.1 = f.longer in omega (arith, h, l);
  first = λ j b e. f.marked j (w.first j b e);
  done = λ t h j b e. each t (cases t h) j b (subst (λ z. leads rows z j ≡ true) (f.queued t (under t h)) e);
})
  where
    this : ℕ
    this = get_or s.1 turn 0

    new : State
    new = visited_all s (row_at rows this)

    f : Further s new
    f = all_further s (row_at rows this)

    met : LeadsTo rows start this
    met = w.kept.sound this (w.kept.listed this (queued_below (length rows) s.1 turn l w.kept.below) ∙ queued_listed s.1 turn l)

    under : (t : ℕ) → t < turn + 1 → t < length s.1
    under t h = omega (arith, h, l)

    cases : (t : ℕ) → t < turn + 1 → (t ≡ turn) ⊎ (t < turn)
    cases t h = grind (arith, h)

    each : (t : ℕ) → (t ≡ turn) ⊎ (t < turn) → (j : ℕ) → j < length rows → leads rows (get_or s.1 t 0) j ≡ true → is_marked new.0 j ≡ true
    each t (inl q) j b e = all_marked s (row_at rows this) j (subst (λ z. j < z) (sym w.kept.whole) b)
        (subst (λ z. leads rows (get_or s.1 z 0) j ≡ true) q e)
    each t (inr h) j b e = f.marked j (w.done t h j b e)

pub queue_short : (rows : Rows) (start : ℕ) (s : State) (turn : ℕ) → Searching rows start s turn → length s.1 ≤ length rows
queue_short rows start s turn w = length-le_from_distinct_below s.1 (length rows) w.kept.once (all_below (length rows) s.1 w.kept.below)

turn_of : (ks : List ℕ) (k : ℕ) → is_listed ks k ≡ true → (t : ℕ) × (t < length ks) × (get_or ks t 0 ≡ k)
turn_of [] k e = absurd (false≢true e)
turn_of (i ∷ ks) k e = go (or_cases (eqb k i) (is_listed ks k) e) (turn_of ks k)
  where
    go : (eqb k i ≡ true) ⊎ (is_listed ks k ≡ true) → (is_listed ks k ≡ true → (t : ℕ) × (t < length ks) × (get_or ks t 0 ≡ k)) → (t : ℕ) ×
        (t < suc (length ks)) × (get_or (i ∷ ks) t 0 ≡ k)
    go (inl q) f = (0, omega arith, sym (eqb-true k i q))
    go (inr m) f = let r : (t : ℕ) × (t < length ks) × (get_or ks t 0 ≡ k) = f m in let h : r.0 < length ks = r.1 in (suc r.0, omega (arith, h), r.2)

pub search_ends : (rows : Rows) (start : ℕ) (s : State) (turn : ℕ) → Searching rows start s turn → length s.1 ≤ turn → AreReached rows start s.0
search_ends rows start s turn w l = record { whole = w.kept.whole; led = w.kept.sound; all = all }
  where
    hands_on : (k j : ℕ) → is_marked s.0 k ≡ true → j < length rows → leads rows k j ≡ true → is_marked s.0 j ≡ true
    hands_on k j m b e =
        let h : k < length rows = leads_within rows k j e in
        let r : (t : ℕ) × (t < length s.1) × (get_or s.1 t 0 ≡ k) = turn_of s.1 k (sym (w.kept.listed k h) ∙ m) in
        let i : r.0 < length s.1 = r.1 in
        w.done r.0 (omega (arith, i, l)) j b (subst (λ z. leads rows z j ≡ true) (sym r.2) e)

    all : (j : ℕ) → j < length rows → LeadsTo rows start j → is_marked s.0 j ≡ true
    all j b p =
        let e : end_of p.first p.rest < length rows = subst (λ z. z < length rows) (sym p.last) b in
        let h : p.first < length rows = starts_within rows p.first p.rest p.path.1 e in
        subst (λ z. is_marked s.0 z ≡ true) p.last
        (path_keeps rows (λ k. is_marked s.0 k ≡ true) hands_on p.first p.rest (w.first p.first h p.path.0) p.path.1 e)

-- ---- as the code goes

any_default : (ks : List ℕ) (t d e : ℕ) → t < length ks → get_or ks t d ≡ get_or ks t e
any_default [] t d e l = absurd (omega arith)
any_default (k ∷ ks) zero d e l = refl
any_default (k ∷ ks) (suc t) d e l = any_default ks t d e (omega arith)

pub search_begins : (rows : Rows) (start n : ℕ) (ms : List Bool) (q row : List ℕ) (s : State) → ms ≡ replicate n false → n ≡ length rows → q ≡ []
    → row ≡ row_at rows start → s ≡ visited_all (ms, q) row → Searching rows start s 0
search_begins rows start n ms q row s e f g h is = search_starts rows start s (is ∙ ap (λ r. visited_all (ms, q) r) h
    ∙ ap (λ z. visited_all (z, q) (row_at rows start)) (e ∙ ap (λ k. replicate k false) f) ∙ ap
    (λ z. visited_all (replicate (length rows) false, z) (row_at rows start)) g)

pub search_step : (rows : Rows) (start number : ℕ) (row : List ℕ) (s s' : State) (turn : ℕ) → Searching rows start s turn → turn < length s.1
    → number ≡ get_or s.1 turn number → row ≡ row_at rows number → s' ≡ visited_all s row → Searching rows start s' (turn + 1)
search_step rows start number row s s' turn w l e f is =
    search_goes_on rows start s s' turn w l (is ∙ ap (λ r. visited_all s r) (f ∙ ap (row_at rows) (e ∙ any_default s.1 turn number 0 l)))

pub turns_left : (rows : Rows) (start : ℕ) (s : State) (turn : ℕ) → Searching rows start s turn → turn < length s.1
    → length rows - (turn + 1) < length rows - turn
turns_left rows start s turn w l = let h : length s.1 ≤ length rows = queue_short rows start s turn w in omega (arith, h, l)

-- ---- each number once

listed_below : (n : ℕ) (ks : List ℕ) (j : ℕ) → AllByRecursion (λ k. k < n) ks → is_listed ks j ≡ true → j < n
listed_below n [] j a e = absurd (false≢true e)
listed_below n (k ∷ ks) j a e = go (or_cases (eqb j k) (is_listed ks j) e) (listed_below n ks j a.1)
  where
    go : (eqb j k ≡ true) ⊎ (is_listed ks j ≡ true) → (is_listed ks j ≡ true → j < n) → j < n
    go (inl q) f = subst (λ z. z < n) (sym (eqb-true j k q)) a.0
    go (inr m) f = f m

-- the numbers of a list that stand in it once are those of the list below the count
pub once_listed : (n : ℕ) (row : List ℕ) (j : ℕ)
    → (is_listed (once n row) j ≡ true → is_listed row j ≡ true) × (j < n → is_listed row j ≡ true → is_listed (once n row) j ≡ true)
once_listed n row j = (
  λ e. kept.sound j (kept.listed j (listed_below n (once n row) j kept.below e) ∙ e),
  λ l e. sym (kept.listed j l)
      ∙ all_marked (replicate n false, []) row j (subst (λ z. j < z) (sym (length-replicate n false)) l) e,
)
  where
    kept : Kept n (λ k. is_listed row k ≡ true) (visited_all (replicate n false, []) row)
    kept = all_kept n (λ k. is_listed row k ≡ true) (replicate n false, []) row (λ i e. e) (nothing_there n (λ k. is_listed row k ≡ true))
