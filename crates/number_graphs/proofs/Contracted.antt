-- The least order of all numbers, of which those from one on are taken, is the least order of those by what they lead to.
use Rattle.std.proofs.Common.{◌≡◌, ℕ, zero, suc, ◌<◌, ◌≤◌, ◌+◌, ◌-◌, Bool, true, false, cond, ◌||◌, eqb, List, [], ◌∷◌, ◌++◌, length, refl, ap, ◌∙◌, sym, subst, arith, append_assoc}
use Rattle.std.specs.Bool.{nat_lt}
use Rattle.std.specs.List.{AllByRecursion, IsDistinct}
use Rattle.std.proofs.Math.Logic.{◌⊎◌, inl, inr}
use Rattle.std.proofs.lemmas.Bool.{true≢false, false≢true, eqb-true, eqb-false, eq-eqb, ne_eqb, ltb-true, cases_Bool, cases_lt}
use Rattle.std.proofs.lemmas.List.Folds.{list_any-append}
use Rattle.lus_meaning.specs.Order.{Passes, is_listed, IsReady, AreReady, IsOrder, IsNext, AreNext, IsLeastOrder, IsStuck}
use Rattle.lus_meaning.proofs.Lists.{append_none}
use Rattle.lus_meaning.proofs.Orders.{IsWalk, last_of, distinct-snoc, no_numbers, place_in, place_lowers, ready_or_not, stuck_walk}
use Rattle.number_graphs.specs.Graphs.{Rows, leads, IsPath, end_of, LeadsTo, LeadsFrom, from_on, HasCircle}
use Rattle.number_graphs.proofs.Paths.{one_step, path_keeps, starts_within}

-- ---- orders by any relation

module _ (count : ℕ) (Needs : ℕ → ℕ → Type 0) where
  ready_from_next : (done ks : List ℕ) → AreNext count Needs done ks → AreReady count Needs done ks
  ready_from_next done [] a = tt
  ready_from_next done (k ∷ ks) a = (a.0.ready, ready_from_next (done ++ k ∷ []) ks a.1)

  below_from_next : (done ks : List ℕ) → AreNext count Needs done ks → AllByRecursion (λ k. k < count) ks
  below_from_next done [] a = tt
  below_from_next done (k ∷ ks) a = (a.0.below, below_from_next (done ++ k ∷ []) ks a.1)

  distinct_from_next : (done ks : List ℕ) → AreNext count Needs done ks → IsDistinct eqb done → IsDistinct eqb (done ++ ks)
  distinct_from_next done [] a d = subst (IsDistinct eqb) (sym (append_none done)) d
  distinct_from_next done (k ∷ ks) a d = subst (IsDistinct eqb) (append_assoc done (k ∷ []) ks)
      (distinct_from_next (done ++ k ∷ []) ks a.1 (distinct-snoc done k d a.0.new))

  order_of_next : (ks : List ℕ) → AreNext count Needs [] ks → ((k : ℕ) → k < count → is_listed ks k ≡ true) → IsLeastOrder count Needs ks
  order_of_next ks a all = record {
    order = record {
      below = below_from_next [] ks a;
      all = all;
      once = distinct_from_next [] ks a no_numbers;
      ready = ready_from_next [] ks a;
    };
    next = a;
  }

-- two relations that are one below the count have the same least order
module _ (count : ℕ) (R S : ℕ → ℕ → Type 0) (there : (k j : ℕ) → k < count → j < count → R k j → S k j)
    (back : (k j : ℕ) → k < count → j < count → S k j → R k j) where
  ready_there : (done : List ℕ) (k : ℕ) → k < count → IsReady count R done k → IsReady count S done k
  ready_there done k l r j h n = r j h (back k j l h n)

  ready_back : (done : List ℕ) (k : ℕ) → k < count → IsReady count S done k → IsReady count R done k
  ready_back done k l r j h n = r j h (there k j l h n)

  next_there : (done ks : List ℕ) → AreNext count R done ks → AreNext count S done ks
  next_there done [] a = tt
  next_there done (k ∷ ks) a =
      let l : k < count = a.0.below in (
        record {
          below = l;
          new = a.0.new;
          ready = ready_there done k l a.0.ready;
          least = λ j h e r. a.0.least j h e (ready_back done j (omega (arith, h, l)) r);
        },
        next_there (done ++ k ∷ []) ks a.1,
      )

  pub same_least_order : (ks : List ℕ) → IsLeastOrder count R ks → IsLeastOrder count S ks
  same_least_order ks o = order_of_next count S ks (next_there [] ks o.next) o.order.all

-- ---- those from one on

module _ (start : ℕ) where
  here : (k : ℕ) → start ≤ k → start + (k - start) ≡ k
  here k l = omega (arith, l)

  not_before : (k : ℕ) → nat_lt k start ≡ false → start ≤ k
  not_before k f = go (cases_lt k start)
    where
      go : (k < start) ⊎ (start ≤ k) → start ≤ k
      go (inl l) = absurd (true≢false (sym (lt_true k start l) ∙ f))
        where
          lt_true : (a b : ℕ) → a < b → nat_lt a b ≡ true
          lt_true a b l = search arith
      go (inr l) = l

  listed_from : (ks : List ℕ) (j : ℕ) → is_listed (from_on start ks) j ≡ is_listed ks (start + j)
  listed_from [] j = refl
  listed_from (k ∷ ks) j = go (cases_Bool (nat_lt k start)) (listed_from ks j)
    where
      go : (nat_lt k start ≡ true) ⊎ (nat_lt k start ≡ false) → is_listed (from_on start ks) j ≡ is_listed ks (start + j)
          → is_listed (from_on start (k ∷ ks)) j ≡ is_listed (k ∷ ks) (start + j)
      go (inl t) r = let h : k < start = ltb-true k start t in rw (t, ne_eqb (start + j) k (λ e. absurd (omega (arith, e, h)))) r
      go (inr f) r = rw f (heads (cases_Bool (eqb (start + j) k)))
        where
          l : start ≤ k
          l = not_before k f

          heads : (eqb (start + j) k ≡ true) ⊎ (eqb (start + j) k ≡ false)
              → (eqb j (k - start) || is_listed (from_on start ks) j) ≡ (eqb (start + j) k || is_listed ks (start + j))
          heads (inl t) = let e : start + j ≡ k = eqb-true (start + j) k t in rw (t, eq-eqb j (k - start) (omega (arith, e))) refl
          heads (inr g) = rw (g, ne_eqb j (k - start) (λ e. eqb-false (start + j) k g (omega (arith, e, l)))) r

  from_joined_less : (done : List ℕ) (k : ℕ) → nat_lt k start ≡ true → from_on start (done ++ k ∷ []) ≡ from_on start done
  from_joined_less [] k t = rw t refl
  from_joined_less (d ∷ ds) k t = go (nat_lt d start) (from_joined_less ds k t)
    where
      go : (b : Bool) → from_on start (ds ++ k ∷ []) ≡ from_on start ds → cond b (from_on start (ds ++ k ∷ []))
          ((d - start) ∷ from_on start (ds ++ k ∷ [])) ≡ cond b (from_on start ds)
          ((d - start) ∷ from_on start ds)
      go true e = e
      go false e = ap (λ z. (d - start) ∷ z) e

  from_joined_more : (done : List ℕ) (k : ℕ) → nat_lt k start ≡ false → from_on start (done ++ k ∷ []) ≡ from_on start done ++ (k - start) ∷ []
  from_joined_more [] k f = rw f refl
  from_joined_more (d ∷ ds) k f = go (nat_lt d start) (from_joined_more ds k f)
    where
      go : (b : Bool) → from_on start (ds ++ k ∷ []) ≡ from_on start ds ++ (k - start) ∷ [] → cond b (from_on start (ds ++ k ∷ []))
          ((d - start) ∷ from_on start (ds ++ k ∷ [])) ≡ cond b (from_on start ds)
          ((d - start) ∷ from_on start ds) ++ (k - start) ∷ []
      go true e = e
      go false e = ap (λ z. (d - start) ∷ z) e

module _ (rows : Rows) (start : ℕ) (all : List ℕ) (o : IsOrder (length rows) (Passes (leads rows)) all) where
  abbrev n : ℕ
  n = length rows

  -- what is listed leads to what is listed
  abbrev IsClosed : List ℕ → Type 0
  IsClosed done = (k j : ℕ) → is_listed done k ≡ true → j < n → leads rows k j ≡ true → is_listed done j ≡ true

  or_left : (a b : Bool) → a ≡ true → (a || b) ≡ true
  or_left true b e = refl
  or_left false b e = absurd (false≢true e)

  or_cases : (a b : Bool) → (a || b) ≡ true → (a ≡ true) ⊎ (b ≡ true)
  or_cases true b e = inl refl
  or_cases false b e = inr e

  closed_more : (done : List ℕ) (k : ℕ) → IsClosed done → IsReady n (Passes (leads rows)) done k → IsClosed (done ++ k ∷ [])
  closed_more done k c r i j e l d =
      list_any-append (eqb j) done (k ∷ []) ∙ or_left (is_listed done j) (is_listed (k ∷ []) j)
      (go (or_cases (is_listed done i) (is_listed (k ∷ []) i) (sym (list_any-append (eqb i) done (k ∷ [])) ∙ e)))
    where
      go : (is_listed done i ≡ true) ⊎ (is_listed (k ∷ []) i ≡ true) → is_listed done j ≡ true
      go (inl t) = c i j t l d
      go (inr t) = r j l (subst (λ z. leads rows z j ≡ true) (only (or_cases (eqb i k) false t)) d)
        where
          only : (eqb i k ≡ true) ⊎ (false ≡ true) → i ≡ k
          only (inl q) = eqb-true i k q
          only (inr q) = absurd (false≢true q)

  -- what a number that is ready leads to, by several steps, is listed
  led_listed : (done : List ℕ) (k j : ℕ) → IsClosed done → IsReady n (Passes (leads rows)) done k → j < n → LeadsTo rows k j → is_listed done j ≡ true
  led_listed done k j c r l p =
      let e : end_of p.first p.rest < n = subst (λ z. z < n) (sym p.last) l in
      let h : p.first < n = starts_within rows p.first p.rest p.path.1 e in
      subst (λ z. is_listed done z ≡ true) p.last
      (path_keeps rows (λ z. is_listed done z ≡ true) (λ i m t b d. c i m t b d) p.first p.rest (r p.first h p.path.0) p.path.1 e)

  -- a number all of whose needs from the start on are listed, itself or one that it leads to below the start is ready
  descend : (done : List ℕ) (limit fuel i : ℕ) → place_in all i < fuel → i < n → i ≤ limit → start ≤ limit → is_listed done i ≡ false
      → ((j : ℕ) → j < n → start ≤ j → LeadsTo rows i j → is_listed done j ≡ true)
      → (m : ℕ) × (m ≤ limit) × (is_listed done m ≡ false) × IsReady n (Passes (leads rows)) done m
  descend done limit zero i f b l s u h = absurd (omega (arith, f))
  descend done limit (suc fuel) i f b l s u h = go (ready_or_not n (leads rows) done i)
      (λ k p c g v w. descend done limit fuel k p c g s v w)
    where
      Found : Type 0
      Found = (m : ℕ) × (m ≤ limit) × (is_listed done m ≡ false) × IsReady n (Passes (leads rows)) done m

      Deeper : Type 0
      Deeper = (k : ℕ) → place_in all k < fuel → k < n → k ≤ limit → is_listed done k ≡ false
          → ((j : ℕ) → j < n → start ≤ j → LeadsTo rows k j → is_listed done j ≡ true) → Found

      go : IsReady n (Passes (leads rows)) done i ⊎ ((j : ℕ) × (j < n) × (leads rows i j ≡ true) × (is_listed done j ≡ false)) → Deeper → Found
      go (inl r) d = (i, l, u, r)
      go (inr q) d = on (cases_lt q.0 start)
        where
          on : (q.0 < start) ⊎ (start ≤ q.0) → Found
          on (inr g) = absurd (true≢false (sym (h q.0 q.1 g (one_step rows i q.0 q.2)) ∙ q.3))
          on (inl g) =
              let p : place_in all q.0 < place_in all i = place_lowers n (leads rows) all o i q.0 b q.1 q.2 in
              d q.0 (omega (arith, p, f)) q.1 (omega (arith, g, s)) q.3
              (λ j c e w. h j c e (record { first = q.0; rest = w.first ∷ w.rest; path = (q.2, w.path); last = w.last }))

  next_from : (done : List ℕ) (k : ℕ) → IsClosed done → start ≤ k → IsNext n (Passes (leads rows)) done k
      → IsNext (n - start) (LeadsFrom rows start) (from_on start done) (k - start)
  next_from done k c l x = record {
    below = let h : k < n = x.below in omega (arith, h, l);
    new = listed_from start done (k - start) ∙ subst (λ z. is_listed done z ≡ false) (sym (here start k l)) x.new;
    ready = λ j h p. listed_from start done j ∙ led_listed done k (start + j) c x.ready (omega (arith, h)) (subst (λ z. LeadsTo rows z (start + j))
        (here start k l) p);
    least = least;
  }
    where
      least : (j : ℕ) → j < k - start → is_listed (from_on start done) j ≡ false → IsReady (n - start) (LeadsFrom rows start) (from_on start done) j → ⊥
      least j h u r =
          let b : k < n = x.below in
          let i : start + j < n = omega (arith, h, b) in
          let q : (m : ℕ) × (m ≤ start + j) × (is_listed done m ≡ false) × IsReady n (Passes (leads rows)) done m =
          descend done (start + j) (suc (place_in all (start + j))) (start + j) (omega arith) i (omega arith) (omega arith)
          (sym (listed_from start done j) ∙ u)
          (λ m e g p. subst (λ z. is_listed done z ≡ true) (here start m g)
          (sym (listed_from start done (m - start)) ∙ r (m - start) (omega (arith, e, g)) (subst (LeadsTo rows (start + j)) (sym (here start m g)) p))) in
          let a : q.0 ≤ start + j = q.1 in
          x.least q.0 (omega (arith, a, h)) q.2 q.3

  all_next_from : (done ks : List ℕ) → IsClosed done → AreNext n (Passes (leads rows)) done ks
      → AreNext (n - start) (LeadsFrom rows start) (from_on start done) (from_on start ks)
  all_next_from done [] c a = tt
  all_next_from done (k ∷ ks) c a = go (cases_Bool (nat_lt k start)) (all_next_from (done ++ k ∷ []) ks (closed_more done k c a.0.ready) a.1)
    where
      go : (nat_lt k start ≡ true) ⊎ (nat_lt k start ≡ false)
          → AreNext (n - start) (LeadsFrom rows start) (from_on start (done ++ k ∷ [])) (from_on start ks)
          → AreNext (n - start) (LeadsFrom rows start) (from_on start done) (from_on start (k ∷ ks))
      go (inl t) r = rw t (subst (λ z. AreNext (n - start) (LeadsFrom rows start) z (from_on start ks)) (from_joined_less start done k t) r)
      go (inr f) r = rw f (
        next_from done k c (not_before start k f) a.0,
        subst (λ z. AreNext (n - start) (LeadsFrom rows start) z (from_on start ks)) (from_joined_more start done k f) r,
      )

pub least_from : (rows : Rows) (start : ℕ) (ks : List ℕ) → IsLeastOrder (length rows) (Passes (leads rows)) ks
    → IsLeastOrder (length rows - start) (LeadsFrom rows start) (from_on start ks)
least_from rows start ks o = order_of_next (length rows - start) (LeadsFrom rows start) (from_on start ks)
    (all_next_from rows start ks o.order [] ks (λ k j e. absurd (false≢true e)) o.next)
    (λ k l. listed_from start ks k ∙ o.order.all (start + k) (omega (arith, l)))

-- ---- where one is stuck there is a circle

path_of_walk : (rows : Rows) (k : ℕ) (js : List ℕ) → IsWalk (length rows) (leads rows) k js → IsPath rows k js
path_of_walk rows k [] w = tt
path_of_walk rows k (j ∷ js) w = (w.0, path_of_walk rows j js w.1)

same_end : (rows : Rows) (k : ℕ) (js : List ℕ) → last_of (length rows) (leads rows) k js ≡ end_of k js
same_end rows k [] = refl
same_end rows k (j ∷ js) = same_end rows j js

pub circle_of_stuck : (rows : Rows) (done : List ℕ) → IsStuck (length rows) (Passes (leads rows)) done → HasCircle rows
circle_of_stuck rows done s =
    let w : (k : ℕ) × (k < length rows) × (j : ℕ) × (js : List ℕ) × IsWalk (length rows) (leads rows) k (j ∷ js)
    × (last_of (length rows) (leads rows) j js ≡ k) = stuck_walk (length rows) (leads rows) done s in
    record {
      number = w.0;
      below = w.1;
      circle = record {
        first = w.2;
        rest = w.3;
        path = path_of_walk rows w.0 (w.2 ∷ w.3) w.4;
        last = sym (same_end rows w.2 w.3) ∙ w.5;
      };
    }
