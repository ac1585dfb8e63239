-- Where a check begins.
use Rattle.std.specs.Prelude.{ℕ, zero, suc, ◌≡◌, ◌≢◌, ◌⊎◌, ◌<◌, ◌≤◌, ◌+◌, ◌==◌, ◌||◌, Bool, true, false, cond, List, [], ◌∷◌, ◌++◌, drop, length, Contains, MatchOption, is_none, Option, Some, None, slice_get}
use Rattle.std.proofs.Common.{sym, ◌∙◌, ap, arith, refl, inl, inr, get_or, append_assoc}
use Rattle.std.proofs.lemmas.List.{drop_more, drop_all}
use Rattle.std.proofs.lemmas.Option.{slice_get-get_or}
use lib.IntN.{ℤ, pos}
use Rattle.proof_steps.specs.Pivots.{raised, lowered}
use Rattle.int_simplex.specs.State.{is_in, outside_from, top_of}
use Rattle.int_simplex.specs.Choosing.{bare, limit_at}
use Rattle.int_simplex.specs.Valued.{place_at, place_of}
use Rattle.int_simplex.specs.Running.{start_place, AreFirst}
use Rattle.int_simplex.proofs.Places.{listed_at, get-append, get-last}
use Rattle.int_simplex.proofs.Sparse.{by_test, same_if, is_other, is_same}

-- whether a column is in the basis
pub is_in_yes : (basis : List ℕ) (c : ℕ) → Contains basis c → is_in basis c ≡ true
is_in_yes [] c (k, h, e) = absurd (omega arith)
is_in_yes (b ∷ basis) c (zero, h, e) = let q : b ≡ c = e in ap (λ w. w || is_in basis c) (ap (λ z. z == c) q ∙ is_same c)
is_in_yes (b ∷ basis) c (suc k, h, e) = elim (by_test (b == c)) [
  | inl t ↦ ap (λ w. w || is_in basis c) t
  | inr t ↦ ap (λ w. w || is_in basis c) t ∙ is_in_yes basis c (k, omega arith, e)
]

pub is_in_no : (basis : List ℕ) (c : ℕ) → (Contains basis c → ⊥) → is_in basis c ≡ false
is_in_no [] c n = refl
is_in_no (b ∷ basis) c n =
    let m : b ≢ c = λ e. n (0, omega arith, e) in
    ap (λ w. w || is_in basis c) (is_other b c m) ∙ is_in_no basis c (λ i. n (suc i.0, (let h = i.1 in omega arith), i.2))

pub in_yes : (basis : List ℕ) (c : ℕ) → is_in basis c ≡ true → Contains basis c
in_yes [] c e = absurd cc
in_yes (b ∷ basis) c e = elim (by_test (b == c)) [
  | inl t ↦ (0, omega arith, same_if b c t)
  | inr t ↦ let i = in_yes basis c (sym (ap (λ w. w || is_in basis c) t) ∙ e) in (suc i.0, (let h = i.1 in omega arith), i.2)
]

pub in_no : (basis : List ℕ) (c : ℕ) → is_in basis c ≡ false → Contains basis c → ⊥
in_no basis c e i = both (is_in basis c) (is_in_yes basis c i) e where
  both : (b : Bool) → b ≡ true → b ≡ false → ⊥
  both true e f = absurd cc
  both false e f = absurd cc

-- the list of places outside the basis, one column after the other
pub outside_in : (n : ℕ) (values : List (ℤ × ℤ)) (basis : List ℕ) (out : List (ℕ × ℤ)) (z : ℤ × ℤ) → n < length values → Contains basis n
    → out ++ outside_from (n + 1) (drop (n + 1) values) basis ≡ out ++ outside_from n (drop n values) basis
outside_in n values basis out z h i =
    ap (λ w. out ++ w)
    (let e : n + 1 ≡ suc n = omega arith in
    ap (λ k. outside_from k (drop (n + 1) values) basis) e
    ∙ ap (λ w. cond w (outside_from (suc n) (drop (n + 1) values) basis)
    ((n, (get_or values n z).0) ∷ outside_from (suc n) (drop (n + 1) values) basis)) (sym (is_in_yes basis n i))
    ∙ ap (λ vs. outside_from n vs basis) (sym (drop_more values n z h)))

pub outside_out : (n : ℕ) (values : List (ℤ × ℤ)) (basis : List ℕ) (out : List (ℕ × ℤ)) (z : ℤ × ℤ) (v : ℕ × ℤ) → n < length values → (Contains basis n → ⊥)
    → v ≡ (n, (get_or values n z).0)
    → (out ++ v ∷ []) ++ outside_from (n + 1) (drop (n + 1) values) basis ≡ out ++ outside_from n (drop n values) basis
outside_out n values basis out z v h i ev =
    append_assoc out (v ∷ []) (outside_from (n + 1) (drop (n + 1) values) basis)
    ∙ ap (λ w. out ++ w)
    (let e : n + 1 ≡ suc n = omega arith in
    ap (λ k. v ∷ outside_from k (drop (n + 1) values) basis) e
    ∙ ap (λ w. w ∷ outside_from (suc n) (drop (n + 1) values) basis) ev
    ∙ ap (λ w. cond w (outside_from (suc n) (drop (n + 1) values) basis)
    ((n, (get_or values n z).0) ∷ outside_from (suc n) (drop (n + 1) values) basis)) (sym (is_in_no basis n i))
    ∙ ap (λ vs. outside_from n vs basis) (sym (drop_more values n z h)))

append-nil : {X : Type 0} (xs : List X) → xs ++ [] ≡ xs
append-nil [] = refl
append-nil (x ∷ xs) = ap (λ z. x ∷ z) (append-nil xs)

pub outside_all : (n : ℕ) (values : List (ℤ × ℤ)) (basis : List ℕ) (out : List (ℕ × ℤ)) → length values ≤ n
    → out ++ outside_from n (drop n values) basis ≡ outside_from 0 values basis → out ≡ outside_from 0 values basis
outside_all n values basis out h e = sym (append-nil out) ∙ ap (λ vs. out ++ outside_from n vs basis) (sym (drop_all n values h)) ∙ e

-- the first places, as far as they are made
pub record AreFirstTo (basis : List ℕ) (values : List (ℤ × ℤ)) (lowers uppers : List (Option (ℤ × ℕ))) (places : List ℤ) (i : ℕ) : Type 0 where
  pub count : length places ≡ i
  pub each : (c : ℕ) → c < i
      → place_at places c ≡ lowered (bare (limit_at uppers c)) (raised (bare (limit_at lowers c)) (start_place basis values c))

split : (k i : ℕ) → k < i + 1 → (k < i) ⊎ (k ≡ i)
split k i h = grind arith

length-snoc : {X : Type 0} (xs : List X) (x : X) → length (xs ++ x ∷ []) ≡ length xs + 1
length-snoc [] x = refl
length-snoc (y ∷ xs) x = let e : length (xs ++ x ∷ []) ≡ length xs + 1 = length-snoc xs x in omega arith

pub first_more : (basis : List ℕ) (values : List (ℤ × ℤ)) (lowers uppers : List (Option (ℤ × ℕ))) (places : List ℤ) (i : ℕ) (z w : ℤ)
    (low high : Option (ℤ × ℕ))
    → z ≡ start_place basis values i → low ≡ limit_at lowers i → high ≡ limit_at uppers i → w ≡ lowered (bare high) (raised (bare low) z)
    → AreFirstTo basis values lowers uppers places i → AreFirstTo basis values lowers uppers (places ++ w ∷ []) (i + 1)
first_more basis values lowers uppers places i z w low high ez el eh ew a = record {
  count = length-snoc places w ∙ ap (λ n. n + 1) a.count;
  each = λ c h. elim (split c i h) [
    | inl b ↦ ap place_of (get-append places (w ∷ []) c (let n = a.count in omega arith)) ∙ a.each c b
    | inr q ↦
        ap place_of (get-last places w c (let n = a.count in omega arith)) ∙ ew
        ∙ ap (λ o. lowered (bare o) (raised (bare low) z)) eh ∙ ap (λ o. lowered (bare (limit_at uppers i)) (raised (bare o) z)) el
        ∙ ap (λ v. lowered (bare (limit_at uppers i)) (raised (bare (limit_at lowers i)) v)) ez
        ∙ ap (λ k. lowered (bare (limit_at uppers k)) (raised (bare (limit_at lowers k)) (start_place basis values k))) (sym q)
  ];
}

pub first_all : (basis : List ℕ) (values : List (ℤ × ℤ)) (lowers uppers : List (Option (ℤ × ℕ))) (places : List ℤ) (i : ℕ) → i ≡ length values
    → AreFirstTo basis values lowers uppers places i → AreFirst basis values lowers uppers places
first_all basis values lowers uppers places i e a = record { count = a.count ∙ e; each = λ c h. a.each c (omega arith) }

pub start_out : (basis : List ℕ) (values : List (ℤ × ℤ)) (i : ℕ) (v : ℤ × ℤ) → i < length values → (Contains basis i → ⊥)
    → (get_or values i v).0 ≡ start_place basis values i
start_out basis values i v h n =
    ap top_of (sym (slice_get-get_or values i v h)) ∙ ap (λ b. cond b (pos 0) (top_of (slice_get values i))) (sym (is_in_no basis i n))

pub start_in : (basis : List ℕ) (values : List (ℤ × ℤ)) (i : ℕ) → Contains basis i → pos 0 ≡ start_place basis values i
start_in basis values i n = ap (λ b. cond b (pos 0) (top_of (slice_get values i))) (sym (is_in_yes basis i n))

-- a place that was looked for
pub found_in : (basis : List ℕ) (c : ℕ) (o : Option ℕ) → MatchOption o (Contains basis c → ⊥) (λ k. slice_get basis k ≡ Some c)
    → is_none o ≡ false → Contains basis c
found_in basis c None h e = absurd (no e) where
  no : true ≡ false → ⊥
  no e = absurd cc
found_in basis c (Some k) h e = listed_at basis k c h

pub found_out : (basis : List ℕ) (c : ℕ) (o : Option ℕ) → MatchOption o (Contains basis c → ⊥) (λ k. slice_get basis k ≡ Some c)
    → is_none o ≡ true → Contains basis c → ⊥
found_out basis c None h e = h
found_out basis c (Some k) h e = absurd (no e) where
  no : false ≡ true → ⊥
  no e = absurd cc
