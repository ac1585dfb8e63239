-- The table of places in the basis.
use Rattle.std.specs.Prelude.{ℕ, zero, suc, ◌≡◌, ◌≢◌, ◌⊎◌, ◌<◌, ◌≤◌, ◌+◌, ◌∷◌, ◌++◌, List, [], length, take, replicate, Contains, Option, Some, None, slice_get, slice_set, get_or}
use Rattle.std.proofs.Common.{sym, ◌∙◌, ap, subst, arith, refl, inl, inr}
use Rattle.std.proofs.lemmas.List.{get_or-set_same, get_or-set_other, length-set, take_more}
use Rattle.std.proofs.lemmas.Option.{slice_get_within}
use Rattle.proof_steps.specs.Rows.{AllDiffer}
use Rattle.int_simplex.specs.Seating.{IsSeat, AreSeats}
use Rattle.int_simplex.proofs.Places.{same_some, listed_at, at_listed, get-append, get-last}
use Rattle.int_simplex.proofs.Limits.{get-set-same, get-set-other}
use Rattle.int_simplex.proofs.Begun.{length_same}
use Rattle.int_simplex.proofs.Turned.{place_once}

same-or-not : (c d : ℕ) → (c ≡ d) ⊎ (c ≢ d)
same-or-not c d = grind arith

none-in : (n c : ℕ) (o : Option ℕ) → o ≡ None → get_or (replicate n o) c None ≡ None
none-in zero c o e = refl
none-in (suc n) zero o e = e
none-in (suc n) (suc c) o e = none-in n c o e

-- no column is in an empty basis
pub no_seats : (n : ℕ) (seats : List (Option ℕ)) → seats ≡ replicate n None → AreSeats n [] seats
no_seats n seats e = record {
  count = ap length e ∙ length_same n None;
  each = λ c. subst (IsSeat [] c) (sym (ap (λ (s : List (Option ℕ)). get_or s c None) e ∙ none-in n c None refl)) (λ i. none c i);
} where
  none : (c : ℕ) → Contains [] c → ⊥
  none c (k, h, e) = absurd (omega arith)

-- a further column of the basis is seated
pub seat_more : (n : ℕ) (basis : List ℕ) (seats : List (Option ℕ)) (b k : ℕ) → k ≡ length basis → b < n → AreSeats n basis seats
    → AreSeats n (basis ++ b ∷ []) (slice_set seats b (Some k))
seat_more n basis seats b k ek h a = record {
  count = length-set seats b (Some k) ∙ a.count;
  each = λ c. elim (same-or-not c b) [
    | inl e ↦
        let l = a.count in
        let r : get_or (slice_set seats b (Some k)) b None ≡ Some k = get_or-set_same seats b (Some k) None (omega arith) in
        subst (λ (x : ℕ). IsSeat (basis ++ b ∷ []) x (get_or (slice_set seats b (Some k)) x None)) (sym e)
        (subst (IsSeat (basis ++ b ∷ []) b) (sym r) (get-last basis b k ek))
    | inr m ↦
        subst (IsSeat (basis ++ b ∷ []) c) (sym (get_or-set_other seats b c (Some k) None m)) (other c m (get_or seats c None) (a.each c))
  ];
} where
  split : (j m : ℕ) → j < m + 1 → (j < m) ⊎ (j ≡ m)
  split j m h = grind arith

  length-snoc : (xs : List ℕ) (x : ℕ) → length (xs ++ x ∷ []) ≡ length xs + 1
  length-snoc [] x = refl
  length-snoc (y ∷ xs) x = let e : length (xs ++ x ∷ []) ≡ length xs + 1 = length-snoc xs x in omega arith

  other : (c : ℕ) → c ≢ b → (o : Option ℕ) → IsSeat basis c o → IsSeat (basis ++ b ∷ []) c o
  other c m None f = λ i.
      let j = at_listed (basis ++ b ∷ []) c i in
      let w = slice_get_within (basis ++ b ∷ []) j.0 c j.1 in
      let l = length-snoc basis b in
      elim (split j.0 (length basis) (omega arith)) [
        | inl w ↦ f (listed_at basis j.0 c (sym (get-append basis (b ∷ []) j.0 w) ∙ j.1))
        | inr w ↦ m (same_some c b (sym j.1 ∙ get-last basis b j.0 w))
      ]
  other c m (Some j) f = get-append basis (b ∷ []) j (slice_get_within basis j c f) ∙ f

-- as far as the table is made
pub seat_next : (n : ℕ) (basis : List ℕ) (seats : List (Option ℕ)) (k d : ℕ) → k < length basis → get_or basis k d < n
    → AreSeats n (take k basis) seats → AreSeats n (take (k + 1) basis) (slice_set seats (get_or basis k d) (Some k))
seat_next n basis seats k d h l a =
    subst (λ (b : List ℕ). AreSeats n b (slice_set seats (get_or basis k d) (Some k))) (sym (take_more basis k d h))
    (seat_more n (take k basis) seats (get_or basis k d) k (sym (taken k basis (omega arith))) l a) where
      taken : (k : ℕ) (xs : List ℕ) → k ≤ length xs → length (take k xs) ≡ k
      taken zero xs h = refl
      taken (suc k) [] h = absurd (omega arith)
      taken (suc k) (x ∷ xs) h = ap suc (taken k xs (omega arith))

-- one column leaves its place to another one
pub seats_after : (n : ℕ) (basis : List ℕ) (seats : List (Option ℕ)) (at x c : ℕ) → AllDiffer basis → slice_get basis at ≡ Some x
    → c ≢ x → x < n → c < n → AreSeats n basis seats
    → AreSeats n (slice_set basis at c) (slice_set (slice_set seats x None) c (Some at))
seats_after n basis seats at x c d ex m hx hc a = record {
  count = length-set (slice_set seats x None) c (Some at) ∙ length-set seats x None ∙ a.count;
  each = λ k. elim (same-or-not k c) [
    | inl e ↦
        let l = a.count in let l2 : length (slice_set seats x None) ≡ length seats = length-set seats x None in
        let r : get_or (slice_set (slice_set seats x None) c (Some at)) c None ≡ Some at =
        get_or-set_same (slice_set seats x None) c (Some at) None (omega arith) in
        subst (λ (y : ℕ). IsSeat (slice_set basis at c) y (get_or (slice_set (slice_set seats x None) c (Some at)) y None)) (sym e)
        (subst (IsSeat (slice_set basis at c) c) (sym r) (get-set-same basis at c (slice_get_within basis at x ex)))
    | inr w ↦
        subst (IsSeat (slice_set basis at c) k) (sym (get_or-set_other (slice_set seats x None) c k (Some at) None w))
        (elim (same-or-not k x) [
          | inl e ↦
              let l = a.count in
              let r : get_or (slice_set seats x None) x None ≡ None = get_or-set_same seats x None None (omega arith) in
              subst (λ (y : ℕ). IsSeat (slice_set basis at c) y (get_or (slice_set seats x None) y None)) (sym e)
              (subst (IsSeat (slice_set basis at c) x) (sym r) (λ i. left i))
          | inr v ↦
              subst (IsSeat (slice_set basis at c) k) (sym (get_or-set_other seats x k None None v)) (other k w v (get_or seats k None) (a.each k))
        ])
  ];
} where
  -- what stands elsewhere stood there
  stood : (j k : ℕ) → k ≢ c → slice_get (slice_set basis at c) j ≡ Some k → (j ≢ at) × (slice_get basis j ≡ Some k)
  stood j k n e = elim (same-or-not j at) [
    | inl q ↦ absurd (n (same_some k c (sym e ∙ ap (slice_get (slice_set basis at c)) q ∙ get-set-same basis at c (slice_get_within basis at x ex))))
    | inr q ↦ (q, sym (get-set-other basis at j c q) ∙ e)
  ]

  left : Contains (slice_set basis at c) x → ⊥
  left i =
      let j = at_listed (slice_set basis at c) x i in
      let s = stood j.0 x (λ e. m (sym e)) j.1 in
      s.0 (place_once basis j.0 at x d s.1 ex)

  other : (k : ℕ) → k ≢ c → k ≢ x → (o : Option ℕ) → IsSeat basis k o → IsSeat (slice_set basis at c) k o
  other k w v None f = λ i.
      let j = at_listed (slice_set basis at c) k i in
      f (listed_at basis j.0 k (stood j.0 k w j.1).1)
  other k w v (Some j) f =
      get-set-other basis at j c (λ q. v (same_some k x (sym f ∙ ap (slice_get basis) q ∙ ex))) ∙ f

-- past the end of the table there is no column of the basis
pub seat_past : (n c : ℕ) (basis : List ℕ) (seats : List (Option ℕ)) → length seats ≤ c → AreSeats n basis seats → IsSeat basis c None
seat_past n c basis seats h a = subst (IsSeat basis c) (past seats c h) (a.each c) where
  past : (seats : List (Option ℕ)) (c : ℕ) → length seats ≤ c → get_or seats c None ≡ None
  past [] c h = refl
  past (s ∷ seats) zero h = absurd (omega arith)
  past (s ∷ seats) (suc c) h = past seats c (omega arith)
