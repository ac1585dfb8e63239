-- The loop over rows in a pivot.
use Rattle.std.specs.Prelude.{ℕ, zero, suc, ◌≡◌, ◌≢◌, ◌⊎◌, ◌<◌, ◌≤◌, ◌+◌, List, [], ◌∷◌, length, map, drop, Some, Contains, Result, Ok, Err, IfErr, IsErrAnd, slice_get, slice_set}
use Rattle.std.specs.declared.vec.Vec.{Vec}
use Rattle.std.specs.declared.alloc.Global.{Global}
use Rattle.std.proofs.Common.{sym, ◌∙◌, ap, subst, arith, refl, inl, inr, get_or}
use Rattle.std.proofs.lemmas.List.{length-set, length-map, drop_more}
use Rattle.std.proofs.lemmas.Option.{slice_get_within, slice_get_read}
use lib.IntN.{ℤ, pos, negsuc}
use Rattle.proof_steps.specs.View.{row_view}
use Rattle.proof_steps.specs.Rows.{entry}
use Rattle.int_simplex.specs.declared.trouble.Stopped.{Stopped}
use Rattle.int_simplex.specs.declared.trouble.Stopped.TheVariants as s
use Rattle.int_simplex.specs.Sparse.{IsSparse}
use Rattle.int_simplex.specs.Pivoting.{IsNext, AreTurned, IsNextPast, IsTurnPast, IsTurned, IsTurnedPast}
use Rattle.int_simplex.specs.Crossing.{IsPivoted}
use Rattle.int_simplex.proofs.Places.{same_some, mapped_at}
use Rattle.int_simplex.proofs.Turned.{there}

-- a row that is still to come stays; each other one is the next
pub record AreNextBut (n at entering : ℕ) (other : List (ℕ × ℤ)) (rows news : List (List (ℕ × ℤ))) (all todo : List ℕ) : Type 0 where
  pub count : length news ≡ length rows
  pub each : (k : ℕ) (row new : List (ℕ × ℤ)) → slice_get rows k ≡ Some row → slice_get news k ≡ Some new
      → ((new ≡ row) × Contains todo k) ⊎ IsNext n at entering other k row new
  pub left : (k : ℕ) → (Contains all k → ⊥) → slice_get news k ≡ slice_get rows k

zero-or : (z : ℤ) → (z ≡ pos 0) ⊎ (z ≢ pos 0)
zero-or (pos zero) = inl refl
zero-or (pos (suc n)) = inr (λ e. cc)
zero-or (negsuc n) = inr (λ e. cc)

pub eq_or : (i j : ℕ) → (i ≡ j) ⊎ (i ≢ j)
eq_or i j = grind arith

-- the rows that hold the column are to come
pub next_none : (n at entering : ℕ) (other : List (ℕ × ℤ)) (rows : List (List (ℕ × ℤ))) (all : List ℕ)
    → ((k : ℕ) (row : List (ℕ × ℤ)) → slice_get rows k ≡ Some row → entry row entering ≢ pos 0 → Contains all k)
    → AreNextBut n at entering other rows rows all all
next_none n at entering other rows all f = record {
  count = refl;
  each = λ k row new e g.
      let s : new ≡ row = same_some new row (sym g ∙ e) in elim (zero-or (entry row entering)) [
        | inl z ↦ inr (inl (inr z, s))
        | inr z ↦ inl (s, f k row e z)
      ];
  left = λ k h. refl;
}

pub next_all : (n at entering : ℕ) (other : List (ℕ × ℤ)) (rows news : List (List (ℕ × ℤ))) (all todo : List ℕ) → todo ≡ []
    → AreNextBut n at entering other rows news all todo → AreTurned n at entering other rows news all
next_all n at entering other rows news all todo q a = record {
  next = record {
    count = a.count;
    each = λ k row new e f. elim (a.each k row new e f) [
      | inl w ↦ absurd (none k (let P : List ℕ → Type 0 = λ x. Contains x k in subst P q w.1))
      | inr w ↦ w
    ];
  };
  left = a.left;
} where
  none : (k : ℕ) → Contains [] k → ⊥
  none k (i, h, e) = absurd (omega arith)

pub set_same : {X : Type 0} (xs : List X) (i : ℕ) (v : X) → i < length xs → slice_get (slice_set xs i v) i ≡ Some v
set_same [] i v h = absurd (omega arith)
set_same (x ∷ xs) zero v h = refl
set_same (x ∷ xs) (suc i) v h = set_same xs i v (omega arith)

pub set_other : {X : Type 0} (xs : List X) (i j : ℕ) (v : X) → j ≢ i → slice_get (slice_set xs i v) j ≡ slice_get xs j
set_other [] i j v n = refl
set_other (x ∷ xs) zero zero v n = absurd (n refl)
set_other (x ∷ xs) zero (suc j) v n = refl
set_other (x ∷ xs) (suc i) zero v n = refl
set_other (x ∷ xs) (suc i) (suc j) v n = set_other xs i j v (λ e. n (ap suc e))

pub set_mapped : {X Y : Type 0} (f : X → Y) (xs : List X) (i : ℕ) (v : X) → map f (slice_set xs i v) ≡ slice_set (map f xs) i (f v)
set_mapped f [] i v = refl
set_mapped f (x ∷ xs) zero v = refl
set_mapped f (x ∷ xs) (suc i) v = ap (λ z. f x ∷ z) (set_mapped f xs i v)

-- the first one of those that are to come is this one, or another
pub first_or : (k j : ℕ) (rest : List ℕ) → Contains (k ∷ rest) j → (j ≡ k) ⊎ Contains rest j
first_or k j rest (zero, h, e) = inl (sym e)
first_or k j rest (suc i, h, e) = inr (i, omega arith, e)

module _ (n at entering : ℕ) (other : List (ℕ × ℤ)) (rows news : List (List (ℕ × ℤ))) (all todo rest : List ℕ) (k : ℕ) (head : todo ≡ k ∷ rest)
    (listed : Contains all k) (a : AreNextBut n at entering other rows news all todo) where
  -- the row stays
  pub next_kept : ((row : List (ℕ × ℤ)) → slice_get news k ≡ Some row → (k ≡ at) ⊎ (entry row entering ≡ pos 0))
      → AreNextBut n at entering other rows news all rest
  next_kept f = record {
    count = a.count;
    each = λ j row new e g. elim (a.each j row new e g) [
      | inl w ↦ elim (first_or k j rest (let P : List ℕ → Type 0 = λ x. Contains x j in subst P head w.1)) [
        | inl q ↦
            let P : ℕ → Type 0 = λ z. (z ≡ at) ⊎ (entry row entering ≡ pos 0) in
            let Q : List (ℕ × ℤ) → Type 0 = λ z. (k ≡ at) ⊎ (entry z entering ≡ pos 0) in
            inr (inl (subst P (sym q) (subst Q w.0 (f new (ap (slice_get news) (sym q) ∙ g))), w.0))
        | inr i ↦ inl (w.0, i)
      ]
      | inr w ↦ inr w
    ];
    left = a.left;
  }

  -- the row before a further crossing is the first one
  pub first_row : (row new : List (ℕ × ℤ)) → slice_get rows k ≡ Some row → slice_get news k ≡ Some new → entry new entering ≢ pos 0 → new ≡ row
  first_row row new e f m = elim (a.each k row new e f) [
    | inl w ↦ w.0
    | inr (inl w) ↦ w.1
    | inr (inr w) ↦ absurd (m w.1.gone)
  ]

  -- the row is crossed
  pub next_set : (row new : List (ℕ × ℤ)) → slice_get news k ≡ Some row → k ≢ at → entry row entering ≢ pos 0 → IsPivoted n entering row other new
      → AreNextBut n at entering other rows (slice_set news k new) all rest
  next_set row new er m o p = record {
    count = length-set news k new ∙ a.count;
    each = λ j r v e g. elim (eq_or j k) [
      | inl q ↦
          let l : k < length news = slice_get_within news k row er in
          let s : new ≡ v = same_some new v (sym (set_same news k new l) ∙ ap (slice_get (slice_set news k new)) (sym q) ∙ g) in
          let t : row ≡ r = first_row r row (ap (slice_get rows) (sym q) ∙ e) er o in
          let Q : List (ℕ × ℤ) → Type 0 = λ z. IsPivoted n entering z other v in
          let R : List (ℕ × ℤ) → Type 0 = λ z. IsPivoted n entering row other z in
          inr (inr ((λ z. m (sym q ∙ z)), subst Q t (subst R s p)))
      | inr q ↦ elim (a.each j r v e (sym (set_other news k j new q) ∙ g)) [
        | inl w ↦ elim (first_or k j rest (let P : List ℕ → Type 0 = λ x. Contains x j in subst P head w.1)) [
          | inl z ↦ absurd (q z)
          | inr i ↦ inl (w.0, i)
        ]
        | inr w ↦ inr w
      ]
    ];
    left = λ j h.
        set_other news k j new (λ q. h (let P : ℕ → Type 0 = λ z. Contains all z in subst P (sym q) listed)) ∙ a.left j h;
  }

  pub turned_more : (next : List (List (ℕ × ℤ))) → IsTurned n at entering other k news next → AreNextBut n at entering other rows next all rest
  turned_more next (inl (e, f)) =
      let P : List (List (ℕ × ℤ)) → Type 0 = λ x. AreNextBut n at entering other rows x all rest in subst P (sym e) (next_kept f)
  turned_more next (inr (row, new, er, m, o, p, e)) =
      let P : List (List (ℕ × ℤ)) → Type 0 = λ x. AreNextBut n at entering other rows x all rest in subst P (sym e) (next_set row new er m o p)

  pub turn_past : (e : Stopped) {R : Type 0} (o : Result R Stopped) → slice_get rows at ≡ Some other
      → IsTurnedPast at entering other k news e → IsErrAnd o (λ z. z ≡ e) → IfErr o (IsTurnPast at entering rows)
  turn_past e (Ok u) eo p h = tt
  turn_past e (Err x) eo p h = subst (IsTurnPast at entering rows) (sym h) (by e p) where
    by : (e : Stopped) → IsTurnedPast at entering other k news e → IsTurnPast at entering rows e
    by s.Memory p = tt
    by (s.Past x) p = λ v ev.
        let q : other ≡ v = same_some other v (sym eo ∙ ev) in
        let P : List (ℕ × ℤ) → Type 0 = λ w. IsNextPast entering w p.0 (s.Past x) in
        let r = there rows news [] k p.0 a.count p.1 in
        let t : p.0 ≡ r.0 = first_row r.0 p.0 r.1 p.1 p.3 in
        (k, p.0, p.2, r.1 ∙ ap Some (sym t), subst P q p.4)

-- all rows are sparse
pub news_sparse : (n at entering : ℕ) (other : List (ℕ × ℤ)) (rows news : List (List (ℕ × ℤ))) (all todo : List ℕ)
    → AreNextBut n at entering other rows news all todo → ((k : ℕ) (r : List (ℕ × ℤ)) → slice_get rows k ≡ Some r → IsSparse n r)
    → (k : ℕ) (r : List (ℕ × ℤ)) → slice_get news k ≡ Some r → IsSparse n r
news_sparse n at entering other rows news all todo a f k r e =
    let w = there rows news [] k r a.count e in
    let P : List (ℕ × ℤ) → Type 0 = λ x. IsSparse n x in
    elim (a.each k w.0 r w.1 e) [
      | inl q ↦ subst P (sym q.0) (f k w.0 w.1)
      | inr (inl q) ↦ subst P (sym q.1) (f k w.0 w.1)
      | inr (inr q) ↦ q.1.sparse
    ]

pub row_there : (rows : List (Vec (ℕ × ℤ) Global)) (k : ℕ) (v : Vec (ℕ × ℤ) Global) → k < length rows → v ≡ get_or rows k v
    → slice_get (map row_view rows) k ≡ Some (row_view v)
row_there rows k v h e = mapped_at row_view rows k v (slice_get_read rows (length rows) k v refl h e)

-- memory alone
pub memory_alone : {R : Type 0} (at entering : ℕ) (rows : List (List (ℕ × ℤ))) (o : Result R Stopped)
    → IsErrAnd o (λ z. z ≡ s.Memory) → IfErr o (IsTurnPast at entering rows)
memory_alone at entering rows (Ok u) h = tt
memory_alone at entering rows (Err s.Memory) h = tt
memory_alone at entering rows (Err (s.Past x)) h = absurd cc

pub memory_turned : {R : Type 0} (at entering k : ℕ) (other : List (ℕ × ℤ)) (rows : List (List (ℕ × ℤ))) (o : Result R Stopped)
    → IsErrAnd o (λ z. z ≡ s.Memory) → IfErr o (IsTurnedPast at entering other k rows)
memory_turned at entering k other rows (Ok u) h = tt
memory_turned at entering k other rows (Err s.Memory) h = tt
memory_turned at entering k other rows (Err (s.Past x)) h = absurd cc

pub turned_past : {R : Type 0} (at entering k : ℕ) (rows : List (List (ℕ × ℤ))) (row other : List (ℕ × ℤ)) (e : Stopped) (o : Result R Stopped)
    → slice_get rows k ≡ Some row → k ≢ at → entry row entering ≢ pos 0 → IsNextPast entering other row e → IsErrAnd o (λ z. z ≡ e)
    → IfErr o (IsTurnedPast at entering other k rows)
turned_past at entering k rows row other e (Ok u) er m n p h = tt
turned_past at entering k rows row other e (Err x) er m n p h = subst (IsTurnedPast at entering other k rows) (sym h) (by e p) where
  by : (e : Stopped) → IsNextPast entering other row e → IsTurnedPast at entering other k rows e
  by s.Memory p = tt
  by (s.Past x) p = (row, er, m, n, p)

-- all rows are listed
pub all_listed : (xs ys : List ℕ) (i k : ℕ) → xs ≡ ys → i < length xs → k ≡ get_or xs i k → Contains ys k
all_listed xs ys i k e h q = let P : List ℕ → Type 0 = λ zs. Contains zs k in subst P e (i, h, sym q)

pub within_list : (i n len : ℕ) (xs : List ℕ) → i < n → n ≡ len → len ≡ length xs → i < length xs
within_list i n len xs h a b = omega arith

pub next_in : (xs : List ℕ) (i k : ℕ) → i < length xs → k ≡ get_or xs i k → drop i xs ≡ k ∷ drop (i + 1) xs
next_in xs i k h q = drop_more xs i k h ∙ ap (λ x. x ∷ drop (i + 1) xs) (sym q)

pub none_left : (xs : List ℕ) (i n len : ℕ) → n ≤ i → n ≡ len → len ≡ length xs → drop i xs ≡ []
none_left xs i n len h a b = by xs i (omega arith) where
  by : (xs : List ℕ) (i : ℕ) → length xs ≤ i → drop i xs ≡ []
  by [] zero h = refl
  by [] (suc i) h = refl
  by (x ∷ xs) zero h = absurd (omega arith)
  by (x ∷ xs) (suc i) h = by xs i (omega arith)

pub in_rows : (k : ℕ) (rows news : List (Vec (ℕ × ℤ) Global)) → k < length (map row_view rows)
    → length (map row_view news) ≡ length (map row_view rows) → k < length news
in_rows k rows news h e = let l : length (map row_view news) ≡ length news = length-map news row_view in omega arith
