-- Sparse rows.
use Rattle.std.specs.Prelude.{ℕ, zero, suc, ◌≡◌, ◌≢◌, ◌⊎◌, ◌==◌, ◌<◌, ◌≤◌, ◌+◌, Bool, true, false, cond, List, [], ◌∷◌, ◌++◌, map, Contains, Some, slice_get}
use Rattle.std.proofs.Common.{sym, ◌∙◌, ap, subst, arith, refl, inl, inr, get_or}
use Rattle.std.proofs.lemmas.Int.{ints}
use Rattle.std.proofs.lemmas.Bool.Decides.{nat_tests}
use lib.IntN.{ℤ, pos, ◌+ℤ◌}
use Rattle.proof_steps.specs.Rows.{entry, AllDiffer}
use Rattle.int_simplex.specs.Given.{column_of, IsInOrder, IsWithin, HasNoZero}
use Rattle.int_simplex.specs.Sparse.{IsFrom, IsSparse, head_at, rest_at, first_column}
use Rattle.int_simplex.proofs.Places.{same_some}

pub by_test : (b : Bool) → (b ≡ true) ⊎ (b ≡ false)
by_test true = inl refl
by_test false = inr refl

pub same_if : (x y : ℕ) → (x == y) ≡ true → x ≡ y
same_if x y e = grind (arith, nat_tests)

pub other_if : (x y : ℕ) → (x == y) ≡ false → x ≢ y
other_if x y e q = absurd (grind (arith, nat_tests))

pub is_other : (x y : ℕ) → x ≢ y → (x == y) ≡ false
is_other x y n = grind (arith, nat_tests)

pub is_same : (x : ℕ) → (x == x) ≡ true
is_same x = grind (arith, nat_tests)

pub lower_start : (l m n : ℕ) (row : List (ℕ × ℤ)) → l ≤ m → IsFrom m n row → IsFrom l n row
lower_start l m n [] h s = tt
lower_start l m n (t ∷ row) h s = let a = s.0 in (omega arith, s.1, s.2, s.3)

pub entry_skips : (t : ℕ × ℤ) (row : List (ℕ × ℤ)) (c : ℕ) → t.0 ≢ c → entry (t ∷ row) c ≡ entry row c
entry_skips (x, a) row c n = ap (λ b. cond b (a +ℤ entry row c) (entry row c)) (is_other x c n)

pub entry_takes : (t : ℕ × ℤ) (row : List (ℕ × ℤ)) (c : ℕ) → t.0 ≡ c → entry (t ∷ row) c ≡ t.1 +ℤ entry row c
entry_takes (x, a) row c e = ap (λ b. cond b (a +ℤ entry row c) (entry row c)) (yes x c e) where
  yes : (x c : ℕ) → x ≡ c → (x == c) ≡ true
  yes x c e = grind (arith, nat_tests)

-- no entry below the start
pub entry_below : (l n : ℕ) (row : List (ℕ × ℤ)) (c : ℕ) → IsFrom l n row → c < l → entry row c ≡ pos 0
entry_below l n [] c s h = refl
entry_below l n (t ∷ row) c s h =
    let a = s.0 in
    entry_skips t row c (λ q. absurd (omega arith)) ∙ entry_below (suc t.0) n row c s.3 (omega arith)

-- nor from the end on
pub entry_past : (l n : ℕ) (row : List (ℕ × ℤ)) (c : ℕ) → IsFrom l n row → n ≤ c → entry row c ≡ pos 0
entry_past l n [] c s h = refl
entry_past l n (t ∷ row) c s h =
    let a = s.1 in
    entry_skips t row c (λ q. absurd (omega arith)) ∙ entry_past (suc t.0) n row c s.3 h

plus-zero : (a z : ℤ) → z ≡ pos 0 → a +ℤ z ≡ a
plus-zero a z e = omega (arith, ints)

pub head_is : (c n : ℕ) (row : List (ℕ × ℤ)) → IsFrom c n row → head_at row c ≡ entry row c
head_is c n [] s = refl
head_is c n (t ∷ row) s = elim (by_test (t.0 == c)) [
  | inl e ↦
      let q = same_if t.0 c e in
      ap (λ b. cond b t.1 (pos 0)) e
      ∙ sym (plus-zero t.1 (entry row c) (entry_below (suc t.0) n row c s.3 (omega arith)))
      ∙ sym (entry_takes t row c q)
  | inr e ↦
      let q = other_if t.0 c e in let a = s.0 in
      ap (λ b. cond b t.1 (pos 0)) e
      ∙ sym (entry_skips t row c q ∙ entry_below (suc t.0) n row c s.3 (omega arith))
]

pub rest_from : (c n : ℕ) (row : List (ℕ × ℤ)) → IsFrom c n row → IsFrom (suc c) n (rest_at row c)
rest_from c n [] s = tt
rest_from c n (t ∷ row) s = elim (by_test (t.0 == c)) [
  | inl e ↦
      let q = same_if t.0 c e in
      let P : Bool → Type 0 = λ b. IsFrom (suc c) n (cond b row (t ∷ row)) in
      subst P (sym e) (lower_start (suc c) (suc t.0) n row (omega arith) s.3)
  | inr e ↦
      let q = other_if t.0 c e in let a = s.0 in
      let P : Bool → Type 0 = λ b. IsFrom (suc c) n (cond b row (t ∷ row)) in
      subst P (sym e) (omega arith, s.1, s.2, s.3)
]

pub rest_same : (c n : ℕ) (row : List (ℕ × ℤ)) (k : ℕ) → c < k → entry (rest_at row c) k ≡ entry row k
rest_same c n [] k h = refl
rest_same c n (t ∷ row) k h = elim (by_test (t.0 == c)) [
  | inl e ↦
      let q = same_if t.0 c e in
      ap (λ b. entry (cond b row (t ∷ row)) k) e ∙ sym (entry_skips t row k (λ w. absurd (omega arith)))
  | inr e ↦ ap (λ b. entry (cond b row (t ∷ row)) k) e
]

pub first_from : (l n : ℕ) (row : List (ℕ × ℤ)) → l ≤ n → IsFrom l n row → (l ≤ first_column row n) × IsFrom (first_column row n) n row
first_from l n [] h s = (h, tt)
first_from l n (t ∷ row) h s = (s.0, (omega arith, s.1, s.2, s.3))

pub from_end : (n : ℕ) (row : List (ℕ × ℤ)) → IsFrom n n row → row ≡ []
from_end n [] s = refl
from_end n (t ∷ row) s = let a = s.0 in let b = s.1 in absurd (omega arith)

-- a term that is listed is the entry of its column
pub listed_entry : (l n : ℕ) (row : List (ℕ × ℤ)) (k : ℕ) (t : ℕ × ℤ) → IsFrom l n row → slice_get row k ≡ Some t
    → (entry row t.0 ≡ t.1) × (t.1 ≢ pos 0) × (t.0 < n) × (l ≤ t.0)
listed_entry l n [] k t s e = absurd cc
listed_entry l n (u ∷ row) zero t s e =
    let q : u ≡ t = same_some u t e in
    let P : ℕ × ℤ → Type 0 = λ w. (entry (u ∷ row) w.0 ≡ w.1) × (w.1 ≢ pos 0) × (w.0 < n) × (l ≤ w.0) in
    subst P q (
      entry_takes u row u.0 refl ∙ plus-zero u.1 (entry row u.0) (entry_below (suc u.0) n row u.0 s.3 (omega arith)),
      s.2,
      s.1,
      s.0,
    )
listed_entry l n (u ∷ row) (suc k) t s e =
    let w = listed_entry (suc u.0) n row k t s.3 e in
    let a = w.3 in let b = s.0 in
    (entry_skips u row t.0 (λ q. absurd (omega arith)) ∙ w.0, w.1, w.2, omega arith)

-- a column with an entry is listed
pub entry_listed : (row : List (ℕ × ℤ)) (c : ℕ) → entry row c ≢ pos 0 → (k : ℕ) × (t : ℕ × ℤ) × (slice_get row k ≡ Some t) × (t.0 ≡ c)
entry_listed [] c n = absurd (n refl)
entry_listed (t ∷ row) c n = elim (by_test (t.0 == c)) [
  | inl e ↦ (0, t, refl, same_if t.0 c e)
  | inr e ↦
      let w = entry_listed row c (λ z. n (entry_skips t row c (other_if t.0 c e) ∙ z)) in
      (suc w.0, w.1, w.2, w.3)
]

-- the place at which an entry is listed, with its number
pub entry_at : (n : ℕ) (row : List (ℕ × ℤ)) (c : ℕ) → IsSparse n row → entry row c ≢ pos 0
    → (k : ℕ) × (t : ℕ × ℤ) × (slice_get row k ≡ Some t) × (t.0 ≡ c) × (t.1 ≡ entry row c)
entry_at n row c s h =
    let w = entry_listed row c h in
    let v = listed_entry 0 n row w.0 w.1 s w.2 in
    (w.0, w.1, w.2, w.3, sym v.0 ∙ ap (entry row) w.3)

none-below : (l n : ℕ) (row : List (ℕ × ℤ)) (c : ℕ) → IsFrom l n row → c < l → Contains (map column_of row) c → ⊥
none-below l n [] c s h (k, i, e) = absurd (omega arith)
none-below l n (t ∷ row) c s h (zero, i, e) = let q : t.0 ≡ c = e in let a = s.0 in absurd (omega arith)
none-below l n (t ∷ row) c s h (suc k, i, e) =
    let a = s.0 in none-below (suc t.0) n row c s.3 (omega arith) (k, omega arith, e)

pub sparse_differ : (l n : ℕ) (row : List (ℕ × ℤ)) → IsFrom l n row → AllDiffer (map column_of row)
sparse_differ l n [] s = tt
sparse_differ l n (t ∷ row) s = (none-below (suc t.0) n row t.0 s.3 (omega arith), sparse_differ (suc t.0) n row s.3)

pub sparse_within : (l n : ℕ) (row : List (ℕ × ℤ)) → IsFrom l n row → IsWithin n row
sparse_within l n [] s k d h = absurd (omega arith)
sparse_within l n (t ∷ row) s zero d h = s.1
sparse_within l n (t ∷ row) s (suc k) d h = sparse_within (suc t.0) n row s.3 k d (omega arith)

pub sparse_in_order : (l n : ℕ) (row : List (ℕ × ℤ)) → IsFrom l n row → IsInOrder row
sparse_in_order l n [] s k h = absurd (omega arith)
sparse_in_order l n (t ∷ []) s k h = absurd (omega arith)
sparse_in_order l n (t ∷ u ∷ row) s zero h = let a = s.3.0 in omega arith
sparse_in_order l n (t ∷ u ∷ row) s (suc k) h =
    let b = sparse_in_order (suc t.0) n (u ∷ row) s.3 k (omega arith) in
    let e : k + 1 ≡ suc k = omega arith in
    let f : suc k + 1 ≡ suc (suc k) = omega arith in
    let P : ℕ → Type 0 = λ m. get_or (map column_of (u ∷ row)) k 0 < get_or (map column_of (u ∷ row)) m 0 in
    let Q : ℕ → Type 0 = λ m. get_or (map column_of (t ∷ u ∷ row)) (suc k) 0 < get_or (map column_of (t ∷ u ∷ row)) m 0 in
    subst Q (sym f) (subst P e b)

pub sparse_no_zero : (l n : ℕ) (row : List (ℕ × ℤ)) → IsFrom l n row → HasNoZero row
sparse_no_zero l n [] s k d h = absurd (omega arith)
sparse_no_zero l n (t ∷ row) s zero d h = s.2
sparse_no_zero l n (t ∷ row) s (suc k) d h = sparse_no_zero (suc t.0) n row s.3 k d (omega arith)

-- one more column behind
pub sparse_more : (l m n : ℕ) (row : List (ℕ × ℤ)) (c : ℕ) (z : ℤ) → IsFrom l m row → m ≤ c → l ≤ c → c < n → z ≢ pos 0
    → IsFrom l n (row ++ (c, z) ∷ [])
sparse_more l m n [] c z s h k b w = (k, b, w, tt)
sparse_more l m n (t ∷ row) c z s h k b w =
    let a = s.1 in (s.0, omega arith, s.2, sparse_more (suc t.0) m n row c z s.3 h (omega arith) b w)

pub sparse_wider : (l m n : ℕ) (row : List (ℕ × ℤ)) → m ≤ n → IsFrom l m row → IsFrom l n row
sparse_wider l m n [] h s = tt
sparse_wider l m n (t ∷ row) h s = let a = s.1 in (s.0, omega arith, s.2, sparse_wider (suc t.0) m n row h s.3)

-- entries of a row with one more term
pub entry_more : (row : List (ℕ × ℤ)) (c : ℕ) (z : ℤ) (k : ℕ) → c ≢ k → entry (row ++ (c, z) ∷ []) k ≡ entry row k
entry_more [] c z k n = entry_skips (c, z) [] k n
entry_more ((x, a) ∷ row) c z k n = ap (λ w. cond (x == k) (a +ℤ w) w) (entry_more row c z k n)

pub entry_last : (row : List (ℕ × ℤ)) (c : ℕ) (z : ℤ) → entry row c ≡ pos 0 → entry (row ++ (c, z) ∷ []) c ≡ z
entry_last row c z e = added row c z ∙ swap (entry row c) z e where
  swap : (s z : ℤ) → s ≡ pos 0 → s +ℤ z ≡ z
  swap s z e = omega (arith, ints)

  step : (b : Bool) (a s z w : ℤ) → w ≡ s +ℤ z → cond b (a +ℤ w) w ≡ cond b (a +ℤ s) s +ℤ z
  step true a s z w e = omega (arith, ints)
  step false a s z w e = e

  added : (row : List (ℕ × ℤ)) (c : ℕ) (z : ℤ) → entry (row ++ (c, z) ∷ []) c ≡ entry row c +ℤ z
  added [] c z = entry_takes (c, z) [] c refl ∙ nothing z where
    nothing : (z : ℤ) → z +ℤ pos 0 ≡ pos 0 +ℤ z
    nothing z = omega (arith, ints)
  added ((x, a) ∷ row) c z = step (x == c) a (entry row c) z (entry (row ++ (c, z) ∷ []) c) (added row c z)
