-- A row with its parts is a multiple of the divisor in each column.
use Rattle.std.specs.Prelude.{ℕ, suc, ◌≡◌, ◌≢◌, ◌⊎◌, ◌==◌, Bool, true, false, cond, List, [], ◌∷◌, map, Some, None, slice_get}
use Rattle.std.specs.Int.{int_div_euclid, int_rem_euclid}
use Rattle.std.proofs.Common.{sym, ◌∙◌, ap, subst, arith, refl, inl, inr}
use Rattle.std.proofs.lemmas.Int.{ints}
use lib.IntN.{ℤ, pos, negsuc, ◌+ℤ◌, ◌*ℤ◌, neg_ℤ, *ℤ-zero, zero-*ℤ}
use Rattle.kind_num.proofs.Ring.{times_sum, sum_times, neg_times, times_neg, times_times}
use Rattle.kind_num.proofs.Quotients.{division_is}
use Rattle.proof_steps.specs.Rows.{entry}
use Rattle.int_simplex.specs.State.{Standing, State}
use Rattle.int_simplex.specs.Farkas.{turned, weight, limits}
use Rattle.int_simplex.specs.Valued.{rest_in}
use Rattle.int_simplex.proofs.First.{decide}
use Rattle.int_simplex.proofs.Sparse.{by_test, other_if, is_other}
use Rattle.int_cuts.specs.Cuts.{IsAtBound, remainder}
use Rattle.int_cuts.specs.Parts.{IsPart, IsPartOf, AreParts}
use Rattle.int_cuts.specs.declared.parts.Part.{Part}
use Rattle.int_cuts.proofs.Remainders.{Multiple, times_less, rest_multiple, neg_multiple, sum_multiple}

-- the bound of a part
abbrev pub part_bound : Part → Standing
part_bound p = record { column = p.column; upper = p.upper; limit = p.limit; literal = p.literal }

abbrev pub part_multiplier : Part → ℤ
part_multiplier p = p.multiplier

abbrev pub bounds_of : List Part → List Standing
bounds_of parts = map part_bound parts

abbrev pub multipliers_of : List Part → List ℤ
multipliers_of parts = map part_multiplier parts

from-division : (n : ℕ) (z : ℤ) → Multiple (pos (suc n)) (z +ℤ neg_ℤ (int_rem_euclid z (pos (suc n))))
from-division n z =
    let d = division_is z (pos (suc n)) (λ e. absurd (omega (arith, ints))) in
    let w = d.whole in (int_div_euclid z (pos (suc n)), omega (arith, ints))

pub side_multiple : (n : ℕ) (side : Bool) (e m : ℤ) → m ≡ remainder (pos (suc n)) side e → Multiple (pos (suc n)) (turned side m +ℤ e)
side_multiple n true e m h =
    let v = neg_multiple (pos (suc n)) (neg_ℤ e +ℤ neg_ℤ (int_rem_euclid (neg_ℤ e) (pos (suc n)))) (from-division n (neg_ℤ e)) in
    let q : neg_ℤ (neg_ℤ e +ℤ neg_ℤ (int_rem_euclid (neg_ℤ e) (pos (suc n)))) ≡ m +ℤ e = omega (arith, ints) in
    subst (Multiple (pos (suc n))) q v
side_multiple n false e m h =
    let w = from-division n e in
    let q : e +ℤ neg_ℤ (int_rem_euclid e (pos (suc n))) ≡ neg_ℤ m +ℤ e = omega (arith, ints) in
    subst (Multiple (pos (suc n))) q w

-- the two that a row's term needs: that of x has the entry -d, and each other one stands at a bound
abbrev pub Owned : ℕ → ℤ → List (ℕ × ℤ) → Type 0
Owned x d row = (k : ℕ) (t : ℕ × ℤ) → slice_get row k ≡ Some t → t.0 ≡ x → t.1 ≡ neg_ℤ d

abbrev pub Stood : State → ℕ → List (ℕ × ℤ) → Type 0
Stood s x row = (k : ℕ) (t : ℕ × ℤ) → slice_get row k ≡ Some t → t.0 ≢ x → IsAtBound s t.0

none-multiple : (s : State) (x n : ℕ) (t : ℕ × ℤ) → (t.0 ≡ x → t.1 ≡ neg_ℤ (pos (suc n))) → (t.0 ≢ x → IsAtBound s t.0) → IsPartOf s x (pos (suc n)) t None
    → Multiple (pos (suc n)) t.1
none-multiple s x n t f g h = elim (decide t.0 x) [
  | inl e ↦ (negsuc 0, f e ∙ sym (times_less (pos (suc n))))
  | inr d ↦ elim h [
    | inl e ↦ absurd (d e)
    | inr (inl b) ↦ absurd (b (g d))
    | inr (inr r) ↦ rest_multiple n t.1 r
  ]
]

part-multiple : (s : State) (x n : ℕ) (t : ℕ × ℤ) (p : Part) → IsPart s x (pos (suc n)) t p → Multiple (pos (suc n)) (turned p.upper p.multiplier +ℤ t.1)
part-multiple s x n t p i = side_multiple n p.upper t.1 p.multiplier i.multiplier

step-none : (d w e t : ℤ) (b : Bool) → Multiple d (w +ℤ e) → Multiple d t → Multiple d (w +ℤ cond b (t +ℤ e) e)
step-none d w e t false m k = m
step-none d w e t true m k =
    let q : (w +ℤ e) +ℤ t ≡ w +ℤ (t +ℤ e) = omega (arith, ints) in subst (Multiple d) q (sum_multiple d (w +ℤ e) t m k)

step-part : (d w e t m : ℤ) (b : Bool) → Multiple d (w +ℤ e) → Multiple d (m +ℤ t) → Multiple d (cond b (m +ℤ w) w +ℤ cond b (t +ℤ e) e)
step-part d w e t m false h k = h
step-part d w e t m true h k =
    let q : (w +ℤ e) +ℤ (m +ℤ t) ≡ (m +ℤ w) +ℤ (t +ℤ e) = omega (arith, ints) in subst (Multiple d) q (sum_multiple d (w +ℤ e) (m +ℤ t) h k)

-- so the bounds and the row together are a multiple of the divisor in each column
pub whole : (s : State) (x n : ℕ) (row : List (ℕ × ℤ)) (parts : List Part) → AreParts s x (pos (suc n)) row parts → Owned x (pos (suc n)) row → Stood s x row
    → (c : ℕ) → Multiple (pos (suc n)) (weight (multipliers_of parts) (bounds_of parts) c +ℤ entry row c)
whole s x n [] parts a f g c =
    let P : List Part → Type 0 = λ ps. Multiple (pos (suc n)) (weight (multipliers_of ps) (bounds_of ps) c +ℤ pos 0) in
    subst P (sym a) (pos 0, sym (*ℤ-zero (pos (suc n))))
whole s x n (t ∷ row) parts (inl (h, a)) f g c =
    step-none (pos (suc n)) (weight (multipliers_of parts) (bounds_of parts) c) (entry row c) t.1 (t.0 == c)
    (whole s x n row parts a (λ k u e. f (suc k) u e) (λ k u e. g (suc k) u e) c) (none-multiple s x n t (f 0 t refl) (g 0 t refl) h)
whole s x n (t ∷ row) parts (inr (p, rest, e, i, a)) f g c =
    let P : List Part → Type 0 = λ ps. Multiple (pos (suc n)) (weight (multipliers_of ps) (bounds_of ps) c +ℤ entry (t ∷ row) c) in
    let Q : ℕ → Type 0 = λ k. Multiple (pos (suc n)) (cond (k == c)
    (turned p.upper p.multiplier +ℤ weight (multipliers_of rest) (bounds_of rest) c) (weight (multipliers_of rest) (bounds_of rest) c)
    +ℤ cond (t.0 == c) (t.1 +ℤ entry row c) (entry row c)) in
    subst P (sym e) (subst Q (sym i.column)
    (step-part (pos (suc n)) (weight (multipliers_of rest) (bounds_of rest) c) (entry row c) t.1 (turned p.upper p.multiplier) (t.0 == c)
    (whole s x n row rest a (λ k u w. f (suc k) u w) (λ k u w. g (suc k) u w) c) (part-multiple s x n t p i)))

-- the same of the right side, at values where each column but x stands at its bound
abbrev pub Stands : State → ℤ → (ℕ → ℤ) → Type 0
Stands s b v = (c : ℕ) (z : ℤ) → slice_get s.values c ≡ Some (z, pos 1) → v c ≡ z *ℤ b

-- a multiple of d times b
abbrev pub Scaled : ℤ → ℤ → ℤ → Type 0
Scaled d b z = (k : ℤ) × (z ≡ d *ℤ (k *ℤ b))

pub scaled_sum : (d b y z : ℤ) → Scaled d b y → Scaled d b z → Scaled d b (y +ℤ z)
scaled_sum d b y z (k, e) (j, f) = (
  k +ℤ j,
  (let a : (k +ℤ j) *ℤ b ≡ k *ℤ b +ℤ j *ℤ b = times_sum k j b in
      let c : d *ℤ (k *ℤ b +ℤ j *ℤ b) ≡ d *ℤ (k *ℤ b) +ℤ d *ℤ (j *ℤ b) = sum_times d (k *ℤ b) (j *ℤ b) in
      let g : y +ℤ z ≡ d *ℤ (k *ℤ b +ℤ j *ℤ b) = omega (arith, ints) in
      g ∙ ap (λ w. d *ℤ w) (sym a)),
)

-- t is d times q, at the place z * b
scaled-term : (d b t v z : ℤ) → Multiple d t → v ≡ z *ℤ b → Scaled d b (t *ℤ v)
scaled-term d b t v z (q, e) h = (
  q *ℤ z,
  ap (λ w. w *ℤ v) e ∙ ap (λ w. (d *ℤ q) *ℤ w) h ∙ times_times d q (z *ℤ b) ∙ ap (λ w. d *ℤ w) (sym (times_times q z b)),
)

turned-times : (side : Bool) (m l : ℤ) → m *ℤ turned side l ≡ turned side m *ℤ l
turned-times true m l = refl
turned-times false m l = times_neg m l ∙ sym (neg_times m l)

scaled-part : (d b : ℤ) (side : Bool) (m l t v : ℤ) → Multiple d (turned side m +ℤ t) → v ≡ l *ℤ b → Scaled d b ((m *ℤ turned side l) *ℤ b +ℤ t *ℤ v)
scaled-part d b side m l t v h e =
    let s = scaled-term d b (turned side m +ℤ t) v l h e in
    let a : (turned side m +ℤ t) *ℤ v ≡ turned side m *ℤ v +ℤ t *ℤ v = times_sum (turned side m) t v in
    let c : (m *ℤ turned side l) *ℤ b ≡ turned side m *ℤ v =
    ap (λ w. w *ℤ b) (turned-times side m l) ∙ times_times (turned side m) l b ∙ ap (λ w. turned side m *ℤ w) (sym e) in
    let q : (turned side m +ℤ t) *ℤ v ≡ (m *ℤ turned side l) *ℤ b +ℤ t *ℤ v = omega (arith, ints) in
    subst (Scaled d b) q s

module _ (s : State) (x n : ℕ) (b : ℤ) (v : ℕ → ℤ) (at : Stands s b v) where
  own-term : (row : List (ℕ × ℤ)) (t : ℕ × ℤ) (l : ℤ) (c : Bool) → (c ≡ false → Scaled (pos (suc n)) b (t.1 *ℤ v t.0))
      → ((c ≡ true) ⊎ (c ≡ false)) → Scaled (pos (suc n)) b (l +ℤ rest_in x v row) → Scaled (pos (suc n)) b
      (l +ℤ cond c (rest_in x v row) (t.1 *ℤ v t.0 +ℤ rest_in x v row))
  own-term row t l true f w h = h
  own-term row t l false f w h =
      let q : (l +ℤ rest_in x v row) +ℤ t.1 *ℤ v t.0 ≡ l +ℤ (t.1 *ℤ v t.0 +ℤ rest_in x v row) = omega (arith, ints) in
      subst (Scaled (pos (suc n)) b) q (scaled_sum (pos (suc n)) b (l +ℤ rest_in x v row) (t.1 *ℤ v t.0) h (f refl))

  pub right_side : (row : List (ℕ × ℤ)) (parts : List Part) → AreParts s x (pos (suc n)) row parts → Owned x (pos (suc n)) row → Stood s x row
      → Scaled (pos (suc n)) b (limits (multipliers_of parts) (bounds_of parts) *ℤ b +ℤ rest_in x v row)
  right_side [] parts a f g =
      let P : List Part → Type 0 = λ ps. Scaled (pos (suc n)) b (limits (multipliers_of ps) (bounds_of ps) *ℤ b +ℤ pos 0) in
      subst P (sym a) (pos 0, (let y : pos 0 *ℤ b ≡ pos 0 = zero-*ℤ b in ap (λ w. w +ℤ pos 0) y ∙ sym (ap (λ w. pos (suc n) *ℤ w) y ∙ *ℤ-zero (pos (suc n)))))
  right_side (t ∷ row) parts (inl (h, a)) f g =
      own-term row t (limits (multipliers_of parts) (bounds_of parts) *ℤ b) (t.0 == x) (λ e. term (other_if t.0 x e)) (by_test (t.0 == x))
      (right_side row parts a (λ k u w. f (suc k) u w) (λ k u w. g (suc k) u w)) where
        term : t.0 ≢ x → Scaled (pos (suc n)) b (t.1 *ℤ v t.0)
        term d =
            let w = g 0 t refl d in
            scaled-term (pos (suc n)) b t.1 (v t.0) w.1.0 (none-multiple s x n t (f 0 t refl) (g 0 t refl) h) (at t.0 w.1.0 w.3)
  right_side (t ∷ row) parts (inr (p, rest, e, i, a)) f g =
      let P : List Part → Type 0 = λ ps. Scaled (pos (suc n)) b (limits (multipliers_of ps) (bounds_of ps) *ℤ b +ℤ rest_in x v (t ∷ row)) in
      let r = right_side row rest a (λ k u w. f (suc k) u w) (λ k u w. g (suc k) u w) in
      let q = scaled-part (pos (suc n)) b p.upper p.multiplier p.limit t.1 (v t.0) (part-multiple s x n t p i) (at t.0 p.limit i.place) in
      let l : (p.multiplier *ℤ turned p.upper p.limit +ℤ limits (multipliers_of rest) (bounds_of rest)) *ℤ b
      ≡ (p.multiplier *ℤ turned p.upper p.limit) *ℤ b +ℤ limits (multipliers_of rest) (bounds_of rest) *ℤ b
      = times_sum (p.multiplier *ℤ turned p.upper p.limit) (limits (multipliers_of rest) (bounds_of rest)) b in
      let y : (limits (multipliers_of rest) (bounds_of rest) *ℤ b +ℤ rest_in x v row) +ℤ ((p.multiplier *ℤ turned p.upper p.limit) *ℤ b +ℤ t.1 *ℤ v t.0)
      ≡ (p.multiplier *ℤ turned p.upper p.limit +ℤ limits (multipliers_of rest) (bounds_of rest)) *ℤ b +ℤ
      (t.1 *ℤ v t.0 +ℤ rest_in x v row) = omega (arith, ints) in
      subst P (sym e) (subst (λ (w : Bool). Scaled (pos (suc n)) b ((p.multiplier *ℤ turned p.upper p.limit +ℤ limits (multipliers_of rest)
      (bounds_of rest)) *ℤ b
      +ℤ cond w (rest_in x v row) (t.1 *ℤ v t.0 +ℤ rest_in x v row))) (sym (is_other t.0 x i.other))
      (subst (Scaled (pos (suc n)) b) y (scaled_sum (pos (suc n)) b (limits (multipliers_of rest) (bounds_of rest) *ℤ b +ℤ rest_in x v row)
      ((p.multiplier *ℤ turned p.upper p.limit) *ℤ b +ℤ t.1 *ℤ v t.0) r q)))
