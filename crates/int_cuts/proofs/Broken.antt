-- The values of a tableau break the cut of a row.
use Prim.Native.Nat.{◌∣◌}
use Rattle.std.specs.Prelude.{ℕ, zero, suc, ◌≡◌, ◌≢◌, ◌⊎◌, ◌==◌, ◌<◌, ◌*◌, Bool, true, false, cond, List, [], ◌∷◌, All, Some, slice_get, unsigned_abs}
use Rattle.std.specs.Int.{int_div_euclid, int_rem_euclid}
use Rattle.std.proofs.Common.{sym, ◌∙◌, ap, subst, arith, refl, inl, inr}
use Rattle.std.proofs.lemmas.Int.{ints, unsigned_abs-mul}
use Rattle.std.proofs.lemmas.Nat.Gcd.{dvd_refl}
use Rattle.std.proofs.Math.Nat.{dvd-mul_left}
use Rattle.std.proofs.lemmas.Option.{slice_get_within, get_or_from_slice_get}
use lib.IntN.{ℤ, pos, negsuc, ◌+ℤ◌, ◌*ℤ◌, neg_ℤ, *ℤ-zero, zero-*ℤ, *ℤ_comm}
use lib.Signed.{◌≤ℤ◌, ◌<ℤ◌}
use Rattle.kind_num.proofs.Ring.{times_le, times_sum, sum_times, neg_times, times_neg, times_times}
use Rattle.kind_num.proofs.Quotients.{division_is}
use Rattle.proof_steps.specs.Meaning.{sum_of}
use Rattle.proof_steps.specs.Rows.{entry, combined}
use Rattle.int_simplex.specs.State.{Standing, State}
use Rattle.int_simplex.specs.Given.{IsWithin}
use Rattle.int_simplex.specs.Farkas.{turned, weight, limits}
use Rattle.int_simplex.specs.OnRows.{AreOnRows}
use Rattle.int_simplex.specs.Points.{Point, HasValues, IsFraction}
use Rattle.int_simplex.specs.Sound.{IsSound, IsRowIn}
use Rattle.int_simplex.specs.Valued.{rest_in}
use Rattle.int_simplex.proofs.Algebra.{same_multiple}
use Rattle.int_simplex.proofs.First.{times-one}
use Rattle.int_simplex.proofs.Fitting.{row-below}
use Rattle.int_simplex.proofs.NoPoint.{summed, summed_same, row_sum, RowsBelow, BoundsBelow, RowsMet, combined-sum, lefts, weight-sum, rows-met}
use Rattle.int_simplex.proofs.Once.{times_lt}
use Rattle.int_simplex.proofs.Sparse.{by_test, same_if}
use Rattle.int_cuts.specs.Splits.{IsBroken}
use Rattle.int_cuts.specs.Parts.{AreParts}
use Rattle.int_cuts.specs.declared.parts.Part.{Part}
use Rattle.int_cuts.proofs.Remainders.{Multiple, rest_multiple}
use Rattle.int_cuts.proofs.Multiples.{bounds_of, multipliers_of, Owned, Stood, Stands, right_side}

rows-below : (n : ℕ) (rows : List (List (ℕ × ℤ))) → All (IsWithin n) rows → RowsBelow n rows
rows-below n [] a = tt
rows-below n (r ∷ rows) a = (row-below n r (a 0 r (omega arith)), rows-below n rows (λ k d h. a (suc k) d (omega arith)))

bounds-below : (n : ℕ) (bs : List Standing) → All (λ (b : Standing). b.column < n) bs → BoundsBelow n bs
bounds-below n [] a = tt
bounds-below n (b ∷ bs) a = (a 0 b (omega arith), bounds-below n bs (λ k d h. a (suc k) d (omega arith)))

summed-both : (e f v : ℕ → ℤ) (n : ℕ) → summed (λ c. e c +ℤ f c) v n ≡ summed e v n +ℤ summed f v n
summed-both e f v zero = refl
summed-both e f v (suc n) =
    let i = summed-both e f v n in
    let a : (e n +ℤ f n) *ℤ v n ≡ e n *ℤ v n +ℤ f n *ℤ v n = times_sum (e n) (f n) (v n) in omega (arith, ints)

summed-times : (d : ℤ) (e v : ℕ → ℤ) (n : ℕ) → summed (λ c. d *ℤ e c) v n ≡ d *ℤ summed e v n
summed-times d e v zero = sym (*ℤ-zero d)
summed-times d e v (suc n) =
    let i = summed-times d e v n in
    let a : (d *ℤ e n) *ℤ v n ≡ d *ℤ (e n *ℤ v n) = times_times d (e n) (v n) in
    let b : d *ℤ (e n *ℤ v n +ℤ summed e v n) ≡ d *ℤ (e n *ℤ v n) +ℤ d *ℤ summed e v n = sum_times d (e n *ℤ v n) (summed e v n) in
    omega (arith, ints)

turned-times : (side : Bool) (m l : ℤ) → turned side m *ℤ l ≡ m *ℤ turned side l
turned-times true m l = refl
turned-times false m l = neg_times m l ∙ sym (times_neg m l)

-- at values where each bound's column stands at it, the left sides are the right ones
left-sides : (ms : List ℤ) (bs : List Standing) (v : ℕ → ℤ) (b : ℤ) → All (λ (y : Standing). v y.column ≡ y.limit *ℤ b) bs → lefts ms bs v ≡ limits ms bs *ℤ b
left-sides [] bs v b a = sym (zero-*ℤ b)
left-sides (m ∷ ms) [] v b a = sym (zero-*ℤ b)
left-sides (m ∷ ms) (y ∷ bs) v b a =
    let i = left-sides ms bs v b (λ k d h. a (suc k) d (omega arith)) in
    let p : v y.column ≡ y.limit *ℤ b = a 0 y (omega arith) in
    let q : turned y.upper m *ℤ v y.column ≡ (m *ℤ turned y.upper y.limit) *ℤ b
    = ap (λ z. turned y.upper m *ℤ z) p ∙ sym (times_times (turned y.upper m) y.limit b) ∙ ap (λ z. z *ℤ b) (turned-times y.upper m y.limit) in
    let r : (m *ℤ turned y.upper y.limit +ℤ limits ms bs) *ℤ b ≡ (m *ℤ turned y.upper y.limit) *ℤ b +ℤ limits ms bs *ℤ b
    = times_sum (m *ℤ turned y.upper y.limit) (limits ms bs) b in
    omega (arith, ints)

plus-cond : (b : Bool) (t e r y : ℤ) → b ≡ true → (cond b (t +ℤ e) e) *ℤ y ≡ t *ℤ y +ℤ e *ℤ y
plus-cond b t e r y h = ap (λ w. cond w (t +ℤ e) e *ℤ y) h ∙ times_sum t e y

-- the sum of a row is that of the columns beside x, and x
split-sum : (x : ℕ) (v : ℕ → ℤ) (row : List (ℕ × ℤ)) → sum_of v row ≡ rest_in x v row +ℤ entry row x *ℤ v x
split-sum x v [] = let a : pos 0 *ℤ v x ≡ pos 0 = zero-*ℤ (v x) in omega (arith, ints)
split-sum x v ((k, t) ∷ row) = by (split-sum x v row) (by_test (k == x)) where
  by : sum_of v row ≡ rest_in x v row +ℤ entry row x *ℤ v x → ((k == x) ≡ true) ⊎ ((k == x) ≡ false)
      → t *ℤ v k +ℤ sum_of v row ≡ cond (k == x) (rest_in x v row) (t *ℤ v k +ℤ rest_in x v row) +ℤ cond (k == x) (t +ℤ entry row x) (entry row x) *ℤ v x
  by i (inl h) =
      let a : cond (k == x) (rest_in x v row) (t *ℤ v k +ℤ rest_in x v row) ≡ rest_in x v row
      = ap (λ b. cond b (rest_in x v row) (t *ℤ v k +ℤ rest_in x v row)) h in
      let c = plus-cond (k == x) t (entry row x) (pos 0) (v x) h in
      let q : t *ℤ v k ≡ t *ℤ v x = ap (λ y. t *ℤ v y) (same_if k x h) in
      omega (arith, ints)
  by i (inr h) =
      let a : cond (k == x) (rest_in x v row) (t *ℤ v k +ℤ rest_in x v row) ≡ t *ℤ v k +ℤ rest_in x v row
      = ap (λ b. cond b (rest_in x v row) (t *ℤ v k +ℤ rest_in x v row)) h in
      let c : cond (k == x) (t +ℤ entry row x) (entry row x) *ℤ v x ≡ entry row x *ℤ v x
      = ap (λ b. cond b (t +ℤ entry row x) (entry row x) *ℤ v x) h in
      omega (arith, ints)

-- a fraction in lowest terms that is a whole number has the divisor 1
one-divisor : (k w0 w1 : ℤ) → IsFraction (w0, w1) → w0 ≡ k *ℤ w1 → w1 ≡ pos 1
one-divisor k w0 w1 f e =
    let a : unsigned_abs w0 ≡ unsigned_abs k * unsigned_abs w1 = ap unsigned_abs e ∙ unsigned_abs-mul k w1 in
    let P : ℕ → Type 0 = λ n. unsigned_abs w1 ∣ n in
    let d = f.lowest (unsigned_abs w1) (subst P (sym a) (dvd-mul_left (unsigned_abs w1) (unsigned_abs k))) (dvd_refl (unsigned_abs w1)) in
    positive-one w1 f.positive d where
      positive-one : (z : ℤ) → pos 0 <ℤ z → unsigned_abs z ≡ 1 → z ≡ pos 1
      positive-one (pos n) p d = ap pos d
      positive-one (negsuc n) p d = absurd (omega (arith, ints))

not-zero : (b : ℤ) → pos 0 <ℤ b → b ≢ pos 0
not-zero b h e = absurd (omega (arith, ints))

test-order : (a b : ℤ) → (a <ℤ b) ⊎ (b ≤ℤ a)
test-order a b = grind (arith, ints)

-- what is less times d is less
less-times : (n : ℕ) (a b : ℤ) → (pos (suc n) *ℤ a) <ℤ (pos (suc n) *ℤ b) → a <ℤ b
less-times n a b h = elim (test-order a b) [
  | inl l ↦ l
  | inr g ↦ let m : (pos (suc n) *ℤ b) ≤ℤ (pos (suc n) *ℤ a) = times_le (suc n) b a g in absurd (omega (arith, ints))
]

module _ (s : State) (x n : ℕ) (row : List (ℕ × ℤ)) (parts : List Part) (sound : IsSound s) (on_rows : AreOnRows s) (is_row : IsRowIn s.given s.basis x row)
    (within : IsWithin s.columns row) (own : entry row x ≡ neg_ℤ (pos (suc n))) (broken : IsBroken s.values x) (are : AreParts s x (pos (suc n)) row parts)
    (owned : Owned x (pos (suc n)) row) (stood : Stood s x row) (p : Point) (h : HasValues p s.values) where
  stands : Stands s p.bottom p.tops
  stands c z e = sym (times-one (p.tops c)) ∙ h.same c (z, pos 1) e

  met : RowsMet p.tops s.given
  met = rows-met p.tops s.given (on_rows p h)

  row-zero : sum_of p.tops row ≡ pos 0
  row-zero =
      sym (row_sum row p.tops s.columns (row-below s.columns row within))
      ∙ summed_same (entry row) (combined is_row.multipliers s.given) p.tops is_row.entries s.columns
      ∙ combined-sum is_row.multipliers s.given p.tops s.columns (rows-below s.columns s.given sound.given.in_range) met

  -- the right side is no multiple of the divisor
  right-broken : Multiple (pos (suc n)) (limits (multipliers_of parts) (bounds_of parts)) → ⊥
  right-broken (q, e) =
      let l = limits (multipliers_of parts) (bounds_of parts) in
      let r = right_side s x n p.bottom p.tops stands row parts are owned stood in
      let a = split-sum x p.tops row in
      let b = row-zero in
      let c : entry row x *ℤ p.tops x ≡ neg_ℤ (pos (suc n) *ℤ p.tops x) = ap (λ z. z *ℤ p.tops x) own ∙ neg_times (pos (suc n)) (p.tops x) in
      let o = r.1 in
      let g : limits (multipliers_of parts) (bounds_of parts) *ℤ p.bottom ≡ pos (suc n) *ℤ (q *ℤ p.bottom) = ap (λ z. z *ℤ p.bottom) e
      ∙ times_times (pos (suc n)) q p.bottom in
      let m : pos (suc n) *ℤ (q *ℤ p.bottom +ℤ p.tops x) ≡ pos (suc n) *ℤ (q *ℤ p.bottom) +ℤ pos (suc n) *ℤ p.tops x = sum_times
      (pos (suc n)) (q *ℤ p.bottom) (p.tops x) in
      let w : q *ℤ p.bottom +ℤ p.tops x ≡ r.0 *ℤ p.bottom
      = same_multiple (pos (suc n)) (q *ℤ p.bottom +ℤ p.tops x) (r.0 *ℤ p.bottom) (λ z. absurd (omega (arith, ints))) (omega (arith, ints)) in
      let u : (r.0 +ℤ neg_ℤ q) *ℤ p.bottom ≡ r.0 *ℤ p.bottom +ℤ neg_ℤ q *ℤ p.bottom = times_sum r.0 (neg_ℤ q) p.bottom in
      let t : neg_ℤ q *ℤ p.bottom ≡ neg_ℤ (q *ℤ p.bottom) = neg_times q p.bottom in
      let y : p.tops x ≡ (r.0 +ℤ neg_ℤ q) *ℤ p.bottom = omega (arith, ints) in
      let v = broken.0 in
      let i : p.bottom *ℤ broken.0.0 ≡ p.bottom *ℤ ((r.0 +ℤ neg_ℤ q) *ℤ broken.0.1) =
      *ℤ_comm p.bottom broken.0.0 ∙ sym (h.same x broken.0 broken.1) ∙ ap (λ z. z *ℤ broken.0.1) (y ∙ *ℤ_comm (r.0 +ℤ neg_ℤ q) p.bottom)
      ∙ times_times p.bottom (r.0 +ℤ neg_ℤ q) broken.0.1 in
      let k : broken.0.0 ≡ (r.0 +ℤ neg_ℤ q) *ℤ broken.0.1 = same_multiple p.bottom broken.0.0 ((r.0 +ℤ neg_ℤ q) *ℤ broken.0.1)
      (not-zero p.bottom h.positive) i in
      let P : ℤ × ℤ → Type 0 = λ f. IsFraction f in
      let f = subst P (get_or_from_slice_get s.values x broken.0 broken.0 broken.1)
      (sound.fractions x broken.0 (slice_get_within s.values x broken.0 broken.1)) in
      broken.2 (one-divisor (r.0 +ℤ neg_ℤ q) broken.0.0 broken.0.1 f k)

  -- the divisor times the sum of the terms is the right side
  pub terms-sum : (rows : List ℤ) (terms : List (ℕ × ℤ)) → IsWithin s.columns terms → All (λ (b : Standing). b.column < s.columns) (bounds_of parts)
      → All (λ (b : Standing). slice_get s.values b.column ≡ Some (b.limit, pos 1)) (bounds_of parts)
      → ((c : ℕ) → weight (multipliers_of parts) (bounds_of parts) c +ℤ combined rows s.given c ≡ pos (suc n) *ℤ entry terms c)
      → pos (suc n) *ℤ sum_of p.tops terms ≡ limits (multipliers_of parts) (bounds_of parts) *ℤ p.bottom
  terms-sum rows terms wt wb at sums =
      let a = row_sum terms p.tops s.columns (row-below s.columns terms wt) in
      let b = summed-times (pos (suc n)) (entry terms) p.tops s.columns in
      let c = summed_same (λ c. weight (multipliers_of parts) (bounds_of parts) c +ℤ combined rows s.given c)
      (λ c. pos (suc n) *ℤ entry terms c) p.tops sums s.columns in
      let d = summed-both (weight (multipliers_of parts) (bounds_of parts)) (combined rows s.given) p.tops s.columns in
      let e = weight-sum (multipliers_of parts) (bounds_of parts) p.tops s.columns (bounds-below s.columns (bounds_of parts) wb) in
      let f = left-sides (multipliers_of parts) (bounds_of parts) p.tops p.bottom (λ k y l. stands _ _ (at k y l)) in
      let g = combined-sum rows s.given p.tops s.columns (rows-below s.columns s.given sound.given.in_range) met in
      let i : pos (suc n) *ℤ summed (entry terms) p.tops s.columns ≡ pos (suc n) *ℤ sum_of p.tops terms = ap (λ z. pos (suc n) *ℤ z) a in
      omega (arith, ints)

  pub breaks : (terms : List (ℕ × ℤ)) → pos (suc n) *ℤ sum_of p.tops terms ≡ limits (multipliers_of parts) (bounds_of parts) *ℤ p.bottom
      → (int_div_euclid (limits (multipliers_of parts) (bounds_of parts)) (pos (suc n)) *ℤ p.bottom) <ℤ sum_of p.tops terms
  breaks terms e =
      let d = division_is (limits (multipliers_of parts) (bounds_of parts)) (pos (suc n)) (λ z. absurd (omega (arith, ints))) in
      let w : pos (suc n) *ℤ int_div_euclid (limits (multipliers_of parts) (bounds_of parts)) (pos (suc n))
      +ℤ int_rem_euclid (limits (multipliers_of parts) (bounds_of parts)) (pos (suc n)) ≡ limits (multipliers_of parts) (bounds_of parts) = d.whole in
      let l : pos 0 ≤ℤ int_rem_euclid (limits (multipliers_of parts) (bounds_of parts)) (pos (suc n)) = d.low in
      let r : pos 0 <ℤ int_rem_euclid (limits (multipliers_of parts) (bounds_of parts)) (pos (suc n))
      = above (int_rem_euclid (limits (multipliers_of parts) (bounds_of parts)) (pos (suc n))) l
      (λ z. right-broken (rest_multiple n (limits (multipliers_of parts) (bounds_of parts)) z)) in
      let t = times_lt p.bottom (pos (suc n) *ℤ int_div_euclid (limits (multipliers_of parts) (bounds_of parts)) (pos (suc n)))
      (limits (multipliers_of parts) (bounds_of parts)) h.positive (omega (arith, ints)) in
      let f : p.bottom *ℤ (pos (suc n) *ℤ int_div_euclid (limits (multipliers_of parts) (bounds_of parts)) (pos (suc n)))
      ≡ pos (suc n) *ℤ (int_div_euclid (limits (multipliers_of parts) (bounds_of parts)) (pos (suc n)) *ℤ p.bottom)
      = *ℤ_comm p.bottom (pos (suc n) *ℤ int_div_euclid (limits (multipliers_of parts) (bounds_of parts)) (pos (suc n)))
      ∙ times_times (pos (suc n)) (int_div_euclid (limits (multipliers_of parts) (bounds_of parts)) (pos (suc n))) p.bottom in
      let g : p.bottom *ℤ limits (multipliers_of parts) (bounds_of parts) ≡ limits (multipliers_of parts) (bounds_of parts) *ℤ p.bottom
      = *ℤ_comm p.bottom (limits (multipliers_of parts) (bounds_of parts)) in
      less-times n (int_div_euclid (limits (multipliers_of parts) (bounds_of parts)) (pos (suc n)) *ℤ p.bottom) (sum_of p.tops terms)
      (omega (arith, ints)) where
        above : (r : ℤ) → pos 0 ≤ℤ r → r ≢ pos 0 → pos 0 <ℤ r
        above (pos zero) l n = absurd (n refl)
        above (pos (suc k)) l n = omega (arith, ints)
        above (negsuc k) l n = absurd (omega (arith, ints))
