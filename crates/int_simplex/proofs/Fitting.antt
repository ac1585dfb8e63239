-- Values by which no column of the basis misses a bound meet all rows and bounds.
use Rattle.std.specs.Prelude.{ℕ, zero, suc, ◌≡◌, ◌≢◌, ◌⊎◌, ◌==◌, ◌<◌, ◌≤◌, Bool, true, false, cond, List, [], ◌∷◌, length, map, All, Contains, Option, Some, None, slice_get}
use Rattle.std.specs.Int.{int_max, int_min}
use Rattle.std.proofs.Common.{sym, ◌∙◌, ap, subst, arith, refl, inl, inr, get_or}
use Rattle.std.proofs.lemmas.Int.{ints}
use Rattle.std.proofs.lemmas.Option.{slice_get-get_or, slice_get_within, get_or_from_slice_get}
use lib.IntN.{ℤ, pos, negsuc, ◌+ℤ◌, ◌-ℤ◌, ◌*ℤ◌, neg_ℤ, *ℤ-zero, zero-*ℤ, *ℤ_comm}
use lib.Signed.{◌≤ℤ◌, ◌<ℤ◌}
use Rattle.kind_num.proofs.Ring.{times_le, times_sum, sum_times, neg_times, times_times}
use Rattle.proof_steps.specs.Meaning.{sum_of}
use Rattle.proof_steps.specs.Rows.{entry, rest_below}
use Rattle.proof_steps.specs.Pivots.{Position, Pivots, IsPast, raised, lowered, bound_on}
use Rattle.int_simplex.specs.State.{Standing, plain, is_in}
use Rattle.int_simplex.specs.Given.{IsWithin}
use Rattle.int_simplex.specs.Inner.{IsCombination, IsRowAt}
use Rattle.int_simplex.specs.Points.{IsFraction, Point, IsInside, Fit}
use Rattle.int_simplex.specs.Farkas.{turned}
use Rattle.int_simplex.specs.Valued.{place_at}
use Rattle.int_simplex.specs.Leads.{LeadsTo}
use Rattle.int_simplex.specs.Running.{IsKept, IsMove, AreTables, at}
use Rattle.int_simplex.specs.declared.moving.Move.TheVariants as m
use Rattle.int_simplex.proofs.Algebra.{product_zero, difference_zero, difference_swapped}
use Rattle.int_simplex.proofs.Apart.{apart}
use Rattle.int_simplex.proofs.Asserts.{tightest_all}
use Rattle.int_simplex.proofs.Checks.{stands_at}
use Rattle.int_simplex.proofs.Combos.{crossed-combination}
use Rattle.int_simplex.proofs.Ends.{still_in}
use Rattle.int_simplex.proofs.First.{row_combination, times-one}
use Rattle.int_simplex.proofs.Kept.{values_fractions}
use Rattle.int_simplex.proofs.Moves.{giving, past_same}
use Rattle.int_simplex.proofs.NoPoint.{summed, summed_same, summed_zero, row_sum, RowBelow}
use Rattle.int_simplex.proofs.Once.{times_lt}
use Rattle.int_simplex.proofs.Places.{same_some, listed_at, at_listed}
use Rattle.int_simplex.proofs.Sparse.{by_test, same_if, other_if, is_other}
use Rattle.int_simplex.proofs.Starts.{in_yes, in_no}
use Rattle.int_simplex.proofs.Tables.{bounds_order}
use Rattle.int_simplex.proofs.Turned.{there}

-- the product of the divisors
abbrev whole : List (ℤ × ℤ) → ℤ
whole [] = pos 1
whole (v ∷ values) = v.1 *ℤ whole values

-- the upper numbers over that product
abbrev tops : List (ℤ × ℤ) → ℕ → ℤ
tops [] c = pos 0
tops (v ∷ values) zero = v.0 *ℤ whole values
tops (v ∷ values) (suc c) = v.1 *ℤ tops values c

whole-positive : (values : List (ℤ × ℤ)) → All IsFraction values → pos 0 <ℤ whole values
whole-positive [] a = omega (arith, ints)
whole-positive (v ∷ values) a =
    let h = whole-positive values (λ k d l. a (suc k) d (omega arith)) in
    let p : pos 0 <ℤ v.1 = (a 0 v (omega arith)).positive in
    let t : (v.1 *ℤ pos 0) <ℤ (v.1 *ℤ whole values) = times_lt v.1 (pos 0) (whole values) p h in
    let z : v.1 *ℤ pos 0 ≡ pos 0 = *ℤ-zero v.1 in
    omega (arith, ints)

swap-first : (a b c : ℤ) → a *ℤ (b *ℤ c) ≡ b *ℤ (a *ℤ c)
swap-first a b c = sym (times_times a b c) ∙ ap (λ z. z *ℤ c) (*ℤ_comm a b) ∙ times_times b a c

same-value : (values : List (ℤ × ℤ)) (c : ℕ) (v : ℤ × ℤ) → slice_get values c ≡ Some v → tops values c *ℤ v.1 ≡ v.0 *ℤ whole values
same-value [] c v e = absurd cc
same-value (u ∷ values) zero v e =
    let q : u ≡ v = of-some u v e in
    let P : ℤ × ℤ → Type 0 = λ w. (u.0 *ℤ whole values) *ℤ w.1 ≡ w.0 *ℤ (u.1 *ℤ whole values) in
    subst P q (times_times u.0 (whole values) u.1 ∙ ap (λ z. u.0 *ℤ z) (*ℤ_comm (whole values) u.1)) where
      of-some : (u v : ℤ × ℤ) → Some u ≡ Some v → u ≡ v
      of-some u v e = cc
same-value (u ∷ values) (suc c) v e =
    times_times u.1 (tops values c) v.1 ∙ ap (λ z. u.1 *ℤ z) (same-value values c v e) ∙ swap-first u.1 v.0 (whole values)

-- the sum of all columns by that of the others
split-off : (e p t : ℕ → ℤ) (b : ℤ) (x n : ℕ) → n ≤ x → ((c : ℕ) → c < n → c ≢ x → e c *ℤ t c ≡ (e c *ℤ p c) *ℤ b)
    → summed e t n ≡ rest_below e p x n *ℤ b
split-off e p t b x zero h f = sym (zero-*ℤ b)
split-off e p t b x (suc n) h f =
    let r = split-off e p t b x n (omega arith) (λ c l d. f c (omega arith) d) in
    let d : n ≢ x = λ q. absurd (omega arith) in
    let g = f n (omega arith) d in
    let w : (e n *ℤ p n +ℤ rest_below e p x n) *ℤ b ≡ (e n *ℤ p n) *ℤ b +ℤ rest_below e p x n *ℤ b = times_sum (e n *ℤ p n) (rest_below e p x n) b in
    let y : (e n *ℤ t n) +ℤ summed e t n ≡ (e n *ℤ p n +ℤ rest_below e p x n) *ℤ b = omega (arith, ints) in
    y ∙ sym (ap (λ s. cond s (rest_below e p x n) (e n *ℤ p n +ℤ rest_below e p x n) *ℤ b) (is_other n x d))

pub split-on : (e p t : ℕ → ℤ) (b : ℤ) (x n : ℕ) → x < n → ((c : ℕ) → c < n → c ≢ x → e c *ℤ t c ≡ (e c *ℤ p c) *ℤ b)
    → summed e t n ≡ rest_below e p x n *ℤ b +ℤ e x *ℤ t x
split-on e p t b x zero h f = absurd (omega arith)
split-on e p t b x (suc n) h f = elim (by_test (n == x)) [
  | inl s ↦
      let q : n ≡ x = same_if n x s in
      let r = split-off e p t b x n (omega arith) (λ c l d. f c (omega arith) d) in
      let o : e n *ℤ t n ≡ e x *ℤ t x = ap (λ k. e k *ℤ t k) q in
      let y : (e n *ℤ t n) +ℤ summed e t n ≡ rest_below e p x n *ℤ b +ℤ e x *ℤ t x = omega (arith, ints) in
      y ∙ sym (ap (λ v. cond v (rest_below e p x n) (e n *ℤ p n +ℤ rest_below e p x n) *ℤ b +ℤ e x *ℤ t x) s)
  | inr s ↦
      let d : n ≢ x = other_if n x s in
      let r = split-on e p t b x n (omega arith) (λ c l k. f c (omega arith) k) in
      let g = f n (omega arith) d in
      let w : (e n *ℤ p n +ℤ rest_below e p x n) *ℤ b ≡ (e n *ℤ p n) *ℤ b +ℤ rest_below e p x n *ℤ b = times_sum (e n *ℤ p n) (rest_below e p x n) b in
      let y : (e n *ℤ t n) +ℤ summed e t n ≡ (e n *ℤ p n +ℤ rest_below e p x n) *ℤ b +ℤ e x *ℤ t x = omega (arith, ints) in
      y ∙ sym (ap (λ v. cond v (rest_below e p x n) (e n *ℤ p n +ℤ rest_below e p x n) *ℤ b +ℤ e x *ℤ t x) s)
]

-- what a value is over its own divisor it is over that of the point
to-zero : (rest own b t v w : ℤ) → w ≢ pos 0 → t *ℤ w ≡ v *ℤ b → (rest *ℤ w) +ℤ (own *ℤ v) ≡ pos 0 → rest *ℤ b +ℤ own *ℤ t ≡ pos 0
to-zero rest own b t v w n e q =
    let s1 : w *ℤ (rest *ℤ b +ℤ own *ℤ t) ≡ w *ℤ (rest *ℤ b) +ℤ w *ℤ (own *ℤ t) = sum_times w (rest *ℤ b) (own *ℤ t) in
    let s2 : w *ℤ (rest *ℤ b) ≡ (rest *ℤ w) *ℤ b = swap-first w rest b ∙ sym (times_times rest w b) in
    let s3 : w *ℤ (own *ℤ t) ≡ (own *ℤ v) *ℤ b = swap-first w own t ∙ ap (λ z. own *ℤ z) (*ℤ_comm w t ∙ e) ∙ sym (times_times own v b) in
    let s4 : (rest *ℤ w +ℤ own *ℤ v) *ℤ b ≡ (rest *ℤ w) *ℤ b +ℤ (own *ℤ v) *ℤ b = times_sum (rest *ℤ w) (own *ℤ v) b in
    let s5 : (rest *ℤ w +ℤ own *ℤ v) *ℤ b ≡ pos 0 = ap (λ z. z *ℤ b) q ∙ zero-*ℤ b in
    product_zero w (rest *ℤ b +ℤ own *ℤ t) n (omega (arith, ints))

pub crossed-sum : (p q : ℤ) (e f v : ℕ → ℤ) (n : ℕ) → summed (λ c. p *ℤ e c -ℤ q *ℤ f c) v n ≡ p *ℤ summed e v n -ℤ q *ℤ summed f v n
crossed-sum p q e f v zero = sym (difference_zero p q)
crossed-sum p q e f v (suc n) =
    let r = crossed-sum p q e f v n in
    let s1 : (p *ℤ e n -ℤ q *ℤ f n) *ℤ v n ≡ (p *ℤ e n) *ℤ v n +ℤ neg_ℤ (q *ℤ f n) *ℤ v n = times_sum (p *ℤ e n) (neg_ℤ (q *ℤ f n)) (v n) in
    let s2 : neg_ℤ (q *ℤ f n) *ℤ v n ≡ neg_ℤ ((q *ℤ f n) *ℤ v n) = neg_times (q *ℤ f n) (v n) in
    let s3 : (p *ℤ e n) *ℤ v n ≡ p *ℤ (e n *ℤ v n) = times_times p (e n) (v n) in
    let s4 : (q *ℤ f n) *ℤ v n ≡ q *ℤ (f n *ℤ v n) = times_times q (f n) (v n) in
    let s5 : p *ℤ (e n *ℤ v n +ℤ summed e v n) ≡ p *ℤ (e n *ℤ v n) +ℤ p *ℤ summed e v n = sum_times p (e n *ℤ v n) (summed e v n) in
    let s6 : q *ℤ (f n *ℤ v n +ℤ summed f v n) ≡ q *ℤ (f n *ℤ v n) +ℤ q *ℤ summed f v n = sum_times q (f n *ℤ v n) (summed f v n) in
    omega (arith, ints)

pub row-below : (n : ℕ) (row : List (ℕ × ℤ)) → IsWithin n row → RowBelow n row
row-below n [] a = tt
row-below n (t ∷ row) a = (a 0 t (omega arith), row-below n row (λ k d h. a (suc k) d (omega arith)))

pub further : (k j : ℕ) → k ≤ j → j ≢ k → suc k ≤ j
further k j h n = by (test k j) where
  test : (k j : ℕ) → (k < j) ⊎ (j ≤ k)
  test k j = grind arith

  by : (k < j) ⊎ (j ≤ k) → suc k ≤ j
  by (inl l) = omega arith
  by (inr l) = absurd (n (omega arith))

no-divisor : (w : ℤ) → pos 0 <ℤ w → w ≢ pos 0
no-divisor w h e = absurd (omega (arith, ints))

pub both-none : (a t p b : ℤ) → a ≡ pos 0 → a *ℤ t ≡ (a *ℤ p) *ℤ b
both-none a t p b e =
    ap (λ z. z *ℤ t) e ∙ zero-*ℤ t ∙ sym (ap (λ z. (z *ℤ p) *ℤ b) e ∙ ap (λ z. z *ℤ b) (zero-*ℤ p) ∙ zero-*ℤ b)

module _ (given : List (List (ℕ × ℤ))) (columns : ℕ) (basis : List ℕ) (rows : List (List (ℕ × ℤ))) (places : List ℤ) (values : List (ℤ × ℤ))
    (kept : IsKept given columns basis rows places values) where
  abbrev point : Point
  point = record { tops = tops values; bottom = whole values }

  positive : pos 0 <ℤ whole values
  positive = whole-positive values (values_fractions given columns basis rows places values kept)

  -- a column outside the basis stands at its place there
  top-outside : (c : ℕ) → c < columns → (Contains basis c → ⊥) → tops values c ≡ place_at places c *ℤ whole values
  top-outside c h n =
      sym (times-one (tops values c)) ∙ same-value values c (place_at places c, pos 1) (stands_at given columns basis rows places values kept c h n)

  in-columns : (k x : ℕ) → slice_get basis k ≡ Some x → x < columns
  in-columns k x e =
      let h = slice_get_within basis k x e in
      let P : ℕ → Type 0 = λ c. c < columns in subst P (get_or_from_slice_get basis k x 0 e) (kept.ready.in_range k 0 h)

  -- each kept row sums to 0
  kept-sum : (k x : ℕ) (r : List (ℕ × ℤ)) → slice_get basis k ≡ Some x → slice_get rows k ≡ Some r → summed (entry r) (tops values) columns ≡ pos 0
  kept-sum k x r ex er =
      let a = kept.ready.are_rows.each k x r ex er in
      let w = kept.are_values.inside k x r ex er in
      let q = w.2.quotient a.has_entry in
      let P : ℕ → Type 0 = λ n. (rest_below (entry r) (place_at places) x n *ℤ w.0.1) +ℤ (entry r x *ℤ w.0.0) ≡ pos 0 in
      split-on (entry r) (place_at places) (tops values) (whole values) x columns (in-columns k x ex) (λ c h d. one a c h d (by_test (is_in basis c)))
      ∙ to-zero (rest_below (entry r) (place_at places) x columns) (entry r x) (whole values) (tops values x) w.0.0 w.0.1
      (no-divisor w.0.1 w.2.fraction.positive)
      (same-value values x w.0 w.1) (subst P kept.width q) where
        one : IsRowAt given basis x (entry r) → (c : ℕ) → c < columns → c ≢ x → ((is_in basis c ≡ true) ⊎ (is_in basis c ≡ false))
            → entry r c *ℤ tops values c ≡ (entry r c *ℤ place_at places c) *ℤ whole values
        one a c h d (inl t) = both-none (entry r c) (tops values c) (place_at places c) (whole values) (a.alone c (in_yes basis c t) d)
        one a c h d (inr t) =
            ap (λ z. entry r c *ℤ z) (top-outside c h (in_no basis c t)) ∙ sym (times_times (entry r c) (place_at places c) (whole values))

  -- and so does each combination, by one column of the basis after the other
  all-sums : (k : ℕ) (e : ℕ → ℤ) → IsCombination given e → ((j b : ℕ) → k ≤ j → slice_get basis j ≡ Some b → e b ≡ pos 0) → k ≤ length basis
      → summed e (tops values) columns ≡ pos 0
  all-sums zero e ce h l =
      summed_same e (λ c. pos 0) (tops values) (kept.ready.free e ce (λ b i. let j = at_listed basis b i in h j.0 b (omega arith) j.1)) columns
      ∙ summed_zero (tops values) columns
  all-sums (suc k) e ce h l =
      let ex = slice_get-get_or basis k 0 (omega arith) in
      let r = there rows basis [] k (get_or basis k 0) (sym kept.ready.are_rows.count) ex in
      let a = kept.ready.are_rows.each k (get_or basis k 0) r.0 ex r.1 in
      let c = crossed-combination given (entry r.0 (get_or basis k 0)) (e (get_or basis k 0)) e (entry r.0)
      (λ c. entry r.0 (get_or basis k 0) *ℤ e c -ℤ e (get_or basis k 0) *ℤ entry r.0 c) (λ c. refl) ce a.combination in
      let i = all-sums k (λ c. entry r.0 (get_or basis k 0) *ℤ e c -ℤ e (get_or basis k 0) *ℤ entry r.0 c) c
      (λ j b m eb. vanishes k (get_or basis k 0) (entry r.0) e ex a h j b m eb (by_test (b == get_or basis k 0))) (omega arith) in
      let s = crossed-sum (entry r.0 (get_or basis k 0)) (e (get_or basis k 0)) e (entry r.0) (tops values) columns in
      let z : e (get_or basis k 0) *ℤ summed (entry r.0) (tops values) columns ≡ pos 0 =
      ap (λ z. e (get_or basis k 0) *ℤ z) (kept-sum k (get_or basis k 0) r.0 ex r.1) ∙ *ℤ-zero (e (get_or basis k 0)) in
      product_zero (entry r.0 (get_or basis k 0)) (summed e (tops values) columns) a.has_entry (omega (arith, ints)) where
        vanishes : (k x : ℕ) (f e : ℕ → ℤ) → slice_get basis k ≡ Some x → IsRowAt given basis x f →
            ((j b : ℕ) → suc k ≤ j → slice_get basis j ≡ Some b → e b ≡ pos 0)
            → (j b : ℕ) → k ≤ j → slice_get basis j ≡ Some b → ((b == x) ≡ true) ⊎ ((b == x) ≡ false) → f x *ℤ e b -ℤ e x *ℤ f b ≡ pos 0
        vanishes k x f e ex a h j b m eb (inl t) = ap (λ c. f x *ℤ e c -ℤ e x *ℤ f c) (same_if b x t) ∙ difference_swapped (f x) (e x)
        vanishes k x f e ex a h j b m eb (inr t) =
            let n = other_if b x t in
            ap (λ z. f x *ℤ z -ℤ e x *ℤ f b) (h j b (further k j m (λ q. n (same_some b x (sym eb ∙ ap (slice_get basis) q ∙ ex)))) eb)
            ∙ ap (λ z. f x *ℤ pos 0 -ℤ e x *ℤ z) (a.alone b (listed_at basis j b eb) n) ∙ difference_zero (f x) (e x)

  given-sum : (k : ℕ) (d : List (ℕ × ℤ)) → k < length given → sum_of (tops values) (get_or given k d) ≡ pos 0
  given-sum k d h =
      sym (row_sum (get_or given k d) (tops values) columns (row-below columns (get_or given k d) (kept.ready.given_rows.in_range k d h)))
      ∙ all-sums (length basis) (entry (get_or given k d))
      (λ c. sym (row_combination given k (get_or given k d) (apart given columns kept.ready.given_rows) (slice_get-get_or given k d h) c))
      (λ j b l e. let w = slice_get_within basis j b e in absurd (omega arith)) (omega arith)

-- the columns outside the basis are within their bounds
abbrev AreWithin : List Standing → Position → Type 0
AreWithin bounds t =
    (c : ℕ) → (Contains t.basis c → ⊥) → (side : Bool) (z : ℤ) → bound_on side (map plain bounds) c ≡ Some z → IsPast side z (t.places c) (pos 1) → ⊥

not-above : (z w : ℤ) → IsPast true z (lowered (Some z) w) (pos 1) → ⊥
not-above z w h = let m : int_min z w ≤ℤ z = grind (arith, ints) in let e = times-one z in absurd (omega (arith, ints))

not-below : (z w : ℤ) (o : Option ℤ) → ((y : ℤ) → o ≡ Some y → z ≤ℤ y) → IsPast false z (lowered o (raised (Some z) w)) (pos 1) → ⊥
not-below z w None f h = let m : z ≤ℤ int_max z w = grind (arith, ints) in let e = times-one z in absurd (omega (arith, ints))
not-below z w (Some y) f h =
    let k = f y refl in let m : z ≤ℤ int_min y (int_max z w) = grind (arith, ints) in let e = times-one z in absurd (omega (arith, ints))

module _ (given : List (List (ℕ × ℤ))) (columns : ℕ) (bounds : List Standing) (lowers uppers : List (Option (ℤ × ℕ))) (a : AreTables columns bounds lowers uppers) where
  -- as a check begins
  first-within : (s : Position) (q : ℕ → ℤ)
      → ((c : ℕ) → s.places c ≡ lowered (bound_on true (map plain bounds) c) (raised (bound_on false (map plain bounds) c) (q c))) → AreWithin bounds s
  first-within s q ep c n true z e h =
      let P : ℤ → Type 0 = λ x. IsPast true z x (pos 1) in
      not-above z (raised (bound_on false (map plain bounds) c) (q c))
      (subst P (ep c ∙ ap (λ o. lowered o (raised (bound_on false (map plain bounds) c) (q c))) e) h)
  first-within s q ep c n false z e h =
      let P : ℤ → Type 0 = λ x. IsPast false z x (pos 1) in
      not-below z (q c) (bound_on true (map plain bounds) c) (λ y f. bounds_order columns bounds lowers uppers a c z y e f)
      (subst P (ep c ∙ ap (λ o. lowered (bound_on true (map plain bounds) c) (raised o (q c))) e) h)

  -- a limit is within the other one
  limit-within : (u v : Bool) (c : ℕ) (x z : ℤ) → bound_on u (map plain bounds) c ≡ Some x → bound_on v (map plain bounds) c ≡ Some z → IsPast v z x (pos 1) → ⊥
  limit-within true true c x z e f h = let q : z ≡ x = same_some z x (sym f ∙ e) in let o = times-one z in absurd (omega (arith, ints))
  limit-within false false c x z e f h = let q : z ≡ x = same_some z x (sym f ∙ e) in let o = times-one z in absurd (omega (arith, ints))
  limit-within true false c x z e f h = let q = bounds_order columns bounds lowers uppers a c z x f e in let o = times-one z in absurd (omega (arith, ints))
  limit-within false true c x z e f h = let q = bounds_order columns bounds lowers uppers a c x z e f in let o = times-one z in absurd (omega (arith, ints))

  -- a pivot leaves them so
  pivot-within : (s t : Position) → Pivots given columns (map plain bounds) s t → AreWithin bounds s → AreWithin bounds t
  pivot-within s t p w c n side z e h = elim (by_test (c == p.leaving)) [
    | inl i ↦
        let q : c ≡ p.leaving = same_if c p.leaving i in
        let P : ℤ → Type 0 = λ x. IsPast side z x (pos 1) in
        limit-within p.side side c p.limit z (ap (λ k. bound_on p.side (map plain bounds) k) q ∙ p.misses.bounded) e (subst P (ap t.places q ∙ p.left) h)
    | inr i ↦
        let d : c ≢ p.leaving = other_if c p.leaving i in
        let P : ℤ → Type 0 = λ x. IsPast side z x (pos 1) in
        let Q : List ℕ → Type 0 = λ b. Contains b c in
        w c (λ j. n (subst Q (sym p.basis) (still_in p.leaving p.entering c s.basis d j))) side z e (subst P (p.others c d) h)
  ]

  run-within : (n : ℕ) (s t : Position) → LeadsTo given columns (map plain bounds) n s t → AreWithin bounds s → AreWithin bounds t
  run-within zero s t e w = let P : Position → Type 0 = λ u. AreWithin bounds u in subst P e w
  run-within (suc n) s t (u, p, r) w = run-within n u t r (pivot-within s u p w)

inside-or : (p : Point) (side : Bool) (c : ℕ) (z : ℤ) → IsInside p side c z ⊎ IsPast side z (p.tops c) p.bottom
inside-or p true c z = test (p.tops c) (z *ℤ p.bottom) where
  test : (x y : ℤ) → (x ≤ℤ y) ⊎ (y <ℤ x)
  test x y = grind (arith, ints)
inside-or p false c z = test (z *ℤ p.bottom) (p.tops c) where
  test : (x y : ℤ) → (x ≤ℤ y) ⊎ (y <ℤ x)
  test x y = grind (arith, ints)

times-more : (b x y : ℤ) → pos 0 <ℤ b → x ≤ℤ y → (x *ℤ b) ≤ℤ (y *ℤ b)
times-more (negsuc n) x y h l = absurd (omega (arith, ints))
times-more (pos n) x y h l =
    let t = times_le n x y l in let e = *ℤ_comm x (pos n) in let f = *ℤ_comm y (pos n) in omega (arith, ints)

looser : (p : Point) (side : Bool) (c : ℕ) (z l : ℤ) → pos 0 <ℤ p.bottom → turned side z ≤ℤ turned side l → IsInside p side c z → IsInside p side c l
looser p true c z l h o i = let t = times-more p.bottom z l h o in omega (arith, ints)
looser p false c z l h o i = let q : l ≤ℤ z = omega (arith, ints) in let t = times-more p.bottom l z h q in omega (arith, ints)

module _ (given : List (List (ℕ × ℤ))) (columns : ℕ) (bounds : List Standing) (lowers uppers : List (Option (ℤ × ℕ))) (a : AreTables columns bounds lowers uppers)
    (basis : List ℕ) (rows : List (List (ℕ × ℤ))) (places : List ℤ) (values : List (ℤ × ℤ)) (kept : IsKept given columns basis rows places values)
    (within : AreWithin bounds (at basis places)) (ends : IsMove given columns bounds (at basis places) m.Fits) where
  abbrev here : Point
  here = record { tops = tops values; bottom = whole values }

  above-none : pos 0 <ℤ whole values
  above-none = positive given columns basis rows places values kept

  past-outside : (side : Bool) (c : ℕ) (z : ℤ) → c < columns → (Contains basis c → ⊥) → bound_on side (map plain bounds) c ≡ Some z
      → IsPast side z (tops values c) (whole values) → ⊥
  past-outside side c z h n e p =
      let v = same-value values c (place_at places c, pos 1) (stands_at given columns basis rows places values kept c h n) in
      within c n side z e (past_same side z (tops values c) (whole values) (place_at places c) (pos 1) above-none (omega (arith, ints))
      (*ℤ_comm (pos 1) (tops values c) ∙ v ∙ *ℤ_comm (place_at places c) (whole values)) p)

  past-inside : (side : Bool) (c : ℕ) (z : ℤ) → Contains basis c → bound_on side (map plain bounds) c ≡ Some z
      → IsPast side z (tops values c) (whole values) → ⊥
  past-inside side c z i e p =
      let k = at_listed basis c i in
      let r = there rows basis [] k.0 c (sym kept.ready.are_rows.count) k.1 in
      let x = kept.ready.are_rows.each k.0 c r.0 k.1 r.1 in
      let w = kept.are_values.inside k.0 c r.0 k.1 r.1 in
      let v = same-value values c w.0 w.1 in
      let P : ℕ → Type 0 = λ n. (rest_below (entry r.0) (place_at places) c n *ℤ w.0.1) +ℤ (entry r.0 c *ℤ w.0.0) ≡ pos 0 in
      let g = giving given columns basis (place_at places) c (entry r.0) w.0 i x (subst P kept.width (w.2.quotient x.has_entry)) in
      let h = past_same side z (tops values c) (whole values) w.0.0 w.0.1 above-none w.2.fraction.positive
      (*ℤ_comm w.0.1 (tops values c) ∙ v ∙ *ℤ_comm w.0.0 (whole values)) p in
      ends c side z g.multipliers record {
        top = g.top;
        bottom = g.bottom;
        bounded = e;
        value = g.value;
        past = past_same side z w.0.0 w.0.1 g.top g.bottom w.2.fraction.positive g.value.positive
            (*ℤ_comm g.bottom w.0.0 ∙ sym g.same ∙ *ℤ_comm g.top w.0.1) h;
      }

  inside : (side : Bool) (c : ℕ) (z : ℤ) → c < columns → bound_on side (map plain bounds) c ≡ Some z
      → IsInside record { tops = tops values; bottom = whole values } side c z
  inside side c z h e = elim (inside-or record { tops = tops values; bottom = whole values } side c z) [
    | inl i ↦ i
    | inr p ↦ elim (by_test (is_in basis c)) [
      | inl t ↦ absurd (past-inside side c z (in_yes basis c t) e p)
      | inr t ↦ absurd (past-outside side c z h (in_no basis c t) e p)
    ]
  ]

  in-bound : (k : ℕ) (d : Standing) → k < length bounds
      → IsInside record { tops = tops values; bottom = whole values } (get_or bounds k d).upper (get_or bounds k d).column (get_or bounds k d).limit
  in-bound k d h =
      let w = tightest_all bounds (get_or bounds k d) (listed_at bounds k (get_or bounds k d) (slice_get-get_or bounds k d h)) in
      looser record { tops = tops values; bottom = whole values } (get_or bounds k d).upper (get_or bounds k d).column w.0
      (get_or bounds k d).limit above-none w.2
      (inside (get_or bounds k d).upper (get_or bounds k d).column w.0 (a.of_columns k d h) w.1)

  fit : Fit given bounds values
  fit = (
    record { tops = tops values; bottom = whole values },
    record { positive = above-none; same = same-value values },
    record {
      positive = above-none;
      on_rows = given-sum given columns basis rows places values kept;
      in_bounds = in-bound;
    },
  )

-- where no column of the basis misses a bound after a run, the values fit
pub fit_after : (given : List (List (ℕ × ℤ))) (columns : ℕ) (bounds : List Standing) (lowers uppers : List (Option (ℤ × ℕ)))
    → AreTables columns bounds lowers uppers
    → (basis : List ℕ) (rows : List (List (ℕ × ℤ))) (places : List ℤ) (values : List (ℤ × ℤ)) → IsKept given columns basis rows places values
    → (n : ℕ) (s : Position) (q : ℕ → ℤ)
    → ((c : ℕ) → s.places c ≡ lowered (bound_on true (map plain bounds) c) (raised (bound_on false (map plain bounds) c) (q c)))
    → LeadsTo given columns (map plain bounds) n s (at basis places) → IsMove given columns bounds (at basis places) m.Fits → Fit given bounds values
fit_after given columns bounds lowers uppers a basis rows places values kept n s q ep leads ends =
    fit given columns bounds lowers uppers a basis rows places values kept
    (run-within given columns bounds lowers uppers a n s (at basis places) leads (first-within given columns bounds lowers uppers a s q ep)) ends
