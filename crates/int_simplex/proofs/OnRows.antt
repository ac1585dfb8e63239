-- The values of a tableau meet its given rows.
use Rattle.std.specs.Prelude.{ℕ, zero, suc, ◌≡◌, ◌≢◌, ◌⊎◌, ◌==◌, ◌<◌, ◌≤◌, true, false, List, length, Contains, Some, slice_get}
use Rattle.std.proofs.Common.{sym, ◌∙◌, ap, subst, arith, refl, inl, inr, get_or}
use Rattle.std.proofs.lemmas.Int.{ints}
use Rattle.std.proofs.lemmas.Option.{slice_get-get_or, slice_get_within, get_or_from_slice_get}
use lib.IntN.{ℤ, pos, ◌+ℤ◌, ◌-ℤ◌, ◌*ℤ◌, neg_ℤ, *ℤ-zero, *ℤ_comm}
use lib.Signed.{◌<ℤ◌}
use Rattle.kind_num.proofs.Ring.{sum_times, neg_times, times_neg, times_times}
use Rattle.proof_steps.specs.Meaning.{sum_of}
use Rattle.proof_steps.specs.Rows.{entry, combined}
use Rattle.int_simplex.specs.State.{State, places_of, top_of, is_in}
use Rattle.int_simplex.specs.Sound.{IsSound, IsValueOf}
use Rattle.int_simplex.specs.Inner.{IsCombination, IsFree}
use Rattle.int_simplex.specs.Points.{Point, HasValues}
use Rattle.int_simplex.specs.OnRows.{AreOnRows}
use Rattle.int_simplex.proofs.Algebra.{product_zero, difference_zero, difference_swapped}
use Rattle.int_simplex.proofs.Apart.{apart, made_combination}
use Rattle.int_simplex.proofs.Combos.{crossed-combination}
use Rattle.int_simplex.proofs.First.{row_combination, times-one}
use Rattle.int_simplex.proofs.Fitting.{split-on, both-none, crossed-sum, row-below, further}
use Rattle.int_simplex.proofs.NoPoint.{summed, summed_same, summed_zero, row_sum}
use Rattle.int_simplex.proofs.Places.{same_some, listed_at, at_listed}
use Rattle.int_simplex.proofs.Sparse.{by_test, same_if, other_if}
use Rattle.int_simplex.proofs.Starts.{in_yes, in_no}

-- a row of x that sums to 0
record IsMet (given : List (List (ℕ × ℤ))) (columns : ℕ) (basis : List ℕ) (tops : ℕ → ℤ) (x : ℕ) (e : ℕ → ℤ) : Type 0 where
  combination : IsCombination given e
  has_entry : e x ≢ pos 0
  alone : (b : ℕ) → Contains basis b → b ≢ x → e b ≡ pos 0
  sum : summed e tops columns ≡ pos 0

-- what a value is over its own divisor it is over that of the point
value-sum : (top bottom b t v w : ℤ) → w ≢ pos 0 → top *ℤ w ≡ v *ℤ bottom → t *ℤ w ≡ v *ℤ b → top *ℤ b +ℤ neg_ℤ bottom *ℤ t ≡ pos 0
value-sum top bottom b t v w n e h =
    let s1 : w *ℤ (top *ℤ b +ℤ neg_ℤ bottom *ℤ t) ≡ w *ℤ (top *ℤ b) +ℤ w *ℤ (neg_ℤ bottom *ℤ t) = sum_times w (top *ℤ b) (neg_ℤ bottom *ℤ t) in
    let s2 : w *ℤ (top *ℤ b) ≡ (v *ℤ bottom) *ℤ b = sym (times_times w top b) ∙ ap (λ z. z *ℤ b) (*ℤ_comm w top ∙ e) in
    let s3 : w *ℤ (neg_ℤ bottom *ℤ t) ≡ neg_ℤ (w *ℤ (bottom *ℤ t)) = ap (λ z. w *ℤ z) (neg_times bottom t) ∙ times_neg w (bottom *ℤ t) in
    let s4 : w *ℤ (bottom *ℤ t) ≡ bottom *ℤ (v *ℤ b) =
    *ℤ_comm w (bottom *ℤ t) ∙ times_times bottom t w ∙ ap (λ z. bottom *ℤ z) h in
    let s5 : bottom *ℤ (v *ℤ b) ≡ (v *ℤ bottom) *ℤ b = sym (times_times bottom v b) ∙ ap (λ z. z *ℤ b) (*ℤ_comm bottom v) in
    product_zero w (top *ℤ b +ℤ neg_ℤ bottom *ℤ t) n (omega (arith, ints))

no-divisor : (w : ℤ) → pos 0 <ℤ w → w ≢ pos 0
no-divisor w h e = absurd (omega (arith, ints))

module _ (s : State) (sound : IsSound s) (free : IsFree s.given s.basis) (p : Point) (h : HasValues p s.values) where
  -- the column's value is listed
  listed : (c : ℕ) → c < s.columns → (v : ℤ × ℤ) × (slice_get s.values c ≡ Some v)
  listed c l = let n = sound.count in (get_or s.values c (pos 0, pos 0), slice_get-get_or s.values c (pos 0, pos 0) (omega arith))

  top-outside : (c : ℕ) → c < s.columns → (Contains s.basis c → ⊥) → p.tops c ≡ places_of s.values c *ℤ p.bottom
  top-outside c l n =
      let v = listed c l in
      sym (times-one (p.tops c)) ∙ ap (λ z. p.tops c *ℤ z) (sym (sound.outside c v.0 n v.1)) ∙ h.same c v.0 v.1
      ∙ ap (λ o. top_of o *ℤ p.bottom) (sym v.1)

  in-columns : (x : ℕ) → Contains s.basis x → x < s.columns
  in-columns x i =
      let j = at_listed s.basis x i in
      let P : ℕ → Type 0 = λ c. c < s.columns in
      subst P (get_or_from_slice_get s.basis j.0 x 0 j.1) (sound.basis.in_range j.0 0 (slice_get_within s.basis j.0 x j.1))

  met : (x : ℕ) → Contains s.basis x → (e : ℕ → ℤ) × IsMet s.given s.columns s.basis p.tops x e
  met x i =
      let l = in-columns x i in
      let v = listed x l in
      let w = sound.inside x v.0 i v.1 in (
        combined w.multipliers s.given,
        record {
          combination = made_combination s.given w.multipliers (apart s.given s.columns sound.given) w.value.row.multipliers;
          has_entry = w.value.row.has_entry;
          alone = w.value.row.alone;
          sum = split-on (combined w.multipliers s.given) (places_of s.values) p.tops p.bottom x s.columns l
              (λ c k d. one x w c k d (by_test (is_in s.basis c)))
              ∙ ap (λ z. z *ℤ p.bottom +ℤ combined w.multipliers s.given x *ℤ p.tops x) w.value.numerator
              ∙ ap (λ z. w.top *ℤ p.bottom +ℤ z *ℤ p.tops x) w.value.denominator
              ∙ value-sum w.top w.bottom p.bottom (p.tops x) v.0.0 v.0.1 (no-divisor v.0.1 (positive x v.0 v.1)) w.same (h.same x v.0 v.1);
        },
      ) where
        one : (x : ℕ) {v : ℤ × ℤ} (w : IsValueOf s x v) (c : ℕ) → c < s.columns → c ≢ x → ((is_in s.basis c ≡ true) ⊎ (is_in s.basis c ≡ false))
            → combined w.multipliers s.given c *ℤ p.tops c ≡ (combined w.multipliers s.given c *ℤ places_of s.values c) *ℤ p.bottom
        one x w c k d (inl t) = both-none (combined w.multipliers s.given c) (p.tops c) (places_of s.values c) p.bottom
            (w.value.row.alone c (in_yes s.basis c t) d)
        one x w c k d (inr t) =
            ap (λ z. combined w.multipliers s.given c *ℤ z) (top-outside c k (in_no s.basis c t))
            ∙ sym (times_times (combined w.multipliers s.given c) (places_of s.values c) p.bottom)

        positive : (x : ℕ) (v : ℤ × ℤ) → slice_get s.values x ≡ Some v → pos 0 <ℤ v.1
        positive x v e =
            let l = slice_get_within s.values x v e in
            let P : ℤ × ℤ → Type 0 = λ u. pos 0 <ℤ u.1 in
            subst P (get_or_from_slice_get s.values x v (pos 0, pos 0) e) (sound.fractions x (pos 0, pos 0) l).positive

  -- each combination sums to 0, by one column of the basis after the other
  all-sums : (k : ℕ) (e : ℕ → ℤ) → IsCombination s.given e → ((j b : ℕ) → k ≤ j → slice_get s.basis j ≡ Some b → e b ≡ pos 0) → k ≤ length s.basis
      → summed e p.tops s.columns ≡ pos 0
  all-sums zero e ce f l =
      summed_same e (λ c. pos 0) p.tops (free e ce (λ b i. let j = at_listed s.basis b i in f j.0 b (omega arith) j.1)) s.columns
      ∙ summed_zero p.tops s.columns
  all-sums (suc k) e ce f l =
      let ex = slice_get-get_or s.basis k 0 (omega arith) in
      let r = met (get_or s.basis k 0) (listed_at s.basis k (get_or s.basis k 0) ex) in
      let m = r.1 in
      let c = crossed-combination s.given (r.0 (get_or s.basis k 0)) (e (get_or s.basis k 0)) e r.0
      (λ c. r.0 (get_or s.basis k 0) *ℤ e c -ℤ e (get_or s.basis k 0) *ℤ r.0 c) (λ c. refl) ce m.combination in
      let i = all-sums k (λ c. r.0 (get_or s.basis k 0) *ℤ e c -ℤ e (get_or s.basis k 0) *ℤ r.0 c) c
      (λ j b n eb. vanishes k (get_or s.basis k 0) r.0 e ex m f j b n eb (by_test (b == get_or s.basis k 0))) (omega arith) in
      let t = crossed-sum (r.0 (get_or s.basis k 0)) (e (get_or s.basis k 0)) e r.0 p.tops s.columns in
      let z : e (get_or s.basis k 0) *ℤ summed r.0 p.tops s.columns ≡ pos 0 =
      ap (λ z. e (get_or s.basis k 0) *ℤ z) m.sum ∙ *ℤ-zero (e (get_or s.basis k 0)) in
      product_zero (r.0 (get_or s.basis k 0)) (summed e p.tops s.columns) m.has_entry (omega (arith, ints)) where
        vanishes : (k x : ℕ) (g e : ℕ → ℤ) → slice_get s.basis k ≡ Some x → IsMet s.given s.columns s.basis p.tops x g
            → ((j b : ℕ) → suc k ≤ j → slice_get s.basis j ≡ Some b → e b ≡ pos 0)
            → (j b : ℕ) → k ≤ j → slice_get s.basis j ≡ Some b → ((b == x) ≡ true) ⊎ ((b == x) ≡ false) → g x *ℤ e b -ℤ e x *ℤ g b ≡ pos 0
        vanishes k x g e ex m f j b n eb (inl t) = ap (λ c. g x *ℤ e c -ℤ e x *ℤ g c) (same_if b x t) ∙ difference_swapped (g x) (e x)
        vanishes k x g e ex m f j b n eb (inr t) =
            let d = other_if b x t in
            ap (λ z. g x *ℤ z -ℤ e x *ℤ g b) (f j b (further k j n (λ q. d (same_some b x (sym eb ∙ ap (slice_get s.basis) q ∙ ex)))) eb)
            ∙ ap (λ z. g x *ℤ pos 0 -ℤ e x *ℤ z) (m.alone b (listed_at s.basis j b eb) d) ∙ difference_zero (g x) (e x)

  given-sum : (k : ℕ) (d : List (ℕ × ℤ)) → k < length s.given → sum_of p.tops (get_or s.given k d) ≡ pos 0
  given-sum k d l =
      sym (row_sum (get_or s.given k d) p.tops s.columns (row-below s.columns (get_or s.given k d) (sound.given.in_range k d l)))
      ∙ all-sums (length s.basis) (entry (get_or s.given k d))
      (λ c. sym (row_combination s.given k (get_or s.given k d) (apart s.given s.columns sound.given) (slice_get-get_or s.given k d l) c))
      (λ j b m e. let w = slice_get_within s.basis j b e in absurd (omega arith)) (omega arith)

pub on_rows : (s : State) → IsSound s → IsFree s.given s.basis → AreOnRows s
on_rows s sound free p h = λ k d l. given-sum s sound free p h k d l
