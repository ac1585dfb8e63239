-- Products of whole numbers in their order.
use Rattle.std.specs.Prelude.{zero, suc, ◌≡◌, Bool, true, false}
use Rattle.std.proofs.Common.{sym, ◌∙◌, ap, arith}
use Rattle.std.proofs.lemmas.Int.{ints, by_lt_z}
use lib.IntN.{ℤ, pos, negsuc, ◌+ℤ◌, ◌-ℤ◌, ◌*ℤ◌, neg_ℤ, *ℤ-zero, zero-*ℤ, *ℤ_comm}
use lib.Signed.{◌≤ℤ◌, ◌<ℤ◌}
use Rattle.kind_num.proofs.Ring.{times_times, times_le, sum_times, neg_times, times_neg}
use Rattle.proof_steps.specs.Pivots.{IsPast}
use Rattle.bland_laws.proofs.Points.{positive_product}

pub at_most_times : (k a b : ℤ) → pos 0 <ℤ k → a ≤ℤ b → (k *ℤ a) ≤ℤ (k *ℤ b)
at_most_times (pos n) a b h l = times_le n a b l
at_most_times (negsuc n) a b h l = absurd (omega (arith, ints))

pub below_times : (k a b : ℤ) → pos 0 <ℤ k → a <ℤ b → (k *ℤ a) <ℤ (k *ℤ b)
below_times k a b h l =
    let d : pos 0 <ℤ (b -ℤ a) = omega (arith, ints) in
    let p : pos 0 <ℤ (k *ℤ (b -ℤ a)) = positive_product k (b -ℤ a) h d in
    let s : k *ℤ (b -ℤ a) ≡ k *ℤ b +ℤ k *ℤ neg_ℤ a = sum_times k b (neg_ℤ a) in
    let n : k *ℤ neg_ℤ a ≡ neg_ℤ (k *ℤ a) = times_neg k a in
    omega (arith, ints)

pub below_from_times : (k a b : ℤ) → pos 0 <ℤ k → (k *ℤ a) <ℤ (k *ℤ b) → a <ℤ b
below_from_times k a b h l = by_lt_z a b (λ m. m)
    (λ m. let n : (k *ℤ b) ≤ℤ (k *ℤ a) = at_most_times k b a h m in absurd (omega (arith, ints)))

pub turned_about : (d z b : ℤ) → d *ℤ (z *ℤ b) ≡ b *ℤ (z *ℤ d)
turned_about d z b = *ℤ_comm d (z *ℤ b) ∙ ap (λ w. w *ℤ d) (*ℤ_comm z b) ∙ times_times b z d

-- equal fractions are past the same limits
pub same_past : (side : Bool) (z a b e d : ℤ) → pos 0 <ℤ b → pos 0 <ℤ d → d *ℤ a ≡ b *ℤ e → IsPast side z a b → IsPast side z e d
same_past true z a b e d hb hd q h =
    let l : (d *ℤ (z *ℤ b)) <ℤ (d *ℤ a) = below_times d (z *ℤ b) a hd h in
    let t : d *ℤ (z *ℤ b) ≡ b *ℤ (z *ℤ d) = turned_about d z b in
    below_from_times b (z *ℤ d) e hb (omega (arith, ints))
same_past false z a b e d hb hd q h =
    let l : (d *ℤ a) <ℤ (d *ℤ (z *ℤ b)) = below_times d a (z *ℤ b) hd h in
    let t : d *ℤ (z *ℤ b) ≡ b *ℤ (z *ℤ d) = turned_about d z b in
    below_from_times b e (z *ℤ d) hb (omega (arith, ints))

scaled-product : (f d z : ℤ) → f *ℤ (d *ℤ z) ≡ d *ℤ (f *ℤ z)
scaled-product f d z = sym (times_times f d z) ∙ ap (λ w. w *ℤ z) (*ℤ_comm f d) ∙ times_times d f z

-- where a positive entry meets what is not above, and a negative one what is not below, the product is not above
pub entry_times : (f t d z : ℤ) → (pos 0 <ℤ f → t ≤ℤ (d *ℤ z)) → (f <ℤ pos 0 → (d *ℤ z) ≤ℤ t) → (f *ℤ t) ≤ℤ (d *ℤ (f *ℤ z))
entry_times (pos zero) t d z up down =
    let a : pos zero *ℤ t ≡ pos 0 = zero-*ℤ t in
    let b : d *ℤ (pos zero *ℤ z) ≡ pos 0 = ap (λ w. d *ℤ w) (zero-*ℤ z) ∙ *ℤ-zero d in
    omega (arith, ints)
entry_times (pos (suc n)) t d z up down =
    let l : (pos (suc n) *ℤ t) ≤ℤ (pos (suc n) *ℤ (d *ℤ z)) = times_le (suc n) t (d *ℤ z) (up (omega (arith, ints))) in
    let e : pos (suc n) *ℤ (d *ℤ z) ≡ d *ℤ (pos (suc n) *ℤ z) = scaled-product (pos (suc n)) d z in
    omega (arith, ints)
entry_times (negsuc n) t d z up down =
    let l : (pos (suc n) *ℤ (d *ℤ z)) ≤ℤ (pos (suc n) *ℤ t) = times_le (suc n) (d *ℤ z) t (down (omega (arith, ints))) in
    let a : negsuc n *ℤ t ≡ neg_ℤ (pos (suc n) *ℤ t) = neg_times (pos (suc n)) t in
    let b : negsuc n *ℤ (d *ℤ z) ≡ neg_ℤ (pos (suc n) *ℤ (d *ℤ z)) = neg_times (pos (suc n)) (d *ℤ z) in
    let e : negsuc n *ℤ (d *ℤ z) ≡ d *ℤ (negsuc n *ℤ z) = scaled-product (negsuc n) d z in
    omega (arith, ints)
