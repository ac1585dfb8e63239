-- A fraction compared with a limit by its floor.
use Prim.Native.Nat.{◌∣◌}
use Rattle.std.specs.Prelude.{ℕ, ◌≡◌, ◌≢◌, ◌↔◌, Bool, true, false, unsigned_abs}
use Rattle.std.proofs.Common.{sym, ◌∙◌, ap, subst, arith, refl}
use Rattle.std.proofs.lemmas.Int.{ints, by_lt_z, unsigned_abs-mul}
use Rattle.std.proofs.Math.Nat.{dvd-mul_right}
use Rattle.std.proofs.lemmas.Nat.Gcd.{dvd_refl}
use lib.IntN.{ℤ, pos, negsuc, ◌+ℤ◌, ◌*ℤ◌, *ℤ_comm}
use lib.Signed.{◌≤ℤ◌, ◌<ℤ◌, lt_z}
use Rattle.kind_num.specs.Division.{IsFloor}
use Rattle.kind_num.proofs.Ring.{sum_times}
use Rattle.int_simplex.specs.Points.{IsFraction}
use Rattle.int_simplex.proofs.Once.{times_lt}

times-le : (d a b : ℤ) → pos 0 <ℤ d → a ≤ℤ b → (d *ℤ a) ≤ℤ (d *ℤ b)
times-le d a b h l = by_lt_z a b
    (λ m. let x : (d *ℤ a) <ℤ (d *ℤ b) = times_lt d a b h m in omega (arith, ints))
    (λ m. let e : a ≡ b = omega (arith, ints) in let f : d *ℤ a ≡ d *ℤ b = ap (λ z. d *ℤ z) e in omega (arith, ints))

next-times : (d q : ℤ) → d *ℤ (q +ℤ pos 1) ≡ d *ℤ q +ℤ d
unfolding lib.IntN.one
next-times d q = sum_times d q (pos 1) ∙ ap (λ z. d *ℤ q +ℤ z) (lib.IntN.*ℤ-one d)

size-one : (d : ℤ) → pos 0 <ℤ d → unsigned_abs d ≡ 1 → d ≡ pos 1
size-one (pos n) h e = ap pos e
size-one (negsuc n) h e = absurd (omega (arith, ints))

-- in lowest terms, a quotient without a remainder has the divisor 1
whole-divisor : (n d q : ℤ) → IsFraction (n, d) → d *ℤ q ≡ n → d ≡ pos 1
whole-divisor n d q f e =
    let P : ℕ → Type 0 = λ z. unsigned_abs d ∣ z in
    let a : unsigned_abs d ∣ unsigned_abs n = subst P (sym (unsigned_abs-mul d q) ∙ ap unsigned_abs e) (dvd-mul_right (unsigned_abs d) (unsigned_abs q)) in
    size-one d f.positive (f.lowest (unsigned_abs d) a (dvd_refl (unsigned_abs d)))

pub above_low : (n d q limit : ℤ) → IsFraction (n, d) → IsFloor n d q → limit <ℤ q → (limit *ℤ d) <ℤ n
above_low n d q limit f w h =
    let a = times_lt d limit q f.positive h in let b = w.at_most in let c : limit *ℤ d ≡ d *ℤ limit = *ℤ_comm limit d in omega (arith, ints)

pub above_equal : (n d q limit : ℤ) → IsFraction (n, d) → IsFloor n d q → limit ≡ q → d ≢ pos 1 → (limit *ℤ d) <ℤ n
above_equal n d q limit f w e m =
    let b = w.at_most in let c : limit *ℤ d ≡ d *ℤ q = *ℤ_comm limit d ∙ ap (λ z. d *ℤ z) e in
    by_lt_z (limit *ℤ d) n (λ l. l) (λ l. absurd (m (whole-divisor n d q f (omega (arith, ints)))))

pub not_above_high : (n d q limit : ℤ) → IsFraction (n, d) → IsFloor n d q → q <ℤ limit → (limit *ℤ d) <ℤ n → ⊥
not_above_high n d q limit f w h l =
    let a : (d *ℤ (q +ℤ pos 1)) ≤ℤ (d *ℤ limit) = times-le d (q +ℤ pos 1) limit f.positive (omega (arith, ints)) in
    let b = w.greatest in let c : limit *ℤ d ≡ d *ℤ limit = *ℤ_comm limit d in let e = next-times d q in absurd (omega (arith, ints))

pub not_above_whole : (n d q limit : ℤ) → IsFraction (n, d) → IsFloor n d q → limit ≡ q → d ≡ pos 1 → (limit *ℤ d) <ℤ n → ⊥
not_above_whole n d q limit f w h e l =
    let a : limit *ℤ d ≡ d *ℤ q = *ℤ_comm limit d ∙ ap (λ z. d *ℤ z) h in
    let b = w.greatest in absurd (omega (arith, ints))

pub below_high : (n d q limit : ℤ) → IsFraction (n, d) → IsFloor n d q → q <ℤ limit → n <ℤ (limit *ℤ d)
below_high n d q limit f w h =
    let a : (d *ℤ (q +ℤ pos 1)) ≤ℤ (d *ℤ limit) = times-le d (q +ℤ pos 1) limit f.positive (omega (arith, ints)) in
    let b = w.greatest in let c : limit *ℤ d ≡ d *ℤ limit = *ℤ_comm limit d in let e = next-times d q in omega (arith, ints)

pub not_below_low : (n d q limit : ℤ) → IsFraction (n, d) → IsFloor n d q → limit ≤ℤ q → n <ℤ (limit *ℤ d) → ⊥
not_below_low n d q limit f w h l =
    let a = times-le d limit q f.positive h in let b = w.at_most in let c : limit *ℤ d ≡ d *ℤ limit = *ℤ_comm limit d in absurd (omega (arith, ints))

pub yes : {P : Type 0} → P → (true ≡ true) ↔ P
yes p = (λ e. p, λ q. refl)

pub no : {P : Type 0} → (P → ⊥) → (false ≡ true) ↔ P
no n = (λ e. absurd (no-way e), λ q. absurd (n q)) where
  no-way : false ≡ true → ⊥
  no-way e = absurd cc

pub whether : {P : Type 0} (b : Bool) → (b ≡ true → P) → (b ≡ false → P → ⊥) → (b ≡ true) ↔ P
whether true f g = (λ e. f refl, λ p. refl)
whether false f g = (λ e. absurd (no-way e), λ p. absurd (g refl p)) where
  no-way : false ≡ true → ⊥
  no-way e = absurd cc

pub is_below : (a b : ℤ) → lt_z a b ≡ true → a <ℤ b
is_below a b e = grind (arith, ints)

pub not_below : (a b : ℤ) → lt_z a b ≡ false → b ≤ℤ a
not_below a b e = grind (arith, ints)

pub both_ways : (b : Bool) → b ≡ true → b ≡ false → ⊥
both_ways true e f = absurd cc
both_ways false e f = absurd cc
