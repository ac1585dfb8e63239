-- A row without a common factor, and with a negative entry in its column.
use Prim.Native.Nat.{◌∣◌}
use Rattle.std.specs.Prelude.{ℕ, zero, suc, ◌≡◌, ◌≢◌, ◌⊎◌, ◌<◌, ◌*◌, ◌/◌, ◌%◌, List, [], ◌∷◌, length, Contains, All, unsigned_abs}
use Rattle.std.proofs.Common.{sym, ◌∙◌, ap, subst, arith, refl, inl, inr}
use Rattle.std.proofs.Math.Nat.{mul-dvd-mul_left, dvd_of_mul-dvd-mul_left, eq-one_of_dvd-one}
use Rattle.std.proofs.lemmas.Int.{ints, unsigned_abs-mul}
use Rattle.std.proofs.lemmas.Nat.Gcd.{IsGcd-from_zero, IsGcd-from_mod, dvd-zero, dvd_antisymm, dvd_trans, mod-eq-zero_of_dvd}
use Rattle.std.specs.Int.{IsGcd}
use lib.IntN.{ℤ, pos, negsuc, ◌+ℤ◌, ◌*ℤ◌, neg_ℤ, *ℤ-zero, zero-*ℤ}
use lib.Signed.{◌<ℤ◌}
use Rattle.kind_num.proofs.Ring.{times_neg, neg_times, sum_times, times_times}
use Rattle.proof_steps.specs.Rows.{entry, combined, IsRow}
use Rattle.bland_laws.proofs.Combos.{abs-zero, null_factor}
use Rattle.bland_laws.proofs.Free.{IsOwn}

divisor-within : (n a b : ℕ) → b < n → (g : ℕ) × IsGcd a b g
divisor-within zero a b h = absurd (omega arith)
divisor-within (suc n) a zero h = (a, IsGcd-from_zero a 0 refl)
divisor-within (suc n) a (suc b) h =
    let l : a % suc b < n = let k : a % suc b < suc b = omega arith in omega arith in
    let r = divisor-within n (suc b) (a % suc b) l in
    (r.0, IsGcd-from_mod a (suc b) r.0 r.1)

abbrev Divides : ℕ → List ℤ → Type 0
Divides d [] = Unit
Divides d (m ∷ ms) = (d ∣ unsigned_abs m) × Divides d ms

divides-all : (d : ℕ) (ms : List ℤ) → All (λ m. d ∣ unsigned_abs m) ms → Divides d ms
divides-all d [] h = tt
divides-all d (m ∷ ms) h = (h 0 m (omega arith), divides-all d ms (λ k z l. h (suc k) z (omega arith)))

all-divides : (d : ℕ) (ms : List ℤ) → Divides d ms → All (λ m. d ∣ unsigned_abs m) ms
all-divides d [] h k z l = absurd (omega arith)
all-divides d (m ∷ ms) h zero z l = h.0
all-divides d (m ∷ ms) h (suc k) z l = all-divides d ms h.1 k z (omega arith)

divides-more : (d g : ℕ) (ms : List ℤ) → d ∣ g → Divides g ms → Divides d ms
divides-more d g [] e h = tt
divides-more d g (m ∷ ms) e h = (dvd_trans d e h.0, divides-more d g ms e h.1)

content : (ms : List ℤ) → (g : ℕ) × Divides g ms × ((d : ℕ) → Divides d ms → d ∣ g)
content [] = (0, tt, λ d h. dvd-zero d)
content (m ∷ ms) =
    let c = content ms in
    let r = divisor-within (suc c.0) (unsigned_abs m) c.0 (omega arith) in
    (r.0, (r.1.0, divides-more r.0 c.0 ms r.1.1 c.1), λ d h. r.1.2 d h.0 (c.2 d h.1))

all-null : (ms : List ℤ) (rows : List (List (ℕ × ℤ))) (c : ℕ) → Divides 0 ms → combined ms rows c ≡ pos 0
all-null [] rows c h = refl
all-null (m ∷ ms) [] c h = refl
all-null (m ∷ ms) (r ∷ rows) c h =
    let z : 0 ≡ unsigned_abs m = dvd_antisymm h.0 (dvd-zero (unsigned_abs m)) in
    let e : m *ℤ entry r c ≡ pos 0 = ap (λ w. w *ℤ entry r c) (abs-zero m (sym z)) ∙ zero-*ℤ (entry r c) in
    let i : combined ms rows c ≡ pos 0 = all-null ms rows c h.1 in
    omega (arith, ints)

multiple-of : (g n : ℕ) → 0 < g → n % g ≡ 0 → g * (n / g) ≡ n
multiple-of zero n h e = absurd (omega arith)
multiple-of (suc d) n h e = omega arith

whole-part : (g : ℕ) (a : ℤ) → 0 < g → g ∣ unsigned_abs a → (m : ℤ) × (pos g *ℤ m ≡ a)
whole-part g (pos n) h d = (pos (n / g), ap pos (multiple-of g n h (mod-eq-zero_of_dvd g d)))
whole-part g (negsuc n) h d = (
  neg_ℤ (pos (suc n / g)),
  times_neg (pos g) (pos (suc n / g)) ∙ ap (λ z. neg_ℤ (pos z)) (multiple-of g (suc n) h (mod-eq-zero_of_dvd g d)),
)

factor-of : (g d : ℕ) (p whole : ℤ) → pos g *ℤ p ≡ whole → d ∣ unsigned_abs p → g * d ∣ unsigned_abs whole
factor-of g d p whole e h =
    let P : ℕ → Type 0 = λ z. g * d ∣ z in
    subst P (sym (unsigned_abs-mul (pos g) p) ∙ ap unsigned_abs e) (mul-dvd-mul_left d g h)

part-head : (g m n a s t : ℤ) → g *ℤ n ≡ m → s ≡ g *ℤ t → m *ℤ a +ℤ s ≡ g *ℤ (n *ℤ a +ℤ t)
part-head g m n a s t e f =
    let h : m *ℤ a ≡ g *ℤ (n *ℤ a) = ap (λ z. z *ℤ a) (sym e) ∙ times_times g n a in
    let k : g *ℤ (n *ℤ a +ℤ t) ≡ g *ℤ (n *ℤ a) +ℤ g *ℤ t = sum_times g (n *ℤ a) t in
    omega (arith, ints)

-- the multipliers when a common factor is taken out
record IsPart (g : ℕ) (ms ns : List ℤ) : Type 0 where
  count : length ns ≡ length ms
  entries : (rows : List (List (ℕ × ℤ))) (c : ℕ) → combined ms rows c ≡ pos g *ℤ combined ns rows c
  factors : (d : ℕ) → Divides d ns → Divides (g * d) ms

part : (g : ℕ) (ms : List ℤ) → 0 < g → Divides g ms → (ns : List ℤ) × IsPart g ms ns
part g [] h d = ([], record { count = refl; entries = λ rows c. sym (*ℤ-zero (pos g)); factors = λ k f. tt })
part g (m ∷ ms) h d =
    let w = whole-part g m h d.0 in
    let r = part g ms h d.1 in (
      w.0 ∷ r.0,
      record {
        count = ap suc r.1.count;
        entries = both w.0 r.0 w.1 r.1;
        factors = λ k f. (factor-of g k w.0 m w.1 f.0, r.1.factors k f.1);
      },
    ) where
      both : (n : ℤ) (ns : List ℤ) → pos g *ℤ n ≡ m → IsPart g ms ns → (rows : List (List (ℕ × ℤ))) (c : ℕ)
          → combined (m ∷ ms) rows c ≡ pos g *ℤ combined (n ∷ ns) rows c
      both n ns e p [] c = sym (*ℤ-zero (pos g))
      both n ns e p (r ∷ rows) c = part-head (pos g) m n (entry r c) (combined ms rows c) (combined ns rows c) e (p.entries rows c)

-- each row of a column gives one without a common factor
pub coprime_row : (given : List (List (ℕ × ℤ))) (basis : List ℕ) (x : ℕ) (ms : List ℤ) → Contains basis x → IsOwn given basis x ms
    → (ns : List ℤ) × IsRow given basis x ns
coprime_row given basis x ms i o = let c = content ms in reduced c.0 c.1 c.2 where
  reduced : (g : ℕ) → Divides g ms → ((d : ℕ) → Divides d ms → d ∣ g) → (ns : List ℤ) × IsRow given basis x ns
  reduced zero h all = absurd (o.has_entry (all-null ms given x h))
  reduced (suc k) h all =
      let r = part (suc k) ms (omega arith) h in (
        r.0,
        record {
          multipliers = r.1.count ∙ o.multipliers;
          in_basis = i;
          has_entry = λ z. o.has_entry (r.1.entries given x ∙ ap (λ w. pos (suc k) *ℤ w) z ∙ *ℤ-zero (pos (suc k)));
          alone = λ b j m. null_factor (pos (suc k)) (combined r.0 given b) (λ e. absurd (omega (arith, ints)))
              (sym (r.1.entries given b) ∙ o.alone b j m);
          coprime = λ d f e.
              let a : suc k * d ∣ suc k = all (suc k * d) (r.1.factors d (divides-all d r.0 f)) in
              let P : ℕ → Type 0 = λ z. suc k * d ∣ z in
              let b : suc k * d ∣ suc k * 1 = subst P (omega arith) a in
              eq-one_of_dvd-one (dvd_of_mul-dvd-mul_left d (omega arith) b);
        },
      )

abbrev negated : List ℤ → List ℤ
negated [] = []
negated (m ∷ ms) = neg_ℤ m ∷ negated ms

length-negated : (ms : List ℤ) → length (negated ms) ≡ length ms
length-negated [] = refl
length-negated (m ∷ ms) = ap suc (length-negated ms)

combined-negated : (ms : List ℤ) (rows : List (List (ℕ × ℤ))) (c : ℕ) → combined (negated ms) rows c ≡ neg_ℤ (combined ms rows c)
combined-negated [] rows c = refl
combined-negated (m ∷ ms) [] c = refl
combined-negated (m ∷ ms) (r ∷ rows) c =
    let i : combined (negated ms) rows c ≡ neg_ℤ (combined ms rows c) = combined-negated ms rows c in
    let e : neg_ℤ m *ℤ entry r c ≡ neg_ℤ (m *ℤ entry r c) = neg_times m (entry r c) in
    omega (arith, ints)

abs-negated : (z : ℤ) → unsigned_abs (neg_ℤ z) ≡ unsigned_abs z
abs-negated (pos zero) = refl
abs-negated (pos (suc n)) = refl
abs-negated (negsuc n) = refl

divides-negated : (d : ℕ) (ms : List ℤ) → Divides d (negated ms) → Divides d ms
divides-negated d [] h = tt
divides-negated d (m ∷ ms) h =
    let P : ℕ → Type 0 = λ z. d ∣ z in (subst P (abs-negated m) h.0, divides-negated d ms h.1)

negated-row : (given : List (List (ℕ × ℤ))) (basis : List ℕ) (x : ℕ) (ms : List ℤ) → IsRow given basis x ms
    → IsRow given basis x (negated ms)
negated-row given basis x ms r = record {
  multipliers = length-negated ms ∙ r.multipliers;
  in_basis = r.in_basis;
  has_entry = λ z. r.has_entry (let e = combined-negated ms given x in omega (arith, ints));
  alone = λ b i n. combined-negated ms given b ∙ ap neg_ℤ (r.alone b i n);
  coprime = λ d f e. r.coprime d (all-divides d ms (divides-negated d ms (divides-all d (negated ms) f)))
      (λ c. let P : ℕ → Type 0 = λ z. d ∣ z in
      subst P (ap unsigned_abs (combined-negated ms given c) ∙ abs-negated (combined ms given c)) (e c));
}

pub sign-of : (z : ℤ) → z ≢ pos 0 → (z <ℤ pos 0) ⊎ (pos 0 <ℤ z)
sign-of (pos zero) n = absurd (n refl)
sign-of (pos (suc k)) n = inr (omega (arith, ints))
sign-of (negsuc k) n = inl (omega (arith, ints))

-- a row, or that row with all signs turned, has a negative entry in its column
pub turned_row : (given : List (List (ℕ × ℤ))) (basis : List ℕ) (x : ℕ) (ms : List ℤ) → IsRow given basis x ms
    → (ns : List ℤ) × (bottom : ℤ) × IsRow given basis x ns × (pos 0 <ℤ bottom) × (combined ns given x ≡ neg_ℤ bottom)
turned_row given basis x ms r = elim (sign-of (combined ms given x) r.has_entry) [
  | inl l ↦ (ms, neg_ℤ (combined ms given x), r, omega (arith, ints), omega (arith, ints))
  | inr l ↦ (negated ms, combined ms given x, negated-row given basis x ms r, l, combined-negated ms given x)
]
