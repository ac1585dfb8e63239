-- The cut of another row is refused.
use Rattle.std.specs.Prelude.{ℕ, zero, suc, ◌≡◌, ◌≢◌, ◌==◌, Bool, true, false, cond, List, [], ◌∷◌, map, All, Contains, get_or}
use Rattle.std.specs.Int.{int_rem_euclid}
use Rattle.std.proofs.Common.{◌∙◌, ap, arith, refl}
use Rattle.std.proofs.lemmas.Int.{ints}
use Rattle.std.proofs.lemmas.Bool.Decides.{nat_tests}
use Rattle.std.proofs.Math.Nat.{zero-mod}
use lib.IntN.{ℤ, pos, negsuc, ◌+ℤ◌, ◌*ℤ◌, neg_ℤ, *ℤ-zero}
use lib.Signed.{◌<ℤ◌}
use Rattle.proof_steps.specs.View.{Sum}
use Rattle.proof_steps.specs.Meaning.{as_said}
use Rattle.proof_steps.specs.Rows.{entry, combined}
use Rattle.int_simplex.specs.State.{Standing}
use Rattle.int_simplex.specs.Farkas.{turned, weight}
use Rattle.int_cuts.specs.Cuts.{IsCut, remainder, multipliers_in}
use Rattle.cut_rows.specs.Halves.{halves, at_least_one}

-- the rows' sum in the four columns
none-left : (ms : List ℤ) (c : ℕ) → combined ms [] c ≡ pos 0
none-left [] c = refl
none-left (m ∷ ms) c = refl

in-1 : (ms : List ℤ) → (b : ℤ) × (combined ms halves.given 1 ≡ pos 2 *ℤ b) × (combined ms halves.given 3 ≡ neg_ℤ b)
in-1 [] = (pos 0, refl, refl)
in-1 (a ∷ []) = (pos 0, zeros a, zeros a) where
  zeros : (a : ℤ) → (a *ℤ pos 0) +ℤ pos 0 ≡ pos 0
  zeros a = let e : a *ℤ pos 0 ≡ pos 0 = *ℤ-zero a in omega (arith, ints)
in-1 (a ∷ b ∷ ms) = (b, two a b (combined ms [] 1) (none-left ms 1), minus a b (combined ms [] 3) (none-left ms 3)) where
  two : (a b z : ℤ) → z ≡ pos 0 → (a *ℤ pos 0) +ℤ ((b *ℤ pos 2) +ℤ z) ≡ pos 2 *ℤ b
  two a b z q = let e : a *ℤ pos 0 ≡ pos 0 = *ℤ-zero a in omega (arith, ints)

  minus : (a b z : ℤ) → z ≡ pos 0 → (a *ℤ pos 0) +ℤ ((b *ℤ negsuc 0) +ℤ z) ≡ neg_ℤ b
  minus a b z q = let e : a *ℤ pos 0 ≡ pos 0 = *ℤ-zero a in omega (arith, ints)

-- multipliers of 0, or bounds of other columns, weigh nothing
plus-zero : (z : ℤ) → z ≡ pos 0 → (s : Bool) → turned s z ≡ pos 0
plus-zero z e true = e
plus-zero z e false = ap neg_ℤ e

same-if : (x y : ℕ) → (x == y) ≡ true → x ≡ y
same-if x y e = grind (arith, nat_tests)

not-same : (x y : ℕ) → x ≢ y → (x == y) ≡ false
not-same x y n = grind (arith, nat_tests)

sum-zero : (x y : ℤ) → x ≡ pos 0 → y ≡ pos 0 → x +ℤ y ≡ pos 0
sum-zero x y e g = omega (arith, ints)

by-test : (t : Bool) (x y : ℤ) → (t ≡ true → x ≡ pos 0) → y ≡ pos 0 → cond t (x +ℤ y) y ≡ pos 0
by-test true x y h e = sum-zero x y (h refl) e
by-test false x y h e = e

weight-none : (f : Standing → ℤ) (bs : List Standing) (c : ℕ) → ((b : Standing) → b.column ≡ c → f b ≡ pos 0) → weight (map f bs) bs c ≡ pos 0
weight-none f [] c h = refl
weight-none f (b ∷ bs) c h =
    by-test (b.column == c) (turned b.upper (f b)) (weight (map f bs) bs c) (λ e. plus-zero (f b) (h b (same-if b.column c e)) b.upper)
    (weight-none f bs c h)

weight-other : (ms : List ℤ) (bs : List Standing) (c : ℕ) → All (λ (b : Standing). b.column ≢ c) bs → weight ms bs c ≡ pos 0
weight-other [] bs c h = refl
weight-other (m ∷ ms) [] c h = refl
weight-other (m ∷ ms) (b ∷ bs) c h =
    ap (λ t. cond t (turned b.upper m +ℤ weight ms bs c) (weight ms bs c)) (not-same b.column c (h 0 b (omega arith)))
    ∙ weight-other ms bs c (λ k d l. h (suc k) d (omega arith))

-- the bounds of the tableau are those of columns 2 and 3
not-one : (b : Standing) → Contains halves.bounds b → b.column ≢ 1
not-one b (zero, h, e) q = absurd (let p : 2 ≡ b.column = ap (λ (x : Standing). x.column) e in omega arith)
not-one b (suc zero, h, e) q = absurd (let p : 3 ≡ b.column = ap (λ (x : Standing). x.column) e in omega arith)
not-one b (suc (suc k), h, e) q = absurd (omega arith)

-- a remainder of 0
rem-zero : (d z : ℤ) (s : Bool) → pos 0 <ℤ d → z ≡ pos 0 → remainder d s z ≡ pos 0
rem-zero d z s p e = ap (λ w. int_rem_euclid w d) (plus-zero z e (as_said s false)) ∙ nothing d p where
  nothing : (d : ℤ) → pos 0 <ℤ d → int_rem_euclid (pos 0) d ≡ pos 0
  nothing (pos zero) p = absurd (omega (arith, ints))
  nothing (pos (suc n)) p = ap pos (zero-mod (suc n))
  nothing (negsuc n) p = absurd (omega (arith, ints))

pub another_row : (line : Sum) → IsCut halves 0 line (at_least_one 1) → ⊥
another_row line k =
    let g = k.gomory in let f = k.follows in
    -- the row of x0 has no entry in column 1, so none in column 3
    let r = in-1 k.is_row.multipliers in
    let a1 = k.is_row.is_row.alone 1 (1, omega arith, refl) (λ q. absurd (omega arith)) in
    let e3 = k.is_row.entries 3 in
    let z3 : entry k.row 3 ≡ pos 0 = zero-three (entry k.row 3) (combined k.is_row.multipliers halves.given 1) (combined k.is_row.multipliers halves.given 3)
    r.0 a1 e3 r.1 r.2 in
    let w1 = weight-other (multipliers_in line) k.bounds 1 (λ i d h. not-one (get_or k.bounds i d) (f.stand i d h)) in
    let w3 : weight (multipliers_in line) k.bounds 3 ≡ pos 0 =
    ap (λ ms. weight ms k.bounds 3) g.multipliers
    ∙ weight-none (λ (b : Standing). remainder line.divisor b.upper (entry k.row b.column)) k.bounds 3
    (λ b q. rem-zero line.divisor (entry k.row b.column) b.upper f.positive (ap (entry k.row) q ∙ z3)) in
    let c = in-1 f.rows in
    let s1 = f.sums 1 in let s3 = f.sums 3 in
    no-divisor line.divisor c.0 (weight (multipliers_in line) k.bounds 1) (weight (multipliers_in line) k.bounds 3)
    (combined f.rows halves.given 1) (combined f.rows halves.given 3) f.positive w1 w3 c.1 c.2 s1 s3 where
      zero-three : (e c1 c3 b : ℤ) → c1 ≡ pos 0 → e ≡ c3 → c1 ≡ pos 2 *ℤ b → c3 ≡ neg_ℤ b → e ≡ pos 0
      zero-three e c1 c3 b h1 h2 h3 h4 = omega (arith, ints)

      no-divisor : (d b w1 w3 c1 c3 : ℤ) → pos 0 <ℤ d → w1 ≡ pos 0 → w3 ≡ pos 0 → c1 ≡ pos 2 *ℤ b → c3 ≡ neg_ℤ b
          → w1 +ℤ c1 ≡ d *ℤ (negsuc 0) → w3 +ℤ c3 ≡ d *ℤ pos 0 → ⊥
      no-divisor d b w1 w3 c1 c3 p h1 h3 e1 e3 s1 s3 =
          let z : d *ℤ pos 0 ≡ pos 0 = *ℤ-zero d in
          absurd (omega (arith, ints))
