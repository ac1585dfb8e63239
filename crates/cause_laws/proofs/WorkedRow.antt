-- The one row of the worked queries.
use Prim.Native.Nat.{◌∣◌}
use Rattle.std.specs.Prelude.{ℕ, zero, suc, ◌≡◌, ◌*◌, ◌<◌, ◌≤◌, List, [], ◌∷◌, length, All, Contains, unsigned_abs}
use Rattle.std.proofs.Common.{sym, ap, subst, arith, refl}
use Rattle.std.proofs.Math.Nat.{dvd-mul_right}
use Rattle.std.proofs.lemmas.Int.{ints, unsigned_abs-mul}
use Rattle.std.proofs.lemmas.List.Elements.{All-head, All-nil, All-cons}
use Rattle.std.proofs.lemmas.Nat.Gcd.{dvd_antisymm, dvd_of_mod-eq-zero, dvd_refl}
use Rattle.std.proofs.lemmas.Bool.Decides.{nat_tests}
use lib.IntN.{ℤ, pos, negsuc, ◌+ℤ◌, ◌*ℤ◌}
use Rattle.proof_steps.specs.Rows.{IsRow, IsBasis, combined, entry, rows_of, columns_of}
use Rattle.cause_laws.specs.Small.{IsSmall}
use Rattle.cause_laws.specs.Worked.{near}

pub alone-in : {X : Type 0} (x y : X) → Contains (x ∷ []) y → x ≡ y
alone-in x y (zero, h, e) = e
alone-in x y (suc k, h, e) = absurd (omega arith)

one-divides : (d : ℕ) → d ∣ 1 → d ≡ 1
one-divides d h = dvd_antisymm h (dvd_of_mod-eq-zero 1 (omega arith))

-- `2*x - 2*y - s = 0`, as it stands and turned
pub sum-row : IsRow (rows_of near) (2 ∷ []) 2 (pos 1 ∷ [])
sum-row = record {
  multipliers = refl;
  in_basis = (0, omega arith, refl);
  has_entry = λ e. absurd cc;
  alone = λ b c n. absurd (n (sym (alone-in 2 b c)));
  coprime = λ d a f. one-divides d (All-head (λ m. d ∣ unsigned_abs m) (pos 1) [] a);
}

pub x-row : IsRow (rows_of near) (0 ∷ []) 0 (negsuc 0 ∷ [])
x-row = record {
  multipliers = refl;
  in_basis = (0, omega arith, refl);
  has_entry = λ e. absurd cc;
  alone = λ b c n. absurd (n (sym (alone-in 0 b c)));
  coprime = λ d a f. one-divides d (All-head (λ m. d ∣ unsigned_abs m) (negsuc 0) [] a);
}

nothing-in : (x k : ℕ) → k < 0 → ⊥
nothing-in x k h = omega arith

pub sum-basis : IsBasis (rows_of near) (columns_of near) (2 ∷ [])
sum-basis = record {
  count = refl;
  different = ((λ (k, h, e). absurd (omega arith)), tt);
  in_range = All-cons (λ c. c < columns_of near) 2 [] (omega arith) (All-nil (λ c. c < columns_of near));
  rows = λ x c. (pos 1 ∷ [], subst (λ y. IsRow (rows_of near) (2 ∷ []) y (pos 1 ∷ [])) (alone-in 2 x c) sum-row);
}

pub x-basis : IsBasis (rows_of near) (columns_of near) (0 ∷ [])
x-basis = record {
  count = refl;
  different = ((λ (k, h, e). absurd (omega arith)), tt);
  in_range = All-cons (λ c. c < columns_of near) 0 [] (omega arith) (All-nil (λ c. c < columns_of near));
  rows = λ x c. (negsuc 0 ∷ [], subst (λ y. IsRow (rows_of near) (0 ∷ []) y (negsuc 0 ∷ [])) (alone-in 0 x c) x-row);
}

pub far-entry : (m : ℤ) (k : ℕ) → combined (m ∷ []) (rows_of near) (suc (suc (suc k))) ≡ m *ℤ pos 0 +ℤ pos 0
far-entry m k = grind (arith, nat_tests)

-- ---- its multiplier is 1 or -1

size-of-sum : (m e : ℤ) → unsigned_abs (m *ℤ e +ℤ pos 0) ≡ unsigned_abs m * unsigned_abs e
size-of-sum m e = let p : unsigned_abs (m *ℤ e) ≡ unsigned_abs m * unsigned_abs e = unsigned_abs-mul m e in omega (arith, ints)

abbrev the-entry : ℕ → ℤ
the-entry c = entry ((0, pos 2) ∷ (1, negsuc 1) ∷ (2, negsuc 0) ∷ []) c

entry-size : (c : ℕ) → unsigned_abs (the-entry c) ≤ 2
entry-size zero = omega arith
entry-size (suc zero) = omega arith
entry-size (suc (suc zero)) = omega arith
entry-size (suc (suc (suc c))) = let e : the-entry (suc (suc (suc c))) ≡ pos 0 = grind (arith, nat_tests) in omega (arith, ints)

module _ (basis : List ℕ) (x : ℕ) where
  unit : (m : ℤ) → IsRow (rows_of near) basis x (m ∷ []) → unsigned_abs m ≡ 1
  unit m r = r.coprime (unsigned_abs m)
      (All-cons (λ n. unsigned_abs m ∣ unsigned_abs n) m [] (dvd_refl (unsigned_abs m)) (All-nil (λ n. unsigned_abs m ∣ unsigned_abs n)))
      (λ c. subst (λ n. unsigned_abs m ∣ n) (sym (size-of-sum m (the-entry c))) (dvd-mul_right (unsigned_abs m) (unsigned_abs (the-entry c))))

  pub multipliers-small : (ms : List ℤ) → IsRow (rows_of near) basis x ms → All IsSmall ms
  multipliers-small [] r = let e : ◌≡◌ {A = ℕ} 0 1 = r.multipliers in absurd (omega arith)
  multipliers-small (m ∷ []) r = let e = unit m r in All-cons IsSmall m [] (omega arith) (All-nil IsSmall)
  multipliers-small (m ∷ n ∷ ms) r = let e : length (m ∷ n ∷ ms) ≡ 1 = r.multipliers in absurd (omega arith)

  pub entries-small : (ms : List ℤ) → IsRow (rows_of near) basis x ms → (c : ℕ) → IsSmall (combined ms (rows_of near) c)
  entries-small [] r c = let e : ◌≡◌ {A = ℕ} 0 1 = r.multipliers in absurd (omega arith)
  entries-small (m ∷ []) r c =
      let e = unit m r in
      let s = entry-size c in
      let p : unsigned_abs (m *ℤ the-entry c +ℤ pos 0) ≡ unsigned_abs m * unsigned_abs (the-entry c) = size-of-sum m (the-entry c) in
      let q : unsigned_abs m * unsigned_abs (the-entry c) ≡ 1 * unsigned_abs (the-entry c) = ap (λ n. n * unsigned_abs (the-entry c)) e in
      omega arith
  entries-small (m ∷ n ∷ ms) r c = let e : length (m ∷ n ∷ ms) ≡ 1 = r.multipliers in absurd (omega arith)
