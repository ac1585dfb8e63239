-- The worked query: its row, its basis and its split.
use Prim.Native.Nat.{◌∣◌}
use Rattle.std.specs.Prelude.{ℕ, zero, suc, ◌≡◌, ◌≢◌, ◌<◌, Bool, true, false, List, [], ◌∷◌, Contains, Option, Some, None, cond, ◌==◌, unsigned_abs, refl}
use Rattle.std.proofs.Common.{sym, ◌∙◌, ap, subst, arith, inl, inr}
use Rattle.std.proofs.lemmas.Int.{ints}
use Rattle.std.proofs.lemmas.List.Elements.{All-head, All-nil, All-cons}
use Rattle.std.proofs.lemmas.Nat.Gcd.{dvd_antisymm, dvd_of_mod-eq-zero}
use Rattle.std.proofs.lemmas.Bool.Decides.{nat_tests}
use lib.IntN.{ℤ, pos, negsuc}
use Rattle.proof_steps.specs.declared.Literal.TheVariants.{Atom}
use Rattle.proof_steps.specs.Rows.{IsRow, IsBasis, HasValue, combined, rows_of, columns_of}
use Rattle.proof_steps.specs.Bounds.{Bound, IsGiven, bound_of_literal}
use Rattle.proof_steps.specs.Splits.{IsStand, IsBetween, AreSplits}
use Rattle.proof_steps.specs.Bounds.{IsBound}
use Rattle.proof_steps.specs.StopView.{pivots}
use Rattle.proof_steps.specs.Pivots.{Position, Misses, CanEnter, Pivots, first_position}
use Rattle.proof_steps.specs.Stopped.{IsTrueOf, bound_view}
use Rattle.stop_rows.specs.Numbers.{halves, nothing_spent, sum_below_2}

abbrev minus : List ℤ
minus = negsuc 0 ∷ []

abbrev places : ℕ → ℤ
places zero = pos 0
places (suc zero) = pos 0
places (suc (suc n)) = pos 1

pub alone-in : {X : Type 0} (x y : X) → Contains (x ∷ []) y → x ≡ y
alone-in x y (zero, h, e) = e
alone-in x y (suc k, h, e) = absurd (omega arith)

pub one-divides : (d : ℕ) → d ∣ 1 → d ≡ 1
one-divides d h = dvd_antisymm h (dvd_of_mod-eq-zero 1 (omega arith))

is-row : IsRow (rows_of halves) (0 ∷ []) 0 minus
is-row = record {
  multipliers = refl;
  in_basis = (0, omega arith, refl);
  has_entry = λ e. absurd cc;
  alone = λ b c n. absurd (n (sym (alone-in 0 b c)));
  coprime = λ d a f. one-divides d (All-head (λ m. d ∣ unsigned_abs m) (negsuc 0) [] a);
}

is-basis : IsBasis (rows_of halves) (columns_of halves) (0 ∷ [])
is-basis = record {
  count = refl;
  different = ((λ (k, h, e). absurd (omega arith)), tt);
  in_range = All-cons (λ c. c < columns_of halves) 0 [] (omega arith) (All-nil (λ c. c < columns_of halves));
  rows = λ x c. (minus, subst (λ y. IsRow (rows_of halves) (0 ∷ []) y minus) (alone-in 0 x c) is-row);
}

value : HasValue (rows_of halves) (columns_of halves) (0 ∷ []) places 0 minus (pos 1) (pos 2)
value = record { row = is-row; positive = omega (arith, ints); denominator = refl; numerator = refl }

far-entry : (k : ℕ) → combined minus (rows_of halves) (suc (suc (suc k))) ≡ pos 0
far-entry k = grind (arith, nat_tests)

stands : (k : ℕ) → k ≢ 0 → combined minus (rows_of halves) k ≢ pos 0 → IsStand halves [] k (places k)
stands zero n e = absurd (n refl)
stands (suc zero) n e = inl refl
stands (suc (suc zero)) n e = inr (inl (true, (Atom 1 true, refl)))
stands (suc (suc (suc k))) n e = absurd (e (far-entry k))

between : IsBetween halves [] 0 (pos 0)
between = record {
  basis = 0 ∷ [];
  places = places;
  multipliers = minus;
  top = pos 1;
  bottom = pos 2;
  is_basis = is-basis;
  value = value;
  stands = stands;
  above = omega (arith, ints);
  below = omega (arith, ints);
}

abbrev column-of : Option Bound → ℕ
column-of None = 0
column-of (Some b) = b.column

two-zero : ◌≡◌ {A = ℕ} 2 0 → ⊥
two-zero w = omega arith

not-given : (side : Bool) (z : ℤ) → IsGiven halves record { column = 0; upper = side; limit = z } → ⊥
not-given side z (l, c, e) =
    let q : Atom 1 true ∷ [] ≡ l ∷ [] = alone-in (Atom 1 true ∷ []) (l ∷ []) c in
    let p : Atom 1 true ≡ l = cc in
    let w : ◌≡◌ {A = ℕ} 2 0 = ap (λ x. column-of (bound_of_literal halves [] x)) p ∙ ap column-of e in
    absurd (two-zero w)

pub halves-split : AreSplits halves ((0, pos 0) ∷ [])
halves-split = (
  record {
    number = refl;
    fresh = λ (k, h, e). absurd (omega arith);
    between = between;
    inside = λ low high r. absurd (not-given false low r.from_low);
  },
  tt,
)

abbrev pub plus : List ℤ
plus = pos 1 ∷ []

pub sum-row : IsRow (rows_of halves) (2 ∷ []) 2 plus
sum-row = record {
  multipliers = refl;
  in_basis = (0, omega arith, refl);
  has_entry = λ e. absurd cc;
  alone = λ b c n. absurd (n (sym (alone-in 2 b c)));
  coprime = λ d a f. one-divides d (All-head (λ m. d ∣ unsigned_abs m) (pos 1) [] a);
}

pub sum-basis : IsBasis (rows_of halves) (columns_of halves) (2 ∷ [])
sum-basis = record {
  count = refl;
  different = ((λ (k, h, e). absurd (omega arith)), tt);
  in_range = All-cons (λ c. c < columns_of halves) 2 [] (omega arith) (All-nil (λ c. c < columns_of halves));
  rows = λ x c. (plus, subst (λ y. IsRow (rows_of halves) (2 ∷ []) y plus) (alone-in 2 x c) sum-row);
}

abbrev bounds : List (ℕ × Bool × ℤ)
bounds = sum_below_2.bounds

abbrev here : Position
here = first_position sum_below_2

abbrev there : Position
there = record { basis = 0 ∷ []; places = λ c. cond (c == 2) (pos 2) (here.places c) }

sum-misses : Misses (rows_of halves) (columns_of halves) bounds here 2 false (pos 2) plus
sum-misses = record {
  top = pos 0;
  bottom = pos 1;
  bounded = refl;
  value = record { row = sum-row; positive = omega (arith, ints); denominator = refl; numerator = refl };
  past = omega (arith, ints);
}

none-least : (y : ℕ) (b : Bool) (z : ℤ) (ms : List ℤ) → y < 2 → ¬ Misses (rows_of halves) (columns_of halves) bounds here y b z ms
none-least y b z ms l m = let e : 2 ≡ y = alone-in 2 y m.value.row.in_basis in omega arith

x-enters : CanEnter (rows_of halves) (columns_of halves) bounds here false plus 0
x-enters = record { in_range = omega arith; outside = λ c. two-zero (alone-in 2 0 c); room = inl (omega (arith, ints), tt) }

stays : (c : ℕ) → c ≢ 2 → there.places c ≡ here.places c
stays c n = ap (λ b. cond b (pos 2) (here.places c)) (no-number c n) where
  no-number : (c : ℕ) → c ≢ 2 → (c == 2) ≡ false
  no-number c n = grind (arith, nat_tests)

pivot : Pivots (rows_of halves) (columns_of halves) bounds here there
pivot = record {
  leaving = 2;
  side = false;
  limit = pos 2;
  multipliers = plus;
  entering = 0;
  misses = sum-misses;
  least_leaving = none-least;
  enters = x-enters;
  least_entering = λ c l. absurd (omega arith);
  basis = refl;
  left = refl;
  others = stays;
}

listed : (c : ℕ) → c < columns_of halves → (¬ Contains (2 ∷ []) c) → Contains (0 ∷ 1 ∷ []) c
listed zero h n = (0, omega arith, refl)
listed (suc zero) h n = (1, omega arith, refl)
listed (suc (suc zero)) h n = absurd (n (0, omega arith, refl))
listed (suc (suc (suc c))) h n = absurd (omega arith)

only-listed : (c : ℕ) → Contains (0 ∷ 1 ∷ []) c → (c < columns_of halves) × (¬ Contains (2 ∷ []) c)
only-listed c (zero, h, e) = (omega arith, λ t. let q : 2 ≡ c = alone-in 2 c t in omega arith)
only-listed c (suc zero, h, e) = (omega arith, λ t. let q : 2 ≡ c = alone-in 2 c t in omega arith)
only-listed c (suc (suc k), h, e) = absurd (omega arith)

one-alone : ¬ Contains {X = ℕ} (1 ∷ []) 0
one-alone c = let e : ◌≡◌ {A = ℕ} 1 0 = alone-in 1 0 c in absurd (omega arith)

pub one-pivot : IsTrueOf halves nothing_spent (pivots sum_below_2 [])
one-pivot = (
  tt,
  refl,
  record {
    is_basis = sum-basis;
    bounds = All-cons (λ b. IsBound halves [] (bound_view b)) (2, false, pos 2) [] (Atom 1 false, refl) (All-nil (λ b. IsBound halves [] (bound_view b)));
    places = record {
      different = (one-alone, ((λ (k, h, e). absurd (omega arith)), tt));
      all = listed;
      alone = only-listed;
    };
    more = (there, pivot, tt);
  },
)
