-- True stops of the worked queries.
use Rattle.std.specs.Prelude.{ℕ, zero, suc, ◌≡◌, ◌≢◌, ◌==◌, ◌<◌, Bool, true, false, cond, List, [], ◌∷◌, Option, Some, None, map, Contains}
use Rattle.std.proofs.Common.{sym, ap, subst, arith, refl, inl, inr}
use Rattle.std.proofs.lemmas.Int.{ints}
use Rattle.std.proofs.lemmas.List.Elements.{All-nil, All-cons}
use Rattle.std.proofs.lemmas.Bool.Decides.{nat_tests}
use lib.IntN.{ℤ, pos, negsuc, ◌+ℤ◌, ◌*ℤ◌}
use lib.Signed.{◌≤ℤ◌}
use Rattle.kind_num.specs.Exact as e
use Rattle.proof_steps.specs.declared.Literal.{Literal}
use Rattle.proof_steps.specs.declared.Literal.TheVariants.{Atom}
use Rattle.proof_steps.specs.Rows.{HasValue, AllDiffer, entry, combined, rows_of, columns_of}
use Rattle.proof_steps.specs.Bounds.{Bound, IsBound, IsGiven, HasRange, bound_of_literal}
use Rattle.proof_steps.specs.Splits.{IsStand, IsBetween, AreSplits}
use Rattle.proof_steps.specs.Pivots.{Position, Misses, CanEnter, Pivots, first_position}
use Rattle.proof_steps.specs.StopView.{pivots, past}
use Rattle.proof_steps.specs.Stopped.{IsTrueOf, Row, IsRowOf, bound_view}
use Rattle.cause_laws.specs.Small.{EachHasRange}
use Rattle.cause_laws.specs.Worked.{near, far, far_ends, large, doubled, crossing, splits_of, pivots_of}
use Rattle.cause_laws.proofs.WorkedRow.{alone-in, sum-row, sum-basis, x-row, x-basis, far-entry}

-- ---- the split of x at 0

places : ℕ → ℤ
places zero = pos 0
places (suc zero) = pos 0
places (suc (suc n)) = pos 1

value : HasValue (rows_of near) (columns_of near) (0 ∷ []) places 0 (negsuc 0 ∷ []) (pos 1) (pos 2)
unfolding places
value = record { row = x-row; positive = omega (arith, ints); denominator = refl; numerator = refl }

stands : (k : ℕ) → k ≢ 0 → combined (negsuc 0 ∷ []) (rows_of near) k ≢ pos 0 → IsStand near [] k (places k)
unfolding places
stands zero n e = absurd (n refl)
stands (suc zero) n e = inl refl
stands (suc (suc zero)) n e = inr (inl (true, (Atom 1 true, refl)))
stands (suc (suc (suc k))) n e = absurd (e (far-entry (negsuc 0) k))

between : IsBetween near [] 0 (pos 0)
between = record {
  basis = 0 ∷ [];
  places = places;
  multipliers = negsuc 0 ∷ [];
  top = pos 1;
  bottom = pos 2;
  is_basis = x-basis;
  value = value;
  stands = stands;
  above = omega (arith, ints);
  below = omega (arith, ints);
}

-- the clauses of one literal that bound x
which : (l : Literal) → Contains near.clauses (l ∷ []) → (n : ℕ) × (n < 5) × (l ≡ Atom (suc n) true)
which l (zero, h, e) = (0, omega arith, sym (same (Atom 1 true) l e)) where
  same : (k l : Literal) → k ∷ [] ≡ l ∷ [] → k ≡ l
  same k l e = cc
which l (suc zero, h, e) = (1, omega arith, sym (same (Atom 2 true) l e)) where
  same : (k l : Literal) → k ∷ [] ≡ l ∷ [] → k ≡ l
  same k l e = cc
which l (suc (suc zero), h, e) = (2, omega arith, sym (same (Atom 3 true) l e)) where
  same : (k l : Literal) → k ∷ [] ≡ l ∷ [] → k ≡ l
  same k l e = cc
which l (suc (suc (suc zero)), h, e) = (3, omega arith, sym (same (Atom 4 true) l e)) where
  same : (k l : Literal) → k ∷ [] ≡ l ∷ [] → k ≡ l
  same k l e = cc
which l (suc (suc (suc (suc zero))), h, e) = (4, omega arith, sym (same (Atom 5 true) l e)) where
  same : (k l : Literal) → k ∷ [] ≡ l ∷ [] → k ≡ l
  same k l e = cc
which l (suc (suc (suc (suc (suc k)))), h, e) = absurd (omega arith)

column-of : Option Bound → ℕ
column-of None = 9
column-of (Some b) = b.column

upper-of : Option Bound → Bool
upper-of None = true
upper-of (Some b) = b.upper

limit-of : Option Bound → ℤ
limit-of None = pos 0
limit-of (Some b) = b.limit

true-false : true ≡ false → ⊥
true-false e = absurd cc

differ : (m n : ℕ) → m ≢ n → m ≡ n → ⊥
differ m n k e = k e

lower-at : (n : ℕ) → n < 5 → (z : ℤ) → bound_of_literal near [] (Atom (suc n) true) ≡ Some record { column = 0; upper = false; limit = z } → pos 0 ≡ z
unfolding upper-of column-of limit-of
lower-at zero h z e = absurd (true-false (ap upper-of e))
lower-at (suc zero) h z e = ap limit-of e
lower-at (suc (suc zero)) h z e = absurd (true-false (ap upper-of e))
lower-at (suc (suc (suc zero))) h z e = let q : ◌≡◌ {A = ℕ} 1 0 = ap column-of e in absurd (omega arith)
lower-at (suc (suc (suc (suc zero)))) h z e = absurd (true-false (ap upper-of e))
lower-at (suc (suc (suc (suc (suc n))))) h z e = absurd (omega arith)

upper-at : (n : ℕ) → n < 5 → (z : ℤ) → bound_of_literal near [] (Atom (suc n) true) ≡ Some record { column = 0; upper = true; limit = z } → pos 1 ≡ z
unfolding upper-of column-of limit-of
upper-at zero h z e = let q : ◌≡◌ {A = ℕ} 2 0 = ap column-of e in absurd (omega arith)
upper-at (suc zero) h z e = absurd (true-false (sym (ap upper-of e)))
upper-at (suc (suc zero)) h z e = ap limit-of e
upper-at (suc (suc (suc zero))) h z e = absurd (true-false (sym (ap upper-of e)))
upper-at (suc (suc (suc (suc zero)))) h z e = let q : ◌≡◌ {A = ℕ} 1 0 = ap column-of e in absurd (omega arith)
upper-at (suc (suc (suc (suc (suc n))))) h z e = absurd (omega arith)

from-0 : (z : ℤ) → IsGiven near record { column = 0; upper = false; limit = z } → pos 0 ≡ z
from-0 z (l, c, e) =
    let w = which l c in
    lower-at w.0 w.1 z (subst (λ k. bound_of_literal near [] k ≡ Some record { column = 0; upper = false; limit = z }) w.2 e)

to-1 : (z : ℤ) → IsGiven near record { column = 0; upper = true; limit = z } → pos 1 ≡ z
to-1 z (l, c, e) =
    let w = which l c in
    upper-at w.0 w.1 z (subst (λ k. bound_of_literal near [] k ≡ Some record { column = 0; upper = true; limit = z }) w.2 e)

inside : (low high : ℤ) → HasRange near 0 low high → (low ≤ℤ pos 0) × ((pos 0 +ℤ pos 1) ≤ℤ high)
inside low high r =
    let a : pos 0 ≡ low = from-0 low r.from_low in
    let b : pos 1 ≡ high = to-1 high r.to_high in
    (omega (arith, ints), omega (arith, ints))

pub one-split : AreSplits near ((0, pos 0) ∷ [])
one-split = (record { number = refl; fresh = λ (k, h, e). absurd (omega arith); between = between; inside = inside }, tt)

-- ---- a pivot where bounds cross

abbrev here : Position
here = first_position crossing

abbrev next : Position
next = record { basis = 0 ∷ []; places = λ c. cond (c == 2) (pos 2) (here.places c) }

sum-misses : Misses (rows_of near) (columns_of near) crossing.bounds here 2 false (pos 2) (pos 1 ∷ [])
sum-misses = record {
  top = pos 0;
  bottom = pos 1;
  bounded = refl;
  value = record { row = sum-row; positive = omega (arith, ints); denominator = refl; numerator = refl };
  past = omega (arith, ints);
}

none-least : (y : ℕ) (b : Bool) (z : ℤ) (ms : List ℤ) → y < 2 → ¬ Misses (rows_of near) (columns_of near) crossing.bounds here y b z ms
none-least y b z ms l m = let q : 2 ≡ y = alone-in 2 y m.value.row.in_basis in omega arith

not-x : ¬ Contains {X = ℕ} (2 ∷ []) 0
not-x c = let q : ◌≡◌ {A = ℕ} 2 0 = alone-in 2 0 c in absurd (omega arith)

x-enters : CanEnter (rows_of near) (columns_of near) crossing.bounds here false (pos 1 ∷ []) 0
x-enters = record { in_range = omega arith; outside = not-x; room = inl (omega (arith, ints), tt) }

stays : (c : ℕ) → c ≢ 2 → next.places c ≡ here.places c
stays c n = ap (λ b. cond b (pos 2) (here.places c)) (no-number c n) where
  no-number : (c : ℕ) → c ≢ 2 → (c == 2) ≡ false
  no-number c n = grind (arith, nat_tests)

pivot : Pivots (rows_of near) (columns_of near) crossing.bounds here next
pivot = record {
  leaving = 2;
  side = false;
  limit = pos 2;
  multipliers = pos 1 ∷ [];
  entering = 0;
  misses = sum-misses;
  least_leaving = none-least;
  enters = x-enters;
  least_entering = λ c l. absurd (omega arith);
  basis = refl;
  left = refl;
  others = stays;
}

listed : (c : ℕ) → c < columns_of near → (¬ Contains (2 ∷ []) c) → Contains (0 ∷ 1 ∷ []) c
listed zero h n = (0, omega arith, refl)
listed (suc zero) h n = (1, omega arith, refl)
listed (suc (suc zero)) h n = absurd (n (0, omega arith, refl))
listed (suc (suc (suc c))) h n = absurd (omega arith)

only-listed : (c : ℕ) → Contains (0 ∷ 1 ∷ []) c → (c < columns_of near) × (¬ Contains (2 ∷ []) c)
only-listed c (zero, h, e) = (omega arith, λ t. let q : 2 ≡ c = alone-in 2 c t in omega arith)
only-listed c (suc zero, h, e) = (omega arith, λ t. let q : 2 ≡ c = alone-in 2 c t in omega arith)
only-listed c (suc (suc k), h, e) = absurd (omega arith)

one-alone : ¬ Contains {X = ℕ} (1 ∷ []) 0
one-alone c = let q : ◌≡◌ {A = ℕ} 1 0 = alone-in 1 0 c in absurd (omega arith)

abbrev is-bound : ℕ × Bool × ℤ → Type 0
is-bound b = IsBound near [] (bound_view b)

pub crossing-pivots : IsTrueOf near (pivots_of 0) (pivots crossing [])
crossing-pivots = (
  tt,
  refl,
  record {
    is_basis = sum-basis;
    bounds = All-cons is-bound (2, true, pos 1) ((2, false, pos 2) ∷ []) (Atom 1 true, refl)
        (All-cons is-bound (2, false, pos 2) [] (Atom 1 false, refl) (All-nil is-bound));
    places = record {
      different = (one-alone, ((λ (k, h, e). absurd (omega arith)), tt));
      all = listed;
      alone = only-listed;
    };
    more = (next, pivot, tt);
  },
)

-- ---- a number outside 128 bits

abbrev row : Row
row = record { entries = (0, pos 2) ∷ (1, negsuc 1) ∷ (2, negsuc 0) ∷ []; multipliers = pos 1 ∷ [] }

columns-differ : AllDiffer (map (λ (t : ℕ × ℤ). t.0) row.entries)
columns-differ = (not-zero, (not-one, ((λ (k, h, e). absurd (omega arith)), tt))) where
  not-zero : Contains {X = ℕ} (1 ∷ 2 ∷ []) 0 → ⊥
  not-zero (zero, h, e) = let w : ◌≡◌ {A = ℕ} 1 0 = e in absurd (omega arith)
  not-zero (suc zero, h, e) = let w : ◌≡◌ {A = ℕ} 2 0 = e in absurd (omega arith)
  not-zero (suc (suc k), h, e) = absurd (omega arith)

  not-one : Contains {X = ℕ} (2 ∷ []) 1 → ⊥
  not-one (zero, h, e) = let w : ◌≡◌ {A = ℕ} 2 1 = e in absurd (omega arith)
  not-one (suc k, h, e) = absurd (omega arith)

is-row : IsRowOf (rows_of far) (columns_of far) row
is-row = (columns-differ, 2 ∷ [], 2, sum-basis, sum-row, same) where
  once : (z : ℤ) → z ≡ (pos 1 *ℤ z) +ℤ pos 0
  once z = omega (arith, ints)

  same : (c : ℕ) → entry row.entries c ≡ combined (pos 1 ∷ []) (rows_of far) c
  same c = once (entry row.entries c)

pub far-past : IsTrueOf far (splits_of 0) (past doubled [])
unfolding e.within
far-past = (
  tt,
  record {
    rows = row ∷ [];
    kept = refl;
    are_rows = All-cons (IsRowOf (rows_of far) (columns_of far)) row [] is-row (All-nil (IsRowOf (rows_of far) (columns_of far)));
    place = 0;
    row = row;
    is_row = refl;
    operands = (
      record { place = 0; number = pos 2; factor = large; negative = false },
      record { of_row = refl; by_factor = inr (inr (inl (x-at-least, (Atom 2 true, refl), refl))) },
      inl (refl, refl),
    );
    outside = refl;
  },
)
  where
    x-at-least : Bound
    x-at-least = record { column = 0; upper = false; limit = large }

pub far-ranges : EachHasRange far far_ends far_ends
far-ranges zero e = record {
  from_low = (Atom 2 true, (1, omega arith, refl), refl);
  to_high = (Atom 3 true, (2, omega arith, refl), refl);
}
far-ranges (suc zero) e = record {
  from_low = (Atom 4 true, (3, omega arith, refl), refl);
  to_high = (Atom 5 true, (4, omega arith, refl), refl);
}
far-ranges (suc (suc x)) e = absurd cc
