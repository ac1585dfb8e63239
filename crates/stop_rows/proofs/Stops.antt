-- The rows of numbers outside 128 bits.
use Rattle.std.specs.Prelude.{ℕ, zero, suc, ◌≡◌, true, false, List, [], ◌∷◌, Contains, All, map, refl}
use Rattle.std.proofs.Common.{subst, arith, inl, inr}
use Rattle.std.proofs.lemmas.Int.{ints}
use Rattle.std.proofs.lemmas.List.Elements.{All-head, All-nil, All-cons}
use lib.IntN.{ℤ, pos, negsuc, ◌*ℤ◌, ◌+ℤ◌}
use Rattle.kind_num.specs.Exact as e
use Rattle.proof_steps.specs.declared.Literal.TheVariants.{Atom}
use Rattle.proof_steps.specs.Rows.{AllDiffer, entry, combined, rows_of, columns_of}
use Rattle.proof_steps.specs.Bounds.{Bound}
use Rattle.proof_steps.specs.StopView.{past}
use Rattle.proof_steps.specs.Stopped.{IsTrueOf, Row, IsRowOf}
use Rattle.stop_rows.specs.Numbers.{halves, nothing_spent, listed_twice, large, far_away, doubled}
use Rattle.stop_rows.proofs.Halves.{plus, sum-row, sum-basis}

abbrev columns : List (ℕ × ℤ) → List ℕ
columns = map (λ (t : ℕ × ℤ). t.0)

-- the entries of the first of some rows
first-differs : (given : List (List (ℕ × ℤ))) (n : ℕ) (rows : List Row) (entries : List (ℕ × ℤ))
    → map (λ (r : Row). r.entries) rows ≡ entries ∷ []
    → All (IsRowOf given n) rows → AllDiffer (columns entries)
first-differs given n [] entries e a = absurd cc
first-differs given n (r ∷ rest) entries e a =
    let h : r.entries ≡ entries = cc in
    subst (λ es. AllDiffer (columns es)) h (All-head (IsRowOf given n) r rest a).0

pub listed-twice : ¬ IsTrueOf halves nothing_spent (past listed_twice [])
listed-twice t =
    let d = first-differs (rows_of halves) (columns_of halves) t.1.rows (entries listed_twice.rows) t.1.kept t.1.are_rows in
    d.0 (0, omega arith, refl)
  where
    entries : List (List (ℕ × ℤ)) → List (ℕ × ℤ)
    entries [] = []
    entries (r ∷ rest) = r

abbrev row : Row
row = record { entries = (0, pos 2) ∷ (1, negsuc 1) ∷ (2, negsuc 0) ∷ []; multipliers = plus }

differ : AllDiffer (columns row.entries)
differ = (not-zero, (not-one, ((λ (k, h, e). absurd (omega arith)), tt))) where
  not-zero : Contains {X = ℕ} (1 ∷ 2 ∷ []) 0 → ⊥
  not-zero (zero, h, e) = let w : ◌≡◌ {A = ℕ} 1 0 = e in absurd (omega arith)
  not-zero (suc zero, h, e) = let w : ◌≡◌ {A = ℕ} 2 0 = e in absurd (omega arith)
  not-zero (suc (suc k), h, e) = absurd (omega arith)

  not-one : Contains {X = ℕ} (2 ∷ []) 1 → ⊥
  not-one (zero, h, e) = let w : ◌≡◌ {A = ℕ} 2 1 = e in absurd (omega arith)
  not-one (suc k, h, e) = absurd (omega arith)

is-row : IsRowOf (rows_of far_away) (columns_of far_away) row
is-row = (differ, 2 ∷ [], 2, sum-basis, sum-row, same) where
  once : (z : ℤ) → z ≡ (pos 1 *ℤ z) +ℤ pos 0
  once z = omega (arith, ints)

  same : (c : ℕ) → entry row.entries c ≡ combined plus (rows_of far_away) c
  same c = once (entry row.entries c)

pub past-bound : IsTrueOf far_away nothing_spent (past doubled [])
unfolding e.within
past-bound = (
  tt,
  record {
    rows = row ∷ [];
    kept = refl;
    are_rows = All-cons (IsRowOf (rows_of far_away) (columns_of far_away)) row [] is-row (All-nil (IsRowOf (rows_of far_away) (columns_of far_away)));
    place = 0;
    row = row;
    is_row = refl;
    operands = (
      record { place = 0; number = pos 2; factor = large; negative = false },
      record { of_row = refl; by_factor = inr (inr (inl (x-at-least, (Atom 2 true, refl), refl))) },
      inl (refl, refl),
    );
    outside = refl;
  },
)
  where
    x-at-least : Bound
    x-at-least = record { column = 0; upper = false; limit = large }
