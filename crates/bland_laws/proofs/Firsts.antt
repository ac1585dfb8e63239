-- A check begins with a position from which a run can begin.
use Rattle.std.specs.Prelude.{ℕ, suc, ◌≡◌, List, Option, None, Some}
use Rattle.std.specs.Int.{int_max, int_min}
use Rattle.std.proofs.Common.{refl, arith}
use Rattle.std.proofs.lemmas.Int.{ints}
use lib.IntN.{ℤ}
use lib.Signed.{◌≤ℤ◌}
use Rattle.proof_steps.specs.StopView.{Beginning}
use Rattle.proof_steps.specs.Rows.{IsBasis, rows_of, columns_of}
use Rattle.proof_steps.specs.Pivots.{first_position, lower, upper, raised, lowered, place_of}
use Rattle.bland_laws.specs.Laws.{LeaveRoom, CanBegin, ChecksEnd, SmallBudgets}
use Rattle.bland_laws.proofs.Runs.{runs_end}

same-some : (a b : ℤ) → Some a ≡ Some b → a ≡ b
same-some a b e = cc

-- moved into the bounds, where they leave room
moved-above : (lo up : Option ℤ) (l z : ℤ) → ((u : ℤ) → up ≡ Some u → l ≤ℤ u) → lo ≡ Some l → l ≤ℤ lowered up (raised lo z)
moved-above None up l z room e = absurd cc
moved-above (Some k) None l z room e =
    let q : k ≡ l = same-some k l e in let m : k ≤ℤ int_max k z = grind (arith, ints) in omega (arith, ints)
moved-above (Some k) (Some u) l z room e =
    let q : k ≡ l = same-some k l e in
    let r : l ≤ℤ u = room u refl in
    let h : k ≤ℤ u = omega (arith, ints) in
    let m : k ≤ℤ int_min u (int_max k z) = grind (arith, ints) in
    omega (arith, ints)

moved-below : (up : Option ℤ) (u z : ℤ) → up ≡ Some u → lowered up z ≤ℤ u
moved-below None u z e = absurd cc
moved-below (Some k) u z e =
    let q : k ≡ u = same-some k u e in let m : int_min k z ≤ℤ k = grind (arith, ints) in omega (arith, ints)

pub first-begins : (given : List (List (ℕ × ℤ))) (columns : ℕ) (b : Beginning) → IsBasis given columns b.basis → LeaveRoom b.bounds
    → CanBegin given columns b.bounds (first_position b)
first-begins given columns b h room = record {
  basis = h;
  within = λ c k out. record {
    from_below = λ l e. moved-above (lower b.bounds c) (upper b.bounds c) l (place_of b.places c) (λ u f. room c l u e f) e;
    from_above = λ u e. moved-below (upper b.bounds c) u (raised (lower b.bounds c) (place_of b.places c)) e;
  };
}

pub checks_end : ChecksEnd
checks_end given columns b h room n can =
    runs_end given columns b.bounds room n (first_position b) (first-begins given columns b h room) can

pub small_budgets : SmallBudgets
small_budgets f pairs start room long = checks_end (rows_of f) (columns_of f) start long.is_basis room (suc start.pivots) long.more
