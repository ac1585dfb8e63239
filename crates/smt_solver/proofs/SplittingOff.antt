-- A run with the atom of a split.
use Rattle.std.specs.Prelude.{ℕ, ◌≡◌, ◌+◌, ◌≤◌, ◌^◌, true, cond, List, [], ◌∷◌, ◌++◌, length, map, Option, Some, Result, Ok, Err, OnOk, unsigned_abs, refl}
use Rattle.std.specs.Int.{w128}
use Rattle.std.proofs.Common.{sym, ◌∙◌, ap, arith}
use Rattle.std.proofs.lemmas.Int.{ints, fits_signed_from_abs}
use Rattle.std.proofs.lemmas.List.{map-append}
use lib.IntN.{ℤ, pos, negsuc, ◌-ℤ◌, neg_ℤ}
use lib.Signed.{◌≤ℤ◌, ◌<ℤ◌}
use Rattle.kind_num.specs.Exact.{within}
use Rattle.kind_num.proofs.Within.{within-fits}
use Rattle.proof_steps.specs.View.{Inequality}
use Rattle.proof_steps.specs.Rows.{Form, is_long}
use Rattle.proof_steps.specs.Bounds.{Bound, bound_by, bound_of_sum, bounds_from, split_atom}
use Rattle.proof_checker.proofs.Quotients.{quotient_one}
use Rattle.smt_solver.specs.declared.numbers.meanings.Meaning.{Meaning}
use Rattle.smt_solver.specs.Conflicting.{AreMeaningsOf}
use Rattle.smt_solver.specs.Growing.{grown}
use Rattle.smt_solver.specs.Sums.{meaning_view, divisor_in}

size-near : (z : ℤ) → neg_ℤ (pos (2 ^ 126)) ≤ℤ z → z <ℤ pos (2 ^ 126) → unsigned_abs z ≤ 2 ^ 126
size-near (pos n) a b = omega (arith, ints)
size-near (negsuc n) a b = omega (arith, ints)

size-opposite : (z : ℤ) → neg_ℤ (pos (2 ^ 126)) ≤ℤ z → z <ℤ pos (2 ^ 126) → unsigned_abs (negsuc 0 -ℤ z) ≤ 2 ^ 126
size-opposite z a b = go (negsuc 0 -ℤ z) (omega (arith, ints)) (omega (arith, ints)) where
  go : (y : ℤ) → neg_ℤ (pos (2 ^ 126)) ≤ℤ y → y ≤ℤ pos (2 ^ 126) → unsigned_abs y ≤ 2 ^ 126
  go (pos n) a b = omega (arith, ints)
  go (negsuc n) a b = omega (arith, ints)

pub near-within : (z : ℤ) → neg_ℤ (pos (2 ^ 126)) ≤ℤ z → z <ℤ pos (2 ^ 126) → within z ≡ true
near-within z a b = let s = size-near z a b in within-fits z (fits_signed_from_abs w128 z (omega arith))

pub near-opposite : (z : ℤ) → neg_ℤ (pos (2 ^ 126)) ≤ℤ z → z <ℤ pos (2 ^ 126) → within (negsuc 0 -ℤ z) ≡ true
near-opposite z a b =
    let s = size-opposite z a b in within-fits (negsuc 0 -ℤ z) (fits_signed_from_abs w128 (negsuc 0 -ℤ z) (omega arith))

-- ---- what the atoms mean

bounds-behind : (m : ℕ) (atoms : List Inequality) (x : ℕ) (c : ℤ)
    → bounds_from m (atoms ++ split_atom (x, c) ∷ []) ≡ bounds_from m atoms ++ bound_by x (pos 1) c ∷ []
bounds-behind m [] x c = refl
bounds-behind m (i ∷ atoms) x c =
    ap (λ bs. bound_of_sum m i.terms i.bound ∷ bs) (bounds-behind (cond (is_long i.terms) (m + 1) m) atoms x c)

abbrev pub a_meaning : ℕ → ℤ → Meaning
a_meaning x c = record { column = x; upper = true; limit = c; divisor = pos 1 }

pub split-meanings : (f : Form) (ms : List Meaning) (x : ℕ) (c : ℤ) (m : Meaning) → AreMeaningsOf f ms
    → m ≡ a_meaning x c
    → AreMeaningsOf (grown f (split_atom (x, c) ∷ [])) (ms ++ m ∷ [])
split-meanings f ms x c m h e = record {
  bounds = map-append (λ m. Some (meaning_view m)) ms (m ∷ [])
      ∙ ap (λ bs. bs ++ Some (meaning_view m) ∷ []) h.bounds
      ∙ ap (λ (k : Meaning). bounds_from (length f.shapes) f.atoms ++ Some (meaning_view k) ∷ []) e
      ∙ ap (λ z. bounds_from (length f.shapes) f.atoms ++ a_bound z ∷ []) (sym (quotient_one c (pos 1) refl))
      ∙ sym (bounds-behind (length f.shapes) f.atoms x c);
  divisors = map-append (λ (m : Meaning). m.divisor) ms (m ∷ [])
      ∙ ap (λ (ds : List ℤ). ds ++ m.divisor ∷ []) h.divisors
      ∙ ap (λ (k : Meaning). map divisor_in f.atoms ++ k.divisor ∷ []) e
      ∙ sym (map-append divisor_in f.atoms (split_atom (x, c) ∷ []));
} where
  a_bound : ℤ → Option Bound
  a_bound z = Some record { column = x; upper = true; limit = z }

-- ---- a call's clauses together

pub four : {X E : Type 0} (P Q R S U : Type 0) (r : Result X E) → (P → Q → R → S → U) → OnOk r P → OnOk r Q → OnOk r R → OnOk r S
    → OnOk r U
four P Q R S U (Ok x) f p q r s = f p q r s
four P Q R S U (Err e) f p q r s = p
