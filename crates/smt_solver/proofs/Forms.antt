-- What the atoms of a plain form with small numbers are to a tableau.
use Rattle.std.specs.Prelude.{ℕ, zero, suc, ◌≡◌, ◌⊎◌, ◌==◌, ◌+◌, ◌<◌, ◌≤◌, ◌^◌, Bool, true, false, cond, List, [], ◌∷◌, ◌++◌, length, slice_get, replicate, Some, All, unsigned_abs, refl}
use Rattle.std.specs.Int.{w128}
use Rattle.std.specs.List.{AllByRecursion}
use Rattle.std.proofs.Common.{sym, ◌∙◌, ap, subst, inl, inr, arith}
use Rattle.std.proofs.lemmas.Int.{ints, fits_signed_from_abs}
use Rattle.std.proofs.lemmas.List.Elements.{All-contains, recursion_from_All}
use lib.IntN.{ℤ, pos, negsuc, ◌+ℤ◌, ◌-ℤ◌, ◌*ℤ◌, neg_ℤ, +ℤ_idr}
use Rattle.kind_num.specs.Exact.{within}
use Rattle.kind_num.specs.declared.Shape.{Shape}
use Rattle.kind_num.specs.declared.Shape.TheVariants.{Number}
use Rattle.kind_num.proofs.Within.{within-fits}
use Rattle.proof_steps.specs.View.{Inequality}
use Rattle.proof_steps.specs.Rows.{Form, is_long, entry, defining_rows, columns_of}
use Rattle.proof_steps.specs.Bounds.{Bound, bound_by, bound_of_sum, bounds_from}
use Rattle.cnf_maker.specs.Plain.{IsPlain, IsPlainAtom, IsTermOf, IsSmall, IsSmallAtom}
use Rattle.int_simplex.specs.State.{places_of}
use Rattle.int_simplex.proofs.Places.{at_listed, mapped_at, same_some}
use Rattle.int_simplex.proofs.Sparse.{by_test, same_if}
use Rattle.line_laws.proofs.Bounded.{entry-negated}
use Rattle.line_laws.proofs.Differing.{Differ, none-entry}
use Rattle.line_laws.proofs.Fitting.{in-order-differ}
use Rattle.line_laws.proofs.OwnLines.{one-times}
use Rattle.smt_solver.specs.declared.numbers.meanings.Meaning.{Meaning}
use Rattle.smt_solver.specs.Asserting.{HasColumnBelow}
use Rattle.smt_solver.specs.Conflicting.{AreMeaningsOf}
use Rattle.smt_solver.specs.Near.{IsMeasured, AreMeasured}
use Rattle.smt_solver.specs.Sums.{meaning_view}
use Rattle.smt_solver.specs.Turning.{HasMeanings}
use Rattle.smt_solver.proofs.Turns.{all-of}

-- ---- numbers

small-entry : (ts : List (ℕ × ℤ)) (c : ℕ) → Differ ts → AllByRecursion (λ (t : ℕ × ℤ). unsigned_abs t.1 < 2 ^ 100) ts
    → unsigned_abs (entry ts c) < 2 ^ 100
small-entry [] c d h = omega arith
small-entry ((y, a) ∷ ts) c d h = elim (by_test (y == c)) [
  | inl e ↦
      let z : entry ts y ≡ pos 0 = none-entry y ts d.0 in
      let q : entry ((y, a) ∷ ts) c ≡ a =
      ap (λ w. cond w (a +ℤ entry ts c) (entry ts c)) e ∙ ap (λ k. a +ℤ entry ts k) (sym (same_if y c e)) ∙ ap (λ k. a +ℤ k) z ∙ +ℤ_idr a in
      subst (λ w. unsigned_abs w < 2 ^ 100) (sym q) h.0
  | inr e ↦
      subst (λ w. unsigned_abs w < 2 ^ 100) (sym (ap (λ w. cond w (a +ℤ entry ts c) (entry ts c)) e)) (small-entry ts c d.1 h.1)
]

small-within : (z : ℤ) → unsigned_abs z ≤ 2 ^ 100 → within (pos 1 *ℤ z) ≡ true
small-within z l = subst (λ y. within y ≡ true) (sym (one-times z)) (within-fits z (fits_signed_from_abs w128 z (omega arith)))

size-neg : (z : ℤ) → unsigned_abs z < 2 ^ 100 → unsigned_abs (neg_ℤ z) ≤ 2 ^ 100
size-neg (pos zero) l = omega (arith, ints)
size-neg (pos (suc n)) l = omega (arith, ints)
size-neg (negsuc n) l = omega (arith, ints)

size-opposite : (z : ℤ) → unsigned_abs z < 2 ^ 100 → unsigned_abs (negsuc 0 -ℤ z) ≤ 2 ^ 100
size-opposite (pos n) l = omega (arith, ints)
size-opposite (negsuc zero) l = omega (arith, ints)
size-opposite (negsuc (suc n)) l = omega (arith, ints)

small-meant : (shapes : List Shape) (i : Inequality) → IsPlainAtom shapes i → IsSmallAtom i → HasMeanings i
small-meant shapes i p h = record {
  as_it_stands = record {
    coefficients = λ c. small-within (entry i.terms c) (let l = size c in omega arith);
    bound = small-within i.bound (let l = h.bound in omega arith);
  };
  opposite = record {
    coefficients = λ c. subst (λ y. within (pos 1 *ℤ y) ≡ true) (sym (entry-negated i.terms c))
        (small-within (neg_ℤ (entry i.terms c)) (size-neg (entry i.terms c) (size c)));
    bound = small-within (negsuc 0 -ℤ i.bound) (size-opposite i.bound h.bound);
  };
} where
  size : (c : ℕ) → unsigned_abs (entry i.terms c) < 2 ^ 100
  size c = small-entry i.terms c (in-order-differ i.terms p.in_order)
      (recursion_from_All (λ (t : ℕ × ℤ). unsigned_abs t.1 < 2 ^ 100) i.terms h.coefficients)

-- what each atom and its opposite mean is within 128 bits
pub all-meanings : (f : Form) → IsPlain f → IsSmall f → All HasMeanings f.atoms
all-meanings f p h = all-of HasMeanings f.atoms (λ i j.
    small-meant f.shapes i (All-contains (IsPlainAtom f.shapes) f.atoms i p j) (All-contains IsSmallAtom f.atoms i h j))

pub all-measured : (f : Form) → IsPlain f → IsSmall f → AreMeasured f.atoms
all-measured f p h = all-of IsMeasured f.atoms (λ i j.
    let a = All-contains (IsPlainAtom f.shapes) f.atoms i p j in record {
      some_term = a.some_term;
      not_zero = all-of (λ (t : ℕ × ℤ). t.1 ≡ pos 0 → ⊥) i.terms (λ t k. (All-contains (IsTermOf f.shapes) i.terms t a.terms k).not_zero);
      small = All-contains IsSmallAtom f.atoms i h j;
    })

-- ---- columns

shape-below : (shapes : List Shape) (x : ℕ) → slice_get shapes x ≡ Some Number → x < length shapes
shape-below [] x e = absurd cc
shape-below (s ∷ rest) zero e = omega arith
shape-below (s ∷ rest) (suc x) e = let h = shape-below rest x e in omega arith

column-by : (x : ℕ) (a z : ℤ) (b : Bound) → bound_by x a z ≡ Some b → x ≡ b.column
column-by x (pos zero) z b e = absurd cc
column-by x (pos (suc d)) z b e = ap (λ (b : Bound). b.column) (same_some _ b e)
column-by x (negsuc d) z b e = ap (λ (b : Bound). b.column) (same_some _ b e)

column-of-sum : (shapes : List Shape) (n rows : ℕ) (ts : List (ℕ × ℤ)) (z : ℤ) (b : Bound) → AllByRecursion (IsTermOf shapes) ts
    → length shapes ≤ n → bound_of_sum n ts z ≡ Some b → (b.column < n + cond (is_long ts) (suc rows) rows) ⊎ (b.column < n)
column-of-sum shapes n rows [] z b h l e = absurd cc
column-of-sum shapes n rows (t ∷ []) z b h l e =
    let q = column-by t.0 t.1 z b e in let s = shape-below shapes t.0 h.0.number in inr (omega arith)
column-of-sum shapes n rows (t ∷ u ∷ rest) z b h l e =
    let q : n ≡ b.column = ap (λ (b : Bound). b.column) (same_some _ b e) in inl (omega arith)

column-at : (shapes : List Shape) (n : ℕ) (atoms : List Inequality) (k : ℕ) (b : Bound) → AllByRecursion (IsPlainAtom shapes) atoms
    → length shapes ≤ n → slice_get (bounds_from n atoms) k ≡ Some (Some b) → b.column < n + length (defining_rows n atoms)
column-at shapes n [] k b h l e = absurd cc
column-at shapes n (i ∷ atoms) zero b h l e =
    go (is_long i.terms) (column-of-sum shapes n 0 i.terms i.bound b
    (recursion_from_All (IsTermOf shapes) i.terms h.0.terms) l (same_some _ (Some b) e)) where
      go : (w : Bool) → (b.column < n + cond w 1 0) ⊎ (b.column < n)
          → b.column < n + length (cond w ((i.terms ++ (n, negsuc 0) ∷ []) ∷ defining_rows (n + 1) atoms) (defining_rows n atoms))
      go true (inl a) = omega arith
      go true (inr a) = omega arith
      go false (inl a) = omega arith
      go false (inr a) = omega arith
column-at shapes n (i ∷ atoms) (suc k) b h l e =
    go (is_long i.terms) e (column-at shapes (n + 1) atoms k b h.1 (omega arith)) (column-at shapes n atoms k b h.1 l) where
      go : (w : Bool) → slice_get (bounds_from (cond w (n + 1) n) atoms) k ≡ Some (Some b)
          → (slice_get (bounds_from (n + 1) atoms) k ≡ Some (Some b) → b.column < (n + 1) + length (defining_rows (n + 1) atoms))
          → (slice_get (bounds_from n atoms) k ≡ Some (Some b) → b.column < n + length (defining_rows n atoms))
          → b.column < n + length (cond w ((i.terms ++ (n, negsuc 0) ∷ []) ∷ defining_rows (n + 1) atoms) (defining_rows n atoms))
      go true e f g = let a = f e in omega arith
      go false e f g = g e

-- each meaning's column is one of the form's tableau
pub columns-below : (f : Form) (ms : List Meaning) → IsPlain f → AreMeaningsOf f ms → All (HasColumnBelow (columns_of f)) ms
columns-below f ms p h = all-of (HasColumnBelow (columns_of f)) ms (λ m j.
    let k = at_listed ms m j in
    column-at f.shapes (length f.shapes) f.atoms k.0 (meaning_view m) (recursion_from_All (IsPlainAtom f.shapes) f.atoms p) (omega arith)
    (subst (λ bs. slice_get bs k.0 ≡ Some (Some (meaning_view m))) h.bounds
    (mapped_at (λ m. Some (meaning_view m)) ms k.0 m k.1)))

-- ---- a new tableau

pub all-zero : (n c : ℕ) → places_of (replicate n (pos 0, pos 1)) c ≡ pos 0
all-zero zero c = refl
all-zero (suc n) zero = refl
all-zero (suc n) (suc c) = all-zero n c
