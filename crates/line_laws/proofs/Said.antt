-- A literal of an atom is true exactly where its bound is met.
use Rattle.std.specs.Prelude.{ℕ, zero, suc, ◌≡◌, ◌+◌, ◌↔◌, Bool, true, false, cond, List, [], ◌∷◌, ◌++◌, length, Some, slice_get, refl}
use Rattle.std.specs.Int.{int_div_euclid}
use Rattle.std.specs.List.{AllByRecursion}
use Rattle.std.proofs.Common.{sym, ◌∙◌, ap, subst, arith}
use Rattle.std.proofs.lemmas.Int.{ints}
use Rattle.std.proofs.lemmas.List.Elements.{recursion_from_All}
use lib.IntN.{ℤ, pos, negsuc, ◌+ℤ◌, ◌-ℤ◌, ◌*ℤ◌, neg_ℤ, *ℤ-one, *ℤ_comm}
use lib.Signed.{le_z, ◌≤ℤ◌}
use Rattle.kind_num.proofs.Ring.{neg_times, times_neg, times_le, round_down}
use Rattle.kind_num.proofs.Quotients.{floor_is}
use Rattle.proof_steps.specs.declared.Literal.TheVariants.{Atom}
use Rattle.proof_steps.specs.View.{Inequality}
use Rattle.proof_steps.specs.Meaning.{Values, at, sum_of, inequality_true, as_said, atom_true, literal_true}
use Rattle.proof_steps.specs.Rows.{Form, is_long, defining_rows, rows_of}
use Rattle.proof_steps.specs.Bounds.{Bound, opposite_bound, bound_of_literal, bound_of_sum, bound_by, bounds_from, bound_if}
use Rattle.line_laws.specs.Lines.{AreOnRows, Inside, IsInside}

abbrev Same : Bool → Type 0 → Type 0
Same b P = (b ≡ true) ↔ P

some-is : (a b : Bound) → Some a ≡ Some b → a ≡ b
some-is a b e = cc

le-yes : (a b : ℤ) → le_z a b ≡ true → a ≤ℤ b
le-yes a b h = grind (arith, ints)

yes-le : (a b : ℤ) → a ≤ℤ b → le_z a b ≡ true
yes-le a b h = grind (arith, ints)

below : (a b : ℤ) → Same (le_z a b) (a ≤ℤ b)
below a b = (le-yes a b, yes-le a b)

-- what is not met ends one further, on the other side
past-it : (b : Bool) (x : ℕ) (side : Bool) (z limit : ℤ) → Same b (Inside side z limit)
    → Same (as_said false b) (Inside (opposite_bound record { column = x; upper = side; limit = limit }).upper z
    (opposite_bound record { column = x; upper = side; limit = limit }).limit)
past-it true x true z limit h = (λ e. absurd cc, λ l. let k = h.0 refl in absurd (omega (arith, ints)))
past-it true x false z limit h = (λ e. absurd cc, λ l. let k = h.0 refl in absurd (omega (arith, ints)))
past-it false x true z limit h = (λ _. over z limit (λ l. not-yes (h.1 l)), λ _. refl) where
  not-yes : false ≡ true → ⊥
  not-yes e = absurd cc

  over : (z limit : ℤ) → (z ≤ℤ limit → ⊥) → (limit +ℤ pos 1) ≤ℤ z
  over z limit n = grind (arith, ints)
past-it false x false z limit h = (λ _. under z limit (λ l. not-yes (h.1 l)), λ _. refl) where
  not-yes : false ≡ true → ⊥
  not-yes e = absurd cc

  under : (z limit : ℤ) → (limit ≤ℤ z → ⊥) → z ≤ℤ (limit -ℤ pos 1)
  under z limit n = grind (arith, ints)

one-times : (x : ℤ) → pos 1 *ℤ x ≡ x
unfolding lib.IntN.one
one-times x = *ℤ_comm (pos 1) x ∙ *ℤ-one x

module _ (v : ℕ → ℤ) where
  signed : (sign : Bool) (b : Bool) (x y : Bound) → Same b (IsInside v x) → bound_if sign (Some (Some x)) ≡ Some y
      → Same (as_said sign b) (IsInside v y)
  signed true b x y h e = subst (λ w. Same b (IsInside v w)) (some-is x y e) h
  signed false b x y h e =
      subst (λ w. Same (as_said false b) (IsInside v w)) (some-is (opposite_bound x) y e)
      (past-it b x.column x.upper (v x.column) x.limit h)

  -- of one variable: divided and rounded down
  upwards : (d : ℕ) (w z : ℤ) → Same (le_z (pos (suc d) *ℤ w +ℤ pos 0) z) (w ≤ℤ int_div_euclid z (pos (suc d)))
  upwards d w z = (
    λ e. let l = le-yes (pos (suc d) *ℤ w +ℤ pos 0) z e in
        round_down d w z (let k : (pos (suc d) *ℤ w) ≤ℤ z = omega (arith, ints) in k),
    λ l. yes-le (pos (suc d) *ℤ w +ℤ pos 0) z (
        let t : (pos (suc d) *ℤ w) ≤ℤ (pos (suc d) *ℤ int_div_euclid z (pos (suc d))) = times_le (suc d) w
        (int_div_euclid z (pos (suc d))) l in
        let f = (floor_is z (pos (suc d)) (omega (arith, ints))).at_most in omega (arith, ints)
        ),
  )

  downwards : (d : ℕ) (w z : ℤ) → Same (le_z (negsuc d *ℤ w +ℤ pos 0) z) (neg_ℤ (int_div_euclid z (pos (suc d))) ≤ℤ w)
  downwards d w z =
      let m : negsuc d *ℤ w ≡ neg_ℤ (pos (suc d) *ℤ w) = neg_times (pos (suc d)) w in
      let n : pos (suc d) *ℤ neg_ℤ w ≡ neg_ℤ (pos (suc d) *ℤ w) = times_neg (pos (suc d)) w in
      let u = upwards d (neg_ℤ w) z in
      let e : negsuc d *ℤ w ≡ pos (suc d) *ℤ neg_ℤ w = m ∙ sym n in (
        λ y. let l = u.0 (ap (λ t. le_z (t +ℤ pos 0) z) (sym e) ∙ y) in omega (arith, ints),
        λ l. ap (λ t. le_z (t +ℤ pos 0) z) e ∙ u.1 (omega (arith, ints)),
      )

  single : (x : ℕ) (a z : ℤ) (sign : Bool) (b : Bound) → bound_if sign (Some (bound_by x a z)) ≡ Some b
      → Same (as_said sign (inequality_true v record { terms = (x, a) ∷ []; bound = z })) (IsInside v b)
  single x (pos zero) z true b e = absurd cc
  single x (pos zero) z false b e = absurd cc
  single x (pos (suc d)) z sign b e =
      signed sign (le_z (pos (suc d) *ℤ v x +ℤ pos 0) z) record {
        column = x;
        upper = true;
        limit = int_div_euclid z
            (pos (suc d));
      } b (upwards d (v x) z) e
  single x (negsuc d) z sign b e =
      signed sign (le_z (negsuc d *ℤ v x +ℤ pos 0) z) record {
        column = x;
        upper = false;
        limit = neg_ℤ
            (int_div_euclid z (pos (suc d)));
      } b (downwards d (v x) z) e

  -- of more than one: the column stands at the sum
  first : (m : ℕ) (terms : List (ℕ × ℤ)) (z : ℤ) (sign : Bool) (b : Bound)
      → (is_long terms ≡ true → v m ≡ sum_of v terms)
      → bound_if sign (Some (bound_of_sum m terms z)) ≡ Some b
      → Same (as_said sign (inequality_true v record { terms = terms; bound = z })) (IsInside v b)
  first m [] z true b s e = absurd cc
  first m [] z false b s e = absurd cc
  first m ((x, a) ∷ []) z sign b s e = single x a z sign b e
  first m (t ∷ u ∷ ts) z sign b s e =
      signed sign (le_z (sum_of v (t ∷ u ∷ ts)) z) record { column = m; upper = true; limit = z } b
      (subst (λ w. Same (le_z (sum_of v (t ∷ u ∷ ts)) z) (w ≤ℤ z)) (sym (s refl)) (below (sum_of v (t ∷ u ∷ ts)) z)) e

  abbrev AreZero : List (List (ℕ × ℤ)) → Type 0
  AreZero rows = AllByRecursion (λ row. sum_of v row ≡ pos 0) rows

  row-sum : (terms : List (ℕ × ℤ)) (m : ℕ) → sum_of v (terms ++ (m, negsuc 0) ∷ []) ≡ sum_of v terms -ℤ v m
  row-sum [] m =
      let o : pos 1 *ℤ v m ≡ v m = one-times (v m) in
      let n : negsuc 0 *ℤ v m ≡ neg_ℤ (pos 1 *ℤ v m) = neg_times (pos 1) (v m) in omega (arith, ints)
  row-sum ((x, a) ∷ rest) m = let i = row-sum rest m in omega (arith, ints)

  walked : (m : ℕ) (atoms : List Inequality) (j : ℕ) (sign : Bool) (b : Bound) → AreZero (defining_rows m atoms)
      → bound_if sign (slice_get (bounds_from m atoms) j) ≡ Some b
      → Same (atom_true sign v (slice_get atoms j)) (IsInside v b)
  walked m [] j sign b a e = absurd (nothing sign e) where
    nothing : (sign : Bool) → bound_if sign (slice_get (bounds_from m []) j) ≡ Some b → ⊥
    nothing true e = absurd cc
    nothing false e = absurd cc
  walked m (k ∷ rest) zero sign b a e = first m k.terms k.bound sign b (own (is_long k.terms) a) e where
    own : (w : Bool) → AreZero (cond w ((k.terms ++ (m, negsuc 0) ∷ []) ∷ defining_rows (m + 1) rest)
        (defining_rows m rest)) → w ≡ true → v m ≡ sum_of v k.terms
    own true a e = let s = row-sum k.terms m in let z : sum_of v (k.terms ++ (m, negsuc 0) ∷ [])
        ≡ pos 0 = a.0 in omega (arith, ints)
    own false a e = absurd cc
  walked m (k ∷ rest) (suc j) sign b a e =
      go (is_long k.terms) a e (λ r f. walked (m + 1) rest j sign b r f) (λ r f. walked m rest j sign b r f) where
        go : (w : Bool) → AreZero (cond w ((k.terms ++ (m, negsuc 0) ∷ []) ∷ defining_rows (m + 1) rest)
            (defining_rows m rest))
            → bound_if sign (slice_get (bounds_from (cond w (m + 1) m) rest) j) ≡ Some b
            → (AreZero (defining_rows (m + 1) rest) → bound_if sign (slice_get (bounds_from (m + 1) rest) j)
            ≡ Some b → Same (atom_true sign v (slice_get rest j)) (IsInside v b))
            → (AreZero (defining_rows m rest) → bound_if sign (slice_get (bounds_from m rest) j) ≡ Some b
            → Same (atom_true sign v (slice_get rest j)) (IsInside v b))
            → Same (atom_true sign v (slice_get rest j)) (IsInside v b)
        go true a e p q = p a.1 e
        go false a e p q = q a e

append-nil : (xs : List Inequality) → xs ++ [] ≡ xs
append-nil [] = refl
append-nil (x ∷ xs) = ap (λ ys. x ∷ ys) (append-nil xs)

pub literal_said : (g : Form) (v : Values) (n : ℕ) (sign : Bool) (b : Bound) → AreOnRows g v.number
    → bound_of_literal g [] (Atom n sign) ≡ Some b → (literal_true g.atoms v (Atom n sign) ≡ true) ↔ IsInside v.number b
literal_said g v zero sign b a e = absurd (nothing sign e) where
  nothing : (sign : Bool) → bound_if sign (at (bounds_from (length g.shapes) (g.atoms ++ [])) 0) ≡ Some b → ⊥
  nothing true e = absurd cc
  nothing false e = absurd cc
literal_said g v (suc j) sign b a e =
    walked v.number (length g.shapes) g.atoms j sign b (recursion_from_All (λ row. sum_of v.number row ≡ pos 0)
    (rows_of g) a)
    (ap (λ xs. bound_if sign (slice_get (bounds_from (length g.shapes) xs) j)) (sym (append-nil g.atoms)) ∙ e)
