-- The right side of what a literal means is the limit of its bound.
use Rattle.std.specs.Prelude.{ℕ, zero, suc, ◌≡◌, ◌+◌, Bool, true, false, cond, List, [], ◌∷◌, ◌++◌, length, All, Some, slice_get, refl}
use Rattle.std.specs.Int.{int_div_euclid}
use Rattle.std.specs.List.{AllByRecursion}
use Rattle.std.proofs.Common.{sym, ◌∙◌, ap, subst, arith}
use Rattle.std.proofs.lemmas.Int.{ints}
use Rattle.std.proofs.lemmas.List.Elements.{recursion_from_All}
use lib.IntN.{ℤ, pos, negsuc, ◌+ℤ◌, ◌-ℤ◌, ◌*ℤ◌, neg_ℤ, *ℤ-zero, *ℤ-one, +ℤ_idl}
use lib.Signed.{◌≤ℤ◌, ◌<ℤ◌}
use Rattle.kind_num.proofs.Ring.{sum_times, times_neg, times_le}
use Rattle.kind_num.proofs.Quotients.{floor_is}
use Rattle.proof_steps.specs.declared.Literal.TheVariants.{Atom}
use Rattle.proof_steps.specs.View.{Inequality}
use Rattle.proof_steps.specs.Meaning.{at}
use Rattle.proof_steps.specs.Rows.{Form, is_long}
use Rattle.proof_steps.specs.Bounds.{Bound, bound_of_literal, bound_of_sum, bound_by, bounds_from, bound_if}
use Rattle.int_simplex.specs.Farkas.{turned, limits}
use Rattle.line_laws.specs.Lines.{Part, IsPart, said, divided_by, multipliers_of, bounds_of, right_side}

times-one : (x : ℤ) → x *ℤ pos 1 ≡ x
unfolding lib.IntN.one
times-one x = *ℤ-one x

-- t times D lies between -D and D
pub no-room : (d : ℕ) (t : ℤ) → (pos (suc d) *ℤ t) <ℤ pos (suc d) → negsuc d <ℤ (pos (suc d) *ℤ t) → t ≡ pos 0
no-room d (pos zero) a b = refl
no-room d (pos (suc k)) a b =
    let h : (pos (suc d) *ℤ pos 1) ≤ℤ (pos (suc d) *ℤ pos (suc k)) = times_le (suc d) (pos 1) (pos (suc k))
    (omega (arith, ints)) in
    let o = times-one (pos (suc d)) in absurd (omega (arith, ints))
no-room d (negsuc k) a b =
    let h : (pos (suc d) *ℤ negsuc k) ≤ℤ (pos (suc d) *ℤ negsuc 0) = times_le (suc d) (negsuc k) (negsuc 0)
    (omega (arith, ints)) in
    let n : pos (suc d) *ℤ negsuc 0 ≡ neg_ℤ (pos (suc d) *ℤ pos 1) = times_neg (pos (suc d)) (pos 1) in
    let o = times-one (pos (suc d)) in absurd (omega (arith, ints))

-- rounded down, the opposite right side is the opposite limit
pub opposite-floor : (d : ℕ) (z : ℤ) → int_div_euclid (negsuc 0 -ℤ z) (pos (suc d)) ≡ neg_ℤ
    (int_div_euclid z (pos (suc d)) +ℤ pos 1)
opposite-floor d z = close (int_div_euclid z (pos (suc d))) (int_div_euclid (negsuc 0 -ℤ z) (pos (suc d)))
    (floor_is z (pos (suc d)) (omega (arith, ints))).at_most (floor_is z (pos (suc d)) (omega (arith, ints))).greatest
    (floor_is (negsuc 0 -ℤ z) (pos (suc d)) (omega (arith, ints))).at_most
    (floor_is (negsuc 0 -ℤ z) (pos (suc d)) (omega (arith, ints))).greatest where
      close : (q p : ℤ) → (pos (suc d) *ℤ q) ≤ℤ z → z <ℤ (pos (suc d) *ℤ q +ℤ pos (suc d))
          → (pos (suc d) *ℤ p) ≤ℤ (negsuc 0 -ℤ z) → (negsuc 0 -ℤ z) <ℤ (pos (suc d) *ℤ p +ℤ pos (suc d))
          → p ≡ neg_ℤ (q +ℤ pos 1)
      close q p a b c e =
          let s : pos (suc d) *ℤ ((q +ℤ p) +ℤ pos 1) ≡ pos (suc d) *ℤ (q +ℤ p) +ℤ pos (suc d) *ℤ pos 1 = sum_times
          (pos (suc d)) (q +ℤ p) (pos 1) in
          let t : pos (suc d) *ℤ (q +ℤ p) ≡ pos (suc d) *ℤ q +ℤ pos (suc d) *ℤ p = sum_times (pos (suc d)) q p in
          let o = times-one (pos (suc d)) in
          let n : (q +ℤ p) +ℤ pos 1 ≡ pos 0 = no-room d ((q +ℤ p) +ℤ pos 1) (omega (arith, ints))
          (omega (arith, ints)) in
          omega (arith, ints)

some-is : (a b : Bound) → Some a ≡ Some b → a ≡ b
some-is a b e = cc

abbrev Side : Inequality → Bound → Type 0
Side i b = i.bound ≡ turned b.upper b.limit

single : (x : ℕ) (a z : ℤ) (sign : Bool) (b : Bound) → bound_if sign (Some (bound_by x a z)) ≡ Some b
    → Side (said sign record { terms = (x, a) ∷ []; bound = z }) b
single x (pos zero) z true b e = absurd cc
single x (pos zero) z false b e = absurd cc
single x (pos (suc d)) z true b e = subst (Side (divided_by x (pos (suc d)) z)) (some-is _ b e) refl
single x (negsuc d) z true b e = subst (Side (divided_by x (negsuc d) z)) (some-is _ b e) (omega (arith, ints))
single x (pos (suc d)) z false b e =
    subst (λ y. Side (divided_by x y (negsuc 0 -ℤ z)) b) (sym (+ℤ_idl (negsuc d)))
    (subst (Side (divided_by x (negsuc d) (negsuc 0 -ℤ z))) (some-is _ b e) (opposite-floor d z))
single x (negsuc d) z false b e =
    subst (λ y. Side (divided_by x y (negsuc 0 -ℤ z)) b) (sym (+ℤ_idl (pos (suc d))))
    (subst (Side (divided_by x (pos (suc d)) (negsuc 0 -ℤ z))) (some-is _ b e)
    (let o = opposite-floor d z in omega (arith, ints)))

first : (m : ℕ) (terms : List (ℕ × ℤ)) (z : ℤ) (sign : Bool) (b : Bound)
    → bound_if sign (Some (bound_of_sum m terms z)) ≡ Some b
    → Side (said sign record { terms = terms; bound = z }) b
first m [] z true b e = absurd cc
first m [] z false b e = absurd cc
first m ((x, y) ∷ []) z sign b e = single x y z sign b e
first m (t ∷ u ∷ ts) z true b e = subst (Side record { terms = t ∷ u ∷ ts; bound = z }) (some-is _ b e) refl
first m (t ∷ u ∷ ts) z false b e =
    subst (λ (y : Bound). negsuc 0 -ℤ z ≡ turned y.upper y.limit) (some-is _ b e) (omega (arith, ints))

side : (m : ℕ) (atoms : List Inequality) (j : ℕ) (i : Inequality) (sign : Bool) (b : Bound) → slice_get atoms j ≡ Some i
    → bound_if sign (slice_get (bounds_from m atoms) j) ≡ Some b → Side (said sign i) b
side m [] j i sign b s e = absurd cc
side m (k ∷ rest) zero i sign b s e = subst (λ w. Side (said sign w) b) (is k i s)
    (first m k.terms k.bound sign b e) where
      is : (k i : Inequality) → Some k ≡ Some i → k ≡ i
      is k i e = cc
side m (k ∷ rest) (suc j) i sign b s e = side (cond (is_long k.terms) (m + 1) m) rest j i sign b s e

append-nil : (xs : List Inequality) → xs ++ [] ≡ xs
append-nil [] = refl
append-nil (x ∷ xs) = ap (λ ys. x ∷ ys) (append-nil xs)

module _ (g : Form) where
  part-side : (p : Part) → IsPart g p → (said p.sign p.atom).bound ≡ turned p.bound.upper p.bound.limit
  part-side p h = go p.bound.literal h.named h.means where
    go : (n : ℕ) → at g.atoms n ≡ Some p.atom → bound_of_literal g [] (Atom n p.sign)
        ≡ Some record { column = p.bound.column; upper = p.bound.upper; limit = p.bound.limit }
        → (said p.sign p.atom).bound ≡ turned p.bound.upper p.bound.limit
    go zero e f = absurd cc
    go (suc j) e f =
        side (length g.shapes) g.atoms j p.atom p.sign record { column = p.bound.column; upper = p.bound.upper; limit = p.bound.limit } e
        (ap (λ xs. bound_if p.sign (slice_get (bounds_from (length g.shapes) xs) j)) (sym (append-nil g.atoms)) ∙ f)

  sides : (parts : List Part) → AllByRecursion (IsPart g) parts
      → right_side parts ≡ limits (multipliers_of parts) (bounds_of parts)
  sides [] a = refl
  sides (p ∷ rest) a =
      ap (λ z. p.multiplier *ℤ z +ℤ right_side rest) (part-side p a.0)
      ∙ ap (λ z. p.multiplier *ℤ turned p.bound.upper p.bound.limit +ℤ z) (sides rest a.1)

  pub same_right_side : (parts : List Part) → All (IsPart g) parts
      → right_side parts ≡ limits (multipliers_of parts) (bounds_of parts)
  same_right_side parts a = sides parts (recursion_from_All (IsPart g) parts a)
