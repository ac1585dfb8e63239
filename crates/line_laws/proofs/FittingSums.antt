-- Where no product and no sum is outside 128 bits, the numbers of the step fit.
use Rattle.std.specs.Prelude.{ℕ, zero, suc, ◌≡◌, ◌==◌, ◌+◌, Bool, true, false, cond, List, [], ◌∷◌, ◌++◌, length, map, take, All, Some, slice_get, refl}
use Rattle.std.specs.List.{AllByRecursion}
use Rattle.std.proofs.Common.{sym, ◌∙◌, ap, subst}
use Rattle.std.proofs.lemmas.List.Elements.{All-nil, All-cons, All-from_recursion, recursion_from_All}
use lib.IntN.{ℤ, pos, negsuc, ◌+ℤ◌, ◌-ℤ◌, ◌*ℤ◌, neg_ℤ, +ℤ_idl, +ℤ_idr}
use Rattle.kind_num.specs.Exact.{within}
use Rattle.kind_num.proofs.Ring.{neg_times, times_neg}
use Rattle.proof_steps.specs.declared.Literal.TheVariants.{Atom}
use Rattle.proof_steps.specs.View.{Inequality}
use Rattle.proof_steps.specs.Meaning.{at, negated_term}
use Rattle.proof_steps.specs.Rows.{Form, is_long, entry}
use Rattle.proof_steps.specs.Bounds.{Bound, bound_of_literal, bound_of_sum, bound_by, bounds_from, bound_if}
use Rattle.int_simplex.specs.Farkas.{turned}
use Rattle.line_laws.specs.Lines.{Part, IsPart, meant, said, divided_by, coefficient_in, right_side}
use Rattle.line_laws.specs.Steps.{HasProducts, OperationsFit, RefuteEachOther}
use Rattle.line_laws.specs.PastSteps.{number_of, factor_in, products_of, limit_products, sum_in, SumFits}
use Rattle.line_laws.proofs.Bounded.{entry-negated}
use Rattle.line_laws.proofs.Limited.{same_right_side}

some-is : (a b : Bound) → Some a ≡ Some b → a ≡ b
some-is a b e = cc

turned-times : (u : Bool) (m x : ℤ) → turned u m *ℤ x ≡ m *ℤ turned u x
turned-times true m x = refl
turned-times false m x = neg_times m x ∙ sym (times_neg m x)

-- what a literal says of a variable is its factor on the bound's side
abbrev Claim : ℕ → Inequality → Bool → Bound → Type 0
Claim c i sign b = turned b.upper (factor_in i.terms c) ≡ entry (said sign i).terms c

one-here : (w : Bool) → cond w (pos 1) (pos 0) ≡ cond w (pos 1 +ℤ pos 0) (pos 0)
one-here true = refl
one-here false = refl

less-here : (w : Bool) → neg_ℤ (cond w (pos 1) (pos 0)) ≡ cond w (negsuc 0 +ℤ pos 0) (pos 0)
less-here true = refl
less-here false = refl

single : (c x : ℕ) (a z : ℤ) (sign : Bool) (b : Bound) → bound_if sign (Some (bound_by x a z)) ≡ Some b
    → Claim c record { terms = (x, a) ∷ []; bound = z } sign b
single c x (pos zero) z true b e = absurd cc
single c x (pos zero) z false b e = absurd cc
single c x (pos (suc d)) z true b e =
    subst (λ (y : Bound). turned y.upper (cond (x == c) (pos 1) (pos 0)) ≡ entry ((x, pos 1) ∷ []) c) (some-is _ b e) (one-here (x == c))
single c x (negsuc d) z true b e =
    subst (λ (y : Bound). turned y.upper (cond (x == c) (pos 1) (pos 0)) ≡ entry ((x, negsuc 0) ∷ []) c) (some-is _ b e) (less-here (x == c))
single c x (pos (suc d)) z false b e =
    subst (λ y. turned b.upper (cond (x == c) (pos 1) (pos 0)) ≡ entry (divided_by x y (negsuc 0 -ℤ z)).terms c) (sym (+ℤ_idl (negsuc d)))
    (subst (λ (y : Bound). turned y.upper (cond (x == c) (pos 1) (pos 0)) ≡ entry ((x, negsuc 0) ∷ []) c) (some-is _ b e) (less-here (x == c)))
single c x (negsuc d) z false b e =
    subst (λ y. turned b.upper (cond (x == c) (pos 1) (pos 0)) ≡ entry (divided_by x y (negsuc 0 -ℤ z)).terms c) (sym (+ℤ_idl (pos (suc d))))
    (subst (λ (y : Bound). turned y.upper (cond (x == c) (pos 1) (pos 0)) ≡ entry ((x, pos 1) ∷ []) c) (some-is _ b e) (one-here (x == c)))

first : (c m : ℕ) (terms : List (ℕ × ℤ)) (z : ℤ) (sign : Bool) (b : Bound)
    → bound_if sign (Some (bound_of_sum m terms z)) ≡ Some b → Claim c record { terms = terms; bound = z } sign b
first c m [] z true b e = absurd cc
first c m [] z false b e = absurd cc
first c m ((x, y) ∷ []) z sign b e = single c x y z sign b e
first c m (t ∷ u ∷ ts) z true b e =
    subst (λ (y : Bound). turned y.upper (entry (t ∷ u ∷ ts) c) ≡ entry (t ∷ u ∷ ts) c) (some-is _ b e) refl
first c m (t ∷ u ∷ ts) z false b e =
    subst (λ (y : Bound). turned y.upper (entry (t ∷ u ∷ ts) c) ≡ entry (map negated_term (t ∷ u ∷ ts)) c) (some-is _ b e)
    (sym (entry-negated (t ∷ u ∷ ts) c))

claims : (c m : ℕ) (atoms : List Inequality) (j : ℕ) (i : Inequality) (sign : Bool) (b : Bound) → slice_get atoms j ≡ Some i
    → bound_if sign (slice_get (bounds_from m atoms) j) ≡ Some b → Claim c i sign b
claims c m [] j i sign b s e = absurd cc
claims c m (k ∷ rest) zero i sign b s e = subst (λ w. Claim c w sign b) (is k i s) (first c m k.terms k.bound sign b e) where
  is : (k i : Inequality) → Some k ≡ Some i → k ≡ i
  is k i e = cc
claims c m (k ∷ rest) (suc j) i sign b s e = claims c (cond (is_long k.terms) (m + 1) m) rest j i sign b s e

append-nil : (xs : List Inequality) → xs ++ [] ≡ xs
append-nil [] = refl
append-nil (x ∷ xs) = ap (λ ys. x ∷ ys) (append-nil xs)

module _ (g : Form) where
  part-claim : (c : ℕ) (p : Part) → IsPart g p → turned p.bound.upper (factor_in p.atom.terms c) ≡ entry (said p.sign p.atom).terms c
  part-claim c p h = go p.bound.literal h.named h.means where
    go : (n : ℕ) → at g.atoms n ≡ Some p.atom → bound_of_literal g [] (Atom n p.sign)
        ≡ Some record { column = p.bound.column; upper = p.bound.upper; limit = p.bound.limit }
        → turned p.bound.upper (factor_in p.atom.terms c) ≡ entry (said p.sign p.atom).terms c
    go zero e f = absurd cc
    go (suc j) e f =
        claims c (length g.shapes) g.atoms j p.atom p.sign record { column = p.bound.column; upper = p.bound.upper; limit = p.bound.limit } e
        (ap (λ xs. bound_if p.sign (slice_get (bounds_from (length g.shapes) xs) j)) (sym (append-nil g.atoms)) ∙ f)

  pub product-same : (c : ℕ) (p : Part) → IsPart g p
      → number_of p *ℤ factor_in p.atom.terms c ≡ p.multiplier *ℤ entry (said p.sign p.atom).terms c
  product-same c p h = turned-times p.bound.upper p.multiplier (factor_in p.atom.terms c) ∙ ap (λ z. p.multiplier *ℤ z) (part-claim c p h)

  pub limit-same : (p : Part) → IsPart g p → number_of p *ℤ p.bound.limit ≡ p.multiplier *ℤ (said p.sign p.atom).bound
  limit-same p h =
      let s = same_right_side g (p ∷ []) (All-cons (IsPart g) p [] h (All-nil (IsPart g))) in
      turned-times p.bound.upper p.multiplier p.bound.limit
      ∙ sym (sym (+ℤ_idr (p.multiplier *ℤ (said p.sign p.atom).bound)) ∙ s ∙ +ℤ_idr (p.multiplier *ℤ turned p.bound.upper p.bound.limit))

  pub sums-same : (k c : ℕ) (parts : List Part) → AllByRecursion (IsPart g) parts
      → sum_in (take k (products_of c parts)) ≡ coefficient_in (take k parts) c
  sums-same zero c parts a = refl
  sums-same (suc k) c [] a = refl
  sums-same (suc k) c (p ∷ rest) a =
      ap (λ z. z +ℤ sum_in (take k (products_of c rest))) (product-same c p a.0)
      ∙ ap (λ z. (p.multiplier *ℤ entry (said p.sign p.atom).terms c) +ℤ z) (sums-same k c rest a.1)

  pub rights-same : (k : ℕ) (parts : List Part) → AllByRecursion (IsPart g) parts
      → sum_in (take k (limit_products parts)) ≡ right_side (take k parts)
  rights-same zero parts a = refl
  rights-same (suc k) [] a = refl
  rights-same (suc k) (p ∷ rest) a =
      ap (λ z. z +ℤ sum_in (take k (limit_products rest))) (limit-same p a.0)
      ∙ ap (λ z. (p.multiplier *ℤ (said p.sign p.atom).bound) +ℤ z) (rights-same k rest a.1)

  products : (parts : List Part) → AllByRecursion (IsPart g) parts
      → ((c k : ℕ) (q : ℤ × ℤ) → slice_get (products_of c parts) k ≡ Some q → within (q.0 *ℤ q.1) ≡ true)
      → ((k : ℕ) (q : ℤ × ℤ) → slice_get (limit_products parts) k ≡ Some q → within (q.0 *ℤ q.1) ≡ true)
      → AllByRecursion (λ (p : Part). HasProducts p.multiplier (said p.sign p.atom)) parts
  products [] a f l = tt
  products (p ∷ rest) a f l = (
    record {
      coefficients = λ c. subst (λ z. within z ≡ true) (product-same c p a.0) (f c 0 (number_of p, factor_in p.atom.terms c) refl);
      bound = subst (λ z. within z ≡ true) (limit-same p a.0) (l 0 (number_of p, p.bound.limit) refl);
    },
    products rest a.1 (λ c k q e. f c (suc k) q e) (λ k q e. l (suc k) q e),
  )

  pub sums_fit : (parts : List Part) → RefuteEachOther g parts
      → All (λ (p : Part). HasProducts (pos 1) (meant p.sign p.atom)) parts
      → ((c : ℕ) → SumFits (products_of c parts)) → SumFits (limit_products parts) → OperationsFit parts
  sums_fit parts h m f l =
      let a = recursion_from_All (IsPart g) parts h.are_parts in record {
        meanings = m;
        products = All-from_recursion (λ (p : Part). HasProducts p.multiplier (said p.sign p.atom)) parts
            (products parts a (λ c k q e. (f c).each k q e) (λ k q e. l.each k q e));
        sums = λ k c. subst (λ z. within z ≡ true) (sums-same k c parts a) ((f c).sums k);
        right_sides = λ k. subst (λ z. within z ≡ true) (rights-same k parts a) (l.sums k);
      }
