-- A line is the combination of its parts, divided and rounded down.
use Rattle.std.specs.Prelude.{ℕ, zero, suc, ◌≡◌, List, [], ◌∷◌}
use Rattle.std.proofs.Common.{sym, ◌∙◌, ap, arith}
use Rattle.std.proofs.lemmas.Int.{ints}
use Rattle.std.specs.Int.{int_div_euclid}
use lib.IntN.{ℤ, pos, negsuc, ◌+ℤ◌, ◌*ℤ◌, +ℤ_idl}
use lib.Signed.{lt_z}
use Rattle.kind_num.specs.Exact.{within}
use Rattle.proof_steps.specs.declared.Literal.{Literal}
use Rattle.proof_steps.specs.declared.Source.{Source}
use Rattle.proof_steps.specs.View.{Inequality, Sum}
use Rattle.proof_steps.specs.Meaning.{sum_of}
use Rattle.proof_checker.specs.Theory.{value, past, stopped, add_terms, bound_after, add_part, add_from, add_parts, of_source, divides, quotients, divided, of_sum}
use Rattle.proof_checker.specs.Rules.{combination, taken}
use Rattle.proof_checker.proofs.TheorySound.{then-value, kept-value, went-value, sum-add, sum-quotients}

abbrev bound_of : Inequality → ℤ
bound_of i = i.bound

-- what one part adds to the sum and to the bound
record Adds (v : ℕ → ℤ) (sum r : Inequality) (terms bound : ℤ) : Type 0 where
  terms_is : sum_of v r.terms ≡ sum_of v sum.terms +ℤ terms
  bound_is : r.bound ≡ sum.bound +ℤ bound

part-adds : (v : ℕ → ℤ) (sum : Inequality) (m : ℤ) (i r : Inequality) → add_part sum m i ≡ value r
    → Adds v sum r (m *ℤ sum_of v i.terms) (m *ℤ i.bound)
part-adds v sum m i r e = then-value (add_terms sum.terms m i.terms) _ r e (λ ts f g.
    then-value (bound_after sum.bound m i.bound) _ r g (λ b k q.
    kept-value (within (m *ℤ i.bound)) _ b k (λ _ k1. kept-value (within (sum.bound +ℤ m *ℤ i.bound)) _ b k1 (λ _ k2.
    let w : sum.bound +ℤ m *ℤ i.bound ≡ b = cc in
    let t : ts ≡ r.terms = ap (λ o. elim o [ value x ↦ x.terms | past ↦ [] | stopped ↦ [] ]) q in
    let c : b ≡ r.bound = ap (λ o. elim o [ value x ↦ x.bound | past ↦ pos 0 | stopped ↦ pos 0 ]) q in
    record {
      terms_is = ap (sum_of v) (sym t) ∙ sum-add v sum.terms m i.terms ts f;
      bound_is = sym c ∙ sym w;
    }))))

module _ (atoms : List Inequality) (clause : List Literal) (lines : List Inequality) where
  parts-add : (v : ℕ → ℤ) (sum : Inequality) (ps : List (ℤ × Source)) (r : Inequality) → add_parts atoms clause lines sum ps ≡ value r
      → Adds v sum r (combination atoms clause lines (λ i. sum_of v i.terms) ps) (combination atoms clause lines bound_of ps)
  parts-add v sum [] r e = let q : sum ≡ r = cc in record {
    terms_is = let t : sum_of v sum.terms ≡ sum_of v r.terms = ap (λ x. sum_of v x.terms) q in omega (arith, ints);
    bound_is = let t : sum.bound ≡ r.bound = ap bound_of q in omega (arith, ints);
  }
  parts-add v sum ((m, s) ∷ rest) r e = then-value (add_from atoms clause lines sum (m, s)) _ r e (λ t f g.
      then-value (of_source atoms clause lines s) _ t f (λ i p q.
      let a = part-adds v sum m i t q in
      let b = parts-add v t rest r g in
      let x : taken (λ i. sum_of v i.terms) m (of_source atoms clause lines s) ≡ m *ℤ sum_of v i.terms = ap (taken (λ i. sum_of v i.terms) m) p in
      let y : taken bound_of m (of_source atoms clause lines s) ≡ m *ℤ i.bound = ap (taken bound_of m) p in
      let at = a.terms_is in let ab = a.bound_is in let bt = b.terms_is in let bb = b.bound_is in
      record { terms_is = omega (arith, ints); bound_is = omega (arith, ints) }))

  zero-plus : (v : ℕ → ℤ) (r : Inequality) (x y : ℤ) → Adds v (record { terms = []; bound = pos 0 }) r x y → (sum_of v r.terms ≡ x) × (r.bound ≡ y)
  zero-plus v r x y a = (a.terms_is ∙ +ℤ_idl x, a.bound_is ∙ +ℤ_idl y)

  divided-is : (v : ℕ → ℤ) (d : ℤ) (i r : Inequality) → divided d i ≡ value r
      → (d *ℤ sum_of v r.terms ≡ sum_of v i.terms) × (r.bound ≡ int_div_euclid i.bound d)
  divided-is v (negsuc n) i r e = absurd cc
  divided-is v (pos zero) i r e = absurd cc
  divided-is v (pos (suc n)) i r e = went-value (lt_z (pos 0) (pos (suc n))) _ r e (λ _ e1. went-value (divides (pos (suc n)) i.terms) _ r e1 (λ d e2.
      let q : record { terms = quotients (pos (suc n)) i.terms; bound = int_div_euclid i.bound (pos (suc n)) } ≡ r = cc in
      (ap (λ x. pos (suc n) *ℤ sum_of v x.terms) (sym q) ∙ sum-quotients v n i.terms d, ap bound_of (sym q))))

  -- the divisor times the line is the combination, and the bound is that of it, rounded down
  pub line_is : (v : ℕ → ℤ) (t : Sum) (r : Inequality) → of_sum atoms clause lines t ≡ value r
      → (t.divisor *ℤ sum_of v r.terms ≡ combination atoms clause lines (λ i. sum_of v i.terms) t.parts)
      × (r.bound ≡ int_div_euclid (combination atoms clause lines bound_of t.parts) t.divisor)
  line_is v t r e = then-value (add_parts atoms clause lines (record { terms = []; bound = pos 0 }) t.parts) _ r e (λ i f g.
      let a = zero-plus v i _ _ (parts-add v (record { terms = []; bound = pos 0 }) t.parts i f) in
      let b = divided-is v t.divisor i r g in
      (b.0 ∙ a.0, b.1 ∙ ap (λ z. int_div_euclid z t.divisor) a.1))
