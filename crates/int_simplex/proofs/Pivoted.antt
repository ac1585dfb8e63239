-- A pivot keeps the rows those of a basis.
use Rattle.std.specs.Prelude.{ℕ, ◌≡◌, ◌≢◌, ◌⊎◌, ◌<◌, ◌==◌, Bool, true, false, cond, List, map, length, Contains, Option, Some, None, slice_get}
use Rattle.std.specs.Option.{option_map}
use Rattle.std.proofs.lemmas.Option.{slice_get-map}
use Rattle.std.proofs.Common.{sym, ◌∙◌, ap, arith, inl, inr, get_or, refl}
use Rattle.std.proofs.lemmas.List.{length-map, get_or-map}
use Rattle.std.proofs.lemmas.Int.{ints}
use Rattle.std.proofs.lemmas.Bool.Decides.{nat_tests}
use lib.IntN.{ℤ, pos, ◌-ℤ◌, ◌*ℤ◌, *ℤ-zero}
use Rattle.proof_steps.specs.Pivots.{exchanged}
use Rattle.int_simplex.specs.Inner.{IsRowAt}
use Rattle.int_simplex.specs.Crossing.{IsCrossed}
use Rattle.int_simplex.proofs.Algebra.{product_zero, difference_swapped, difference_zero}
use Rattle.int_simplex.proofs.Combos.{crossed-combination, part-combination}

-- what is in the basis after x left and c entered
abbrev pub after : ℕ → ℕ → List ℕ → List ℕ
after x c basis = map (exchanged x c) basis

pub cases-by : (b : Bool) → (b ≡ true) ⊎ (b ≡ false)
cases-by true = inl refl
cases-by false = inr refl

pub exchanged-cases : (x c b : ℕ) → (exchanged x c b ≡ c) ⊎ ((exchanged x c b ≡ b) × (b ≢ x))
exchanged-cases x c b = elim (cases-by (b == x)) [
  | inl t ↦ inl (ap (λ w. cond w c b) t)
  | inr f ↦ inr (ap (λ w. cond w c b) f, λ e. absurd (grind (arith, nat_tests)))
]

pub after-cases : (x c : ℕ) (basis : List ℕ) (b : ℕ) → Contains (after x c basis) b → (b ≡ c) ⊎ (Contains basis b × (b ≢ x))
after-cases x c basis b (k, h, e) =
    let l : k < length basis = rw (length-map basis (exchanged x c)) at h in
    let g : get_or (map (exchanged x c) basis) k b ≡ exchanged x c (get_or basis k b) = get_or-map (exchanged x c) basis k b b l in
    let f : exchanged x c (get_or basis k b) ≡ b = sym g ∙ e in
    elim (exchanged-cases x c (get_or basis k b)) [
      | inl t ↦ inl (sym f ∙ t)
      | inr t ↦ let s : get_or basis k b ≡ b = sym t.0 ∙ f in inr ((k, l, s), λ q. t.1 (s ∙ q))
    ]

-- the row of the leaving column is that of the entering one
pub entering_row : (given : List (List (ℕ × ℤ))) (basis : List ℕ) (x c : ℕ) (l : ℕ → ℤ) → IsRowAt given basis x l → l c ≢ pos 0
    → IsRowAt given (after x c basis) c l
entering_row given basis x c l h n = record {
  combination = h.combination;
  has_entry = n;
  alone = λ b i m. elim (after-cases x c basis b i) [ inl e ↦ absurd (m e) | inr t ↦ h.alone b t.0 t.1 ];
  coprime = h.coprime;
}

-- a row without an entry in the entering column stays
pub kept_row : (given : List (List (ℕ × ℤ))) (basis : List ℕ) (x c y : ℕ) (e : ℕ → ℤ) → IsRowAt given basis y e → e c ≡ pos 0
    → IsRowAt given (after x c basis) y e
kept_row given basis x c y e h z = record {
  combination = h.combination;
  has_entry = h.has_entry;
  alone = λ b i m. elim (after-cases x c basis b i) [ inl t ↦ ap e t ∙ z | inr t ↦ h.alone b t.0 m ];
  coprime = h.coprime;
}

zero-entry : (g a b n p q : ℤ) → g ≢ pos 0 → p *ℤ a -ℤ q *ℤ b ≡ g *ℤ n → a ≡ pos 0 → b ≡ pos 0 → n ≡ pos 0
zero-entry g a b n p q h e za zb =
    product_zero g n h (sym e ∙ ap (λ z. p *ℤ z -ℤ q *ℤ b) za ∙ ap (λ z. p *ℤ pos 0 -ℤ q *ℤ z) zb ∙ difference_zero p q)

own-entry : (g a b n p q : ℤ) → g ≢ pos 0 → p *ℤ a -ℤ q *ℤ b ≡ g *ℤ n → p ≢ pos 0 → a ≢ pos 0 → b ≡ pos 0 → n ≢ pos 0
own-entry g a b n p q h e hp ha zb z =
    let s : p *ℤ a -ℤ q *ℤ pos 0 ≡ pos 0 = ap (λ w. p *ℤ a -ℤ q *ℤ w) (sym zb) ∙ e ∙ ap (λ w. g *ℤ w) z ∙ *ℤ-zero g in
    let t : q *ℤ pos 0 ≡ pos 0 = *ℤ-zero q in
    ha (product_zero p a hp (omega (arith, ints)))

-- each other row, crossed with the leaving one, is that of its column in the new basis
pub crossed_row : (given : List (List (ℕ × ℤ))) (basis : List ℕ) (x c y : ℕ) (l e new : ℕ → ℤ)
    → Contains basis y → y ≢ x → IsRowAt given basis x l → IsRowAt given basis y e → l c ≢ pos 0 → IsCrossed c l e new
    → IsRowAt given (after x c basis) y new
crossed_row given basis x c y l e new i n hl he p h = record {
  combination = part-combination given h.factor (λ k. l c *ℤ e k -ℤ e c *ℤ l k) new h.factor_not_zero h.entries
      (crossed-combination given (l c) (e c) e l (λ k. l c *ℤ e k -ℤ e c *ℤ l k) (λ k. refl) he.combination hl.combination);
  has_entry = own-entry h.factor (e y) (l y) (new y) (l c) (e c) h.factor_not_zero (h.entries y) p he.has_entry (hl.alone y i n);
  alone = λ b j m. elim (after-cases x c basis b j) [
    | inl t ↦ ap new t ∙ product_zero h.factor (new c) h.factor_not_zero (sym (h.entries c) ∙ difference_swapped (l c) (e c))
    | inr t ↦ zero-entry h.factor (e b) (l b) (new b) (l c) (e c) h.factor_not_zero (h.entries b) (he.alone b t.0 m) (hl.alone b t.0 t.1)
  ];
  coprime = h.coprime;
}

-- what is in the new basis at a place
pub after_at : (x c : ℕ) (basis : List ℕ) (k y : ℕ) → slice_get (after x c basis) k ≡ Some y → (b : ℕ) × (slice_get basis k ≡ Some b) × (y ≡ exchanged x c b)
after_at x c basis k y e =
    let m : option_map (exchanged x c) (slice_get basis k) ≡ Some y = sym (slice_get-map (exchanged x c) basis k) ∙ e in
    mapped (slice_get basis k) m where
      mapped : (o : Option ℕ) → option_map (exchanged x c) o ≡ Some y → (b : ℕ) × (o ≡ Some b) × (y ≡ exchanged x c b)
      mapped None m = absurd cc
      mapped (Some b) m = (b, refl, cc)
