-- An operation over two rows of a basis that is outside 128 bits is a true stop.
use Rattle.std.specs.Prelude.{ℕ, zero, suc, ◌≡◌, ◌≢◌, ◌⊎◌, ◌<◌, false, List, [], ◌∷◌, length, map, All, Contains, Some, slice_get}
use Rattle.std.proofs.Common.{sym, ◌∙◌, ap, subst, arith, inl, inr, refl}
use Rattle.std.proofs.lemmas.List.{length-map}
use Rattle.std.proofs.lemmas.List.Elements.{All-nil, All-cons}
use Rattle.std.proofs.lemmas.Option.{slice_get_within}
use Rattle.std.proofs.lemmas.Int.{ints}
use lib.IntN.{ℤ, pos, negsuc, ◌-ℤ◌, ◌*ℤ◌, *ℤ_comm, +ℤ_idr, *ℤ-zero, zero-*ℤ}
use Rattle.kind_num.specs.Exact.{within}
use Rattle.kind_num.specs.declared.Past.{Past}
use Rattle.kind_num.specs.declared.Op.TheVariants.{Sub}
use Rattle.proof_steps.specs.Rows.{IsBasis, AllDiffer, entry}
use Rattle.proof_steps.specs.Stopped.{Row, IsRowOf, IsPastStep, Product, IsProduct, AreOperands, IsOfOther, numbers, total, signed}
use Rattle.int_simplex.specs.Inner.{IsRowAt, AreRows, read_off}
use Rattle.int_simplex.specs.Sparse.{IsSparse}
use Rattle.int_simplex.specs.Crossing.{IsCrossPast}
use Rattle.int_simplex.proofs.Sparse.{sparse_differ, entry_at}
use Rattle.int_simplex.proofs.Places.{mapped_at, get-append, listed_at, at_listed, same_some}
use Rattle.int_simplex.proofs.Combos.{row_at_is}
use Rattle.int_simplex.proofs.Algebra.{difference_swapped}
use Rattle.int_simplex.proofs.Turned.{there}

abbrev number_in : ℕ × ℤ → ℤ
number_in t = t.1

-- the columns of the basis have rows
pub basis_of : (given : List (List (ℕ × ℤ))) (columns : ℕ) (basis : List ℕ) (rows : List (List (ℕ × ℤ)))
    → length basis ≡ length given → AllDiffer basis → All (λ c. c < columns) basis → AreRows given columns basis rows → IsBasis given columns basis
basis_of given columns basis rows n d r a = record {
  count = n;
  different = d;
  in_range = r;
  rows = λ x i.
      let k = at_listed basis x i in
      let w = there rows basis [] k.0 x (sym a.count) k.1 in
      (read_off (entry w.0) given, row_at_is given basis x (entry w.0) i (a.each k.0 x w.0 k.1 w.1));
}

module _ (given : List (List (ℕ × ℤ))) (columns : ℕ) (others : ℤ → Type 0) (basis : List ℕ) (x y : ℕ) (row other : List (ℕ × ℤ))
    (b : IsBasis given columns basis) (iy : Contains basis y) (ix : Contains basis x)
    (ry : IsRowAt given basis y (entry row)) (rx : IsRowAt given basis x (entry other)) (n : ℕ) (sr : IsSparse n row) (so : IsSparse n other) where
  abbrev first : Row
  first = record { entries = row; multipliers = read_off (entry row) given }

  abbrev second : Row
  second = record { entries = other; multipliers = read_off (entry other) given }

  abbrev both : List Row
  both = first ∷ second ∷ []

  are-rows : All (IsRowOf given columns) both
  are-rows =
      All-cons (IsRowOf given columns) first (second ∷ []) (sparse_differ 0 n row sr, basis, y, b, row_at_is given basis y (entry row) iy ry, ry.combination)
      (All-cons (IsRowOf given columns) second [] (sparse_differ 0 n other so, basis, x, b, row_at_is given basis x (entry other) ix rx, rx.combination)
      (All-nil (IsRowOf given columns)))

  number-first : (k : ℕ) (t : ℕ × ℤ) → slice_get row k ≡ Some t → slice_get (numbers first) k ≡ Some t.1
  number-first k t e =
      let h : k < length row = slice_get_within row k t e in
      let l : length (map number_in row) ≡ length row = length-map row number_in in
      get-append (map number_in row) (read_off (entry row) given) k (omega arith) ∙ mapped_at number_in row k t e

  number-second : (k : ℕ) (t : ℕ × ℤ) → slice_get other k ≡ Some t → IsOfOther both 0 t.1
  number-second k t e =
      let h : k < length other = slice_get_within other k t e in
      let l : length (map number_in other) ≡ length other = length-map other number_in in (
        1,
        second,
        (λ q. absurd (omega arith)),
        refl,
        listed_at (numbers second) k t.1 (get-append (map number_in other) (read_off (entry other) given) k (omega arith) ∙ mapped_at number_in other k t e),
      )

  is-product : (k j : ℕ) (t u : ℕ × ℤ) → slice_get row k ≡ Some t → slice_get other j ≡ Some u
      → IsProduct others both 0 first record { place = k; number = t.1; factor = u.1; negative = false }
  is-product k j t u e f = record { of_row = number-first k t e; by_factor = inl (number-second j u f) }

  step-of : (past : Past) → AreOperands others both 0 first past.op past.left past.right
      → within (Rattle.proof_steps.specs.Stopped.result_of past.op past.left past.right) ≡ false
      → IsPastStep given columns others record { rows = row ∷ other ∷ []; past = past }
  step-of past o w = record {
    rows = both;
    kept = refl;
    are_rows = are-rows;
    place = 0;
    row = first;
    is_row = refl;
    operands = o;
    outside = w;
  }

  one-product : (k : ℕ) (t u : ℤ) → total (record { place = k; number = t; factor = u; negative = false } ∷ []) ≡ t *ℤ u
  one-product k t u = +ℤ_idr (t *ℤ u)

  zero-within : (z : ℤ) → z ≡ pos 0 → within z ≡ false → ⊥
  unfolding within
  zero-within z e w = absurd (let f : within (pos 0) ≡ false = ap within (sym e) ∙ w in cc)

  is-zero : (z : ℤ) → (z ≡ pos 0) ⊎ (z ≢ pos 0)
  is-zero (pos zero) = inl refl
  is-zero (pos (suc n)) = inr (λ e. absurd (omega (arith, ints)))
  is-zero (negsuc n) = inr (λ e. absurd (omega (arith, ints)))

  no-product : (p a : ℤ) → within (p *ℤ a) ≡ false → (p ≢ pos 0) × (a ≢ pos 0)
  no-product p a w = (
    (λ e. zero-within (p *ℤ a) (ap (λ z. z *ℤ a) e ∙ zero-*ℤ a) w),
    (λ e. zero-within (p *ℤ a) (ap (λ z. p *ℤ z) e ∙ *ℤ-zero p) w),
  )

  alone-in : (a c : ℕ) → Contains (a ∷ []) c → a ≡ c
  alone-in a c (zero, h, s) = s
  alone-in a c (suc j, h, s) = absurd (omega arith)

  factors : (p a : ℤ) → p *ℤ a ≢ pos 0 → (p ≢ pos 0) × (a ≢ pos 0)
  factors p a n = ((λ e. n (ap (λ z. z *ℤ a) e ∙ zero-*ℤ a)), (λ e. n (ap (λ z. p *ℤ z) e ∙ *ℤ-zero p)))

  -- a difference that is not 0 is one of two products at different places, or of one and nothing
  difference : (e c : ℕ) → within (entry other e *ℤ entry row c -ℤ entry row e *ℤ entry other c) ≡ false
      → AreOperands others both 0 first Sub (entry other e *ℤ entry row c) (entry row e *ℤ entry other c)
  difference e c w = elim (is-zero (entry other e *ℤ entry row c)) [
    | inl z ↦ elim (is-zero (entry row e *ℤ entry other c)) [
      | inl y ↦ absurd (zero-within (entry other e *ℤ entry row c -ℤ entry row e *ℤ entry other c) (omega (arith, ints)) w)
      | inr y ↦
          let f = factors (entry row e) (entry other c) y in
          let r = entry_at n row e sr f.0 in let u = entry_at n other c so f.1 in
          let p2 : Product = record { place = r.0; number = r.1.1; factor = u.1.1; negative = false } in (
            [],
            p2 ∷ [],
            All-cons (IsProduct others both 0 first) p2 [] (is-product r.0 u.0 r.1 u.1 r.2 u.2) (All-nil (IsProduct others both 0 first)),
            ((λ (j, h, s). absurd (omega arith)), tt),
            z,
            ap (λ v. v *ℤ entry other c) (sym r.4) ∙ ap (λ v. r.1.1 *ℤ v) (sym u.4) ∙ sym (one-product r.0 r.1.1 u.1.1),
          )
    ]
    | inr z ↦
        let f = factors (entry other e) (entry row c) z in
        let o = entry_at n other e so f.0 in let t = entry_at n row c sr f.1 in
        let p1 : Product = record { place = t.0; number = t.1.1; factor = o.1.1; negative = false } in
        let e1 : entry other e *ℤ entry row c ≡ total (p1 ∷ []) =
        *ℤ_comm (entry other e) (entry row c) ∙ ap (λ v. v *ℤ entry other e) (sym t.4) ∙ ap (λ v. t.1.1 *ℤ v) (sym o.4)
        ∙ sym (one-product t.0 t.1.1 o.1.1) in
        elim (is-zero (entry row e *ℤ entry other c)) [
          | inl y ↦ (
            p1 ∷ [],
            [],
            All-cons (IsProduct others both 0 first) p1 [] (is-product t.0 o.0 t.1 o.1 t.2 o.2) (All-nil (IsProduct others both 0 first)),
            ((λ (j, h, s). absurd (omega arith)), tt),
            e1,
            y,
          )
          | inr y ↦
              let g = factors (entry row e) (entry other c) y in
              let r = entry_at n row e sr g.0 in let u = entry_at n other c so g.1 in
              let p2 : Product = record { place = r.0; number = r.1.1; factor = u.1.1; negative = false } in
              let m : t.0 ≢ r.0 = λ q.
              let v : t.1 ≡ r.1 = same_some t.1 r.1 (sym t.2 ∙ ap (slice_get row) q ∙ r.2) in
              let k : c ≡ e = sym t.3 ∙ ap (λ (x : ℕ × ℤ). x.0) v ∙ r.3 in
              zero-within (entry other e *ℤ entry row c -ℤ entry row e *ℤ entry other c)
              (ap (λ x. entry other e *ℤ entry row x -ℤ entry row e *ℤ entry other x) k ∙ difference_swapped (entry other e) (entry row e)) w in (
                p1 ∷ [],
                p2 ∷ [],
                All-cons (IsProduct others both 0 first) p1 (p2 ∷ []) (is-product t.0 o.0 t.1 o.1 t.2 o.2)
                    (All-cons (IsProduct others both 0 first) p2 [] (is-product r.0 u.0 r.1 u.1 r.2 u.2) (All-nil (IsProduct others both 0 first))),
                ((λ i. m (sym (alone-in r.0 t.0 i))), ((λ (j, h, s). absurd (omega arith)), tt)),
                e1,
                ap (λ v. v *ℤ entry other c) (sym r.4) ∙ ap (λ v. r.1.1 *ℤ v) (sym u.4) ∙ sym (one-product r.0 r.1.1 u.1.1),
              )
        ]
  ]

  pub cross_past : (e c : ℕ) (past : Past) → IsCrossPast (entry other e) (entry row e) (entry row c) (entry other c) past
      → IsPastStep given columns others record { rows = row ∷ other ∷ []; past = past }
  cross_past e c past (inl (q, w)) =
      let z = no-product (entry other e) (entry row c) w in
      let o = entry_at n other e so z.0 in let t = entry_at n row c sr z.1 in
      let P : Past → Type 0 = λ v. IsPastStep given columns others record { rows = row ∷ other ∷ []; past = v } in
      subst P (sym q) (step-of _ (
        record { place = t.0; number = t.1.1; factor = o.1.1; negative = false },
        is-product t.0 o.0 t.1 o.1 t.2 o.2,
        inr (sym o.4, sym t.4),
      ) w)
  cross_past e c past (inr (inl (q, w))) =
      let z = no-product (entry row e) (entry other c) w in
      let r = entry_at n row e sr z.0 in let u = entry_at n other c so z.1 in
      let P : Past → Type 0 = λ v. IsPastStep given columns others record { rows = row ∷ other ∷ []; past = v } in
      subst P (sym q) (step-of _ (
        record { place = r.0; number = r.1.1; factor = u.1.1; negative = false },
        is-product r.0 u.0 r.1 u.1 r.2 u.2,
        inl (sym r.4, sym u.4),
      ) w)
  cross_past e c past (inr (inr (q, w))) =
      let P : Past → Type 0 = λ v. IsPastStep given columns others record { rows = row ∷ other ∷ []; past = v } in
      subst P (sym q) (step-of _ (difference e c w) w)
