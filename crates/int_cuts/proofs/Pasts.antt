-- Operations over a row's parts that are outside 128 bits.
use Rattle.std.specs.Prelude.{ℕ, zero, suc, ◌≡◌, ◌≢◌, ◌⊎◌, ◌==◌, Bool, true, false, cond, List, [], ◌∷◌, ◌++◌, map, take, All, Contains, Option, Some, None, slice_get, unsigned_abs}
use Rattle.std.proofs.Common.{sym, ◌∙◌, ap, subst, arith, refl, inl, inr}
use Rattle.std.proofs.lemmas.Int.{ints}
use Rattle.std.proofs.lemmas.List.Elements.{All-nil, All-cons, All-append}
use lib.IntN.{ℤ, pos, negsuc, ◌+ℤ◌, ◌*ℤ◌, neg_ℤ, *ℤ-zero}
use lib.Signed.{◌≤ℤ◌, ◌<ℤ◌}
use Rattle.kind_num.specs.declared.Past.{Past}
use Rattle.proof_steps.specs.Rows.{entry, AllDiffer}
use Rattle.proof_steps.specs.Stopped.{Product, total, signed}
use Rattle.int_simplex.specs.State.{State}
use Rattle.int_simplex.specs.Farkas.{turned}
use Rattle.int_simplex.specs.Given.{HasNoZero}
use Rattle.int_simplex.proofs.First.{times-one}
use Rattle.int_simplex.proofs.Places.{same_some, listed_at, at_listed, mapped_at}
use Rattle.int_simplex.proofs.Sorting.{entry_of}
use Rattle.int_cuts.specs.Cuts.{IsFactor, IsCutProduct, AreCutProducts, IsCutPast, remainder, column_in}
use Rattle.int_cuts.specs.Parts.{IsPart, AreParts, IsDefinedBy, IsRowOf, NoneLooseIn, facing, IsSizePast, AreSumsPast, step_op, coefficient_by, factor_of, row_of, sum_by}
use Rattle.int_cuts.specs.declared.parts.Part.{Part}
use Rattle.int_cuts.proofs.Facing.{IsFacing, is_facing}
use Rattle.int_cuts.proofs.Listed.{none_loose, parts_differ}
use Rattle.int_cuts.proofs.Made.{part_stands}
use Rattle.int_cuts.proofs.Multiples.{part_bound, bounds_of}

abbrev is_zero : ℤ → Bool
is_zero (pos zero) = true
is_zero (pos (suc n)) = false
is_zero (negsuc n) = false

zero-is : (z : ℤ) → is_zero z ≡ true → z ≡ pos 0
zero-is (pos zero) e = refl
zero-is (pos (suc n)) e = absurd cc
zero-is (negsuc n) e = absurd cc

zero-not : (z : ℤ) → is_zero z ≡ false → z ≢ pos 0
zero-not (pos zero) e f = absurd cc
zero-not (pos (suc n)) e f = absurd (omega (arith, ints))
zero-not (negsuc n) e f = absurd (omega (arith, ints))

by-test : (b : Bool) → (b ≡ true) ⊎ (b ≡ false)
by-test true = inl refl
by-test false = inr refl

abbrev lower : Bool → Bool
lower true = false
lower false = true

abbrev product : List (List (ℕ × ℤ)) → Option ℕ → Bool → Part → Product
product given of negative p = record { place = p.column; number = p.multiplier; factor = factor_of given of p; negative = negative }

-- those with a factor other than 0
abbrev products : List (List (ℕ × ℤ)) → Option ℕ → List Part → List Product
products given of [] = []
products given of (p ∷ parts) =
    cond (is_zero (factor_of given of p)) (products given of parts) (product given of (lower p.upper) p ∷ products given of parts)

abbrev place_in : Product → ℕ
place_in p = p.place

signed-lower : (u : Bool) (z : ℤ) → signed (lower u) z ≡ turned u z
signed-lower true z = refl
signed-lower false z = refl

turned-zero : (u : Bool) (z : ℤ) → z ≡ pos 0 → turned u z ≡ pos 0
turned-zero true z e = e
turned-zero false z e = ap neg_ℤ e

total-is : (given : List (List (ℕ × ℤ))) (of : Option ℕ) (parts : List Part) → sum_by given of parts ≡ total (products given of parts)
total-is given of [] = refl
total-is given of (p ∷ parts) = by (by-test (is_zero (factor_of given of p))) (total-is given of parts) where
  by : ((is_zero (factor_of given of p) ≡ true) ⊎ (is_zero (factor_of given of p) ≡ false)) → sum_by given of parts ≡ total (products given of parts)
      → turned p.upper (p.multiplier *ℤ factor_of given of p) +ℤ sum_by given of parts
      ≡ total (cond (is_zero (factor_of given of p)) (products given of parts) (product given of (lower p.upper) p ∷ products given of parts))
  by (inl h) i =
      let z : turned p.upper (p.multiplier *ℤ factor_of given of p) ≡ pos 0
      = turned-zero p.upper (p.multiplier *ℤ factor_of given of p) (ap (λ y. p.multiplier *ℤ y) (zero-is (factor_of given of p) h) ∙ *ℤ-zero p.multiplier) in
      let a : turned p.upper (p.multiplier *ℤ factor_of given of p) +ℤ sum_by given of parts ≡ total (products given of parts) = omega (arith, ints) in
      a ∙ sym (ap (λ b. total (cond b (products given of parts) (product given of (lower p.upper) p ∷ products given of parts))) h)
  by (inr h) i =
      ap (λ y. turned p.upper (p.multiplier *ℤ factor_of given of p) +ℤ y) i
      ∙ ap (λ y. y +ℤ total (products given of parts)) (sym (signed-lower p.upper (p.multiplier *ℤ factor_of given of p)))
      ∙ sym (ap (λ b. total (cond b (products given of parts) (product given of (lower p.upper) p ∷ products given of parts))) h)

-- the products' columns are those of the parts
place-listed : (given : List (List (ℕ × ℤ))) (of : Option ℕ) (parts : List Part) (c : ℕ) → Contains (map place_in (products given of parts)) c
    → Contains (map column_in (bounds_of parts)) c
place-listed given of [] c i = i
place-listed given of (p ∷ parts) c i = by (by-test (is_zero (factor_of given of p))) (place-listed given of parts c) i where
  later : Contains (map column_in (bounds_of parts)) c → Contains (map column_in (bounds_of (p ∷ parts))) c
  later w = let j = at_listed (map column_in (bounds_of parts)) c w in listed_at (map column_in (bounds_of (p ∷ parts))) (suc j.0) c j.1

  by : ((is_zero (factor_of given of p) ≡ true) ⊎ (is_zero (factor_of given of p) ≡ false))
      → (Contains (map place_in (products given of parts)) c → Contains (map column_in (bounds_of parts)) c)
      → Contains (map place_in (cond (is_zero (factor_of given of p)) (products given of parts)
      (product given of (lower p.upper) p ∷ products given of parts))) c
      → Contains (map column_in (bounds_of (p ∷ parts))) c
  by (inl h) f w =
      let P : Bool → Type 0 = λ b. Contains (map place_in (cond b (products given of parts)
      (product given of (lower p.upper) p ∷ products given of parts))) c in
      later (f (subst P h w))
  by (inr h) f w =
      let P : Bool → Type 0 = λ b. Contains (map place_in (cond b (products given of parts)
      (product given of (lower p.upper) p ∷ products given of parts))) c in
      at (at_listed (p.column ∷ map place_in (products given of parts)) c (subst P h w)) where
        at : (k : ℕ) × (slice_get (p.column ∷ map place_in (products given of parts)) k ≡ Some c) → Contains (map column_in (bounds_of (p ∷ parts))) c
        at (zero, e) = listed_at (map column_in (bounds_of (p ∷ parts))) 0 c e
        at (suc k, e) = later (f (listed_at (map place_in (products given of parts)) k c e))

products-differ : (given : List (List (ℕ × ℤ))) (of : Option ℕ) (parts : List Part) → AllDiffer (map column_in (bounds_of parts))
    → AllDiffer (map place_in (products given of parts))
products-differ given of [] d = tt
products-differ given of (p ∷ parts) d = by (by-test (is_zero (factor_of given of p))) (products-differ given of parts d.1) where
  by : ((is_zero (factor_of given of p) ≡ true) ⊎ (is_zero (factor_of given of p) ≡ false)) → AllDiffer (map place_in (products given of parts))
      → AllDiffer (map place_in (cond (is_zero (factor_of given of p)) (products given of parts)
      (product given of (lower p.upper) p ∷ products given of parts)))
  by (inl h) i =
      let P : Bool → Type 0 = λ b. AllDiffer (map place_in (cond b (products given of parts) (product given of (lower p.upper) p ∷ products given of parts))) in
      subst P (sym h) i
  by (inr h) i =
      let P : Bool → Type 0 = λ b. AllDiffer (map place_in (cond b (products given of parts) (product given of (lower p.upper) p ∷ products given of parts))) in
      subst P (sym h) ((λ w. d.0 (place-listed given of parts p.column w)), i)

-- one product more
differ-more : (xs : List Product) (y : Product) → AllDiffer (map place_in xs) → (Contains (map place_in xs) y.place → ⊥) → AllDiffer
    (map place_in (xs ++ y ∷ []))
differ-more [] y d n = ((λ (k, h, e). absurd (omega arith)), tt)
differ-more (x ∷ xs) y d n = (
  (λ w. split (at_listed (map place_in (xs ++ y ∷ [])) x.place w)),
  differ-more xs y d.1 (λ w. let j = at_listed (map place_in xs) y.place w in n (listed_at (map place_in (x ∷ xs)) (suc j.0) y.place j.1)),
) where
  in-more : (zs : List Product) (k c : ℕ) → slice_get (map place_in (zs ++ y ∷ [])) k ≡ Some c → (Contains (map place_in zs) c) ⊎ (y.place ≡ c)
  in-more [] zero c e = inr (same_some y.place c e)
  in-more [] (suc k) c e = absurd cc
  in-more (z ∷ zs) zero c e = inl (listed_at (map place_in (z ∷ zs)) 0 c e)
  in-more (z ∷ zs) (suc k) c e = elim (in-more zs k c e) [
    | inl w ↦ inl (let j = at_listed (map place_in zs) c w in listed_at (map place_in (z ∷ zs)) (suc j.0) c j.1)
    | inr q ↦ inr q
  ]

  split : (k : ℕ) × (slice_get (map place_in (xs ++ y ∷ [])) k ≡ Some x.place) → ⊥
  split (k, e) = elim (in-more xs k x.place e) [
    | inl w ↦ d.0 w
    | inr q ↦ n (let P : ℕ → Type 0 = λ c. Contains (map place_in (x ∷ xs)) c in subst P (sym q) (listed_at (map place_in (x ∷ xs)) 0 x.place refl))
  ]

-- the part at a place is not among those before it
not-before : (parts : List Part) (k : ℕ) (p : Part) → AllDiffer (map column_in (bounds_of parts)) → slice_get parts k ≡ Some p
    → Contains (map column_in (bounds_of (take k parts))) p.column → ⊥
not-before [] k p d e i = absurd cc
not-before (q ∷ parts) zero p d e (k, h, g) = absurd (omega arith)
not-before (q ∷ parts) (suc k) p d e i = by (at_listed (map column_in (bounds_of (take (suc k) (q ∷ parts)))) p.column i) (not-before parts k p d.1 e) where
  by : (j : ℕ) × (slice_get (q.column ∷ map column_in (bounds_of (take k parts))) j ≡ Some p.column) →
      (Contains (map column_in (bounds_of (take k parts))) p.column → ⊥) → ⊥
  by (zero, g) f =
      let c : q.column ≡ p.column = same_some q.column p.column g in
      let P : ℕ → Type 0 = λ y. Contains (map column_in (bounds_of parts)) y in
      d.0 (subst P (sym c) (listed_at (map column_in (bounds_of parts)) k p.column (column-at parts k e))) where
        column-at : (ps : List Part) (k : ℕ) → slice_get ps k ≡ Some p → slice_get (map column_in (bounds_of ps)) k ≡ Some p.column
        column-at ps k e = mapped_at column_in (bounds_of ps) k (part_bound p) (mapped_at part_bound ps k p e)
  by (suc j, g) f = f (listed_at (map column_in (bounds_of (take k parts))) j p.column g)

take-differ : (parts : List Part) (k : ℕ) → AllDiffer (map column_in (bounds_of parts)) → AllDiffer (map column_in (bounds_of (take k parts)))
take-differ [] zero d = tt
take-differ [] (suc k) d = tt
take-differ (p ∷ parts) zero d = tt
take-differ (p ∷ parts) (suc k) d = ((λ w. d.0 (more parts k w)), take-differ parts k d.1) where
  more : (ps : List Part) (k : ℕ) → Contains (map column_in (bounds_of (take k ps))) p.column → Contains (map column_in (bounds_of ps)) p.column
  more ps k w = go ps k (at_listed (map column_in (bounds_of (take k ps))) p.column w) where
    go : (ps : List Part) (k : ℕ) → (j : ℕ) × (slice_get (map column_in (bounds_of (take k ps))) j ≡ Some p.column) → Contains
        (map column_in (bounds_of ps)) p.column
    go [] zero (j, e) = absurd cc
    go [] (suc k) (j, e) = absurd cc
    go (q ∷ ps) zero (j, e) = absurd cc
    go (q ∷ ps) (suc k) (zero, e) = listed_at (map column_in (bounds_of (q ∷ ps))) 0 p.column e
    go (q ∷ ps) (suc k) (suc j, e) = let w = at_listed (map column_in (bounds_of ps)) p.column (go ps k (j, e)) in listed_at
        (map column_in (bounds_of (q ∷ ps))) (suc w.0) p.column w.1

-- the parts are those of terms of the row
abbrev pub AreOfRow : State → ℕ → ℤ → List (ℕ × ℤ) → List Part → Type 0
AreOfRow s x d row [] = Unit
AreOfRow s x d row (p ∷ parts) = ((k : ℕ) × (t : ℕ × ℤ) × (slice_get row k ≡ Some t) × IsPart s x d t p) × AreOfRow s x d row parts

of-row : (s : State) (x : ℕ) (d : ℤ) (full row : List (ℕ × ℤ)) (parts : List Part) →
    ((k : ℕ) (t : ℕ × ℤ) → slice_get row k ≡ Some t → (j : ℕ) × (slice_get full j ≡ Some t))
    → AreParts s x d row parts → AreOfRow s x d full parts
of-row s x d full [] parts f a = let P : List Part → Type 0 = λ ps. AreOfRow s x d full ps in subst P (sym a) tt
of-row s x d full (t ∷ row) parts f (inl (h, a)) = of-row s x d full row parts (λ k u e. f (suc k) u e) a
of-row s x d full (t ∷ row) parts f (inr (p, rest, e, i, a)) =
    let P : List Part → Type 0 = λ ps. AreOfRow s x d full ps in
    let j = f 0 t refl in
    subst P (sym e) ((j.0, t, j.1, i), of-row s x d full row rest (λ k u e. f (suc k) u e) a)

module _ (s : State) (x n : ℕ) (row : List (ℕ × ℤ)) (i : IsFacing s x n row) (no_zero : (k : ℕ) (t : ℕ × ℤ) → slice_get row k ≡ Some t → t.1 ≢ pos 0) where
  factor-is : (of : Option ℕ) (t : ℕ × ℤ) (p : Part) → IsPart s x (pos (suc n)) t p → factor_of s.given of p ≢ pos 0 → IsFactor s p.column
      (factor_of s.given of p)
  factor-is None t p w f = inl (part_bound p, part_stands s x (pos (suc n)) t p w, refl, refl)
  factor-is (Some v) t p w f = by p.row (let P : ℕ → Type 0 = λ c. IsDefinedBy s.given c p.row in subst P (sym w.column) w.row) f where
    by : (o : Option ℕ) → IsDefinedBy s.given p.column o → coefficient_by s.given p.column o v ≢ pos 0 → IsFactor s p.column
        (coefficient_by s.given p.column o v)
    by None d f = one (p.column == v) f where
      one : (b : Bool) → cond b (pos 1) (pos 0) ≢ pos 0 → IsFactor s p.column (cond b (pos 1) (pos 0))
      one true f = inr (inl refl)
      one false f = absurd (f refl)
    by (Some k) (g, e, q) f = one (p.column == v) f where
      one : (b : Bool) → cond b (pos 0) (entry (row_of (slice_get s.given k)) v) ≢ pos 0 → IsFactor s p.column
          (cond b (pos 0) (entry (row_of (slice_get s.given k)) v))
      one true f = absurd (f refl)
      one false f = inr (inr (g, v, listed_at s.given k g e, q, ap (λ o. entry (row_of o) v) e))

  product-is : (of : Option ℕ) (negative : Bool) (p : Part) → ((k : ℕ) × (t : ℕ × ℤ) × (slice_get row k ≡ Some t) × IsPart s x (pos (suc n)) t p)
      → factor_of s.given of p ≢ pos 0 → IsCutProduct s row x (product s.given of negative p)
  product-is of negative p (k, t, e, w) f =
      let a : entry row p.column ≡ t.1 = ap (entry row) w.column ∙ entry_of row k t i.differ e in record {
        has_entry = λ z. no_zero k t e (sym a ∙ z);
        number = inr (
          p.upper,
          w.multiplier ∙ ap (remainder (pos (suc n)) p.upper) (sym a)
              ∙ ap (λ z. remainder (pos (unsigned_abs z)) p.upper (entry row p.column)) (sym i.own),
        );
        factor = factor-is of t p w f;
      }

  products-are : (of : Option ℕ) (parts : List Part) → AreOfRow s x (pos (suc n)) row parts → All (IsCutProduct s row x) (products s.given of parts)
  products-are of [] a = All-nil (IsCutProduct s row x)
  products-are of (p ∷ parts) a = by (by-test (is_zero (factor_of s.given of p))) (products-are of parts a.1) where
    by : ((is_zero (factor_of s.given of p) ≡ true) ⊎ (is_zero (factor_of s.given of p) ≡ false)) → All (IsCutProduct s row x) (products s.given of parts)
        → All (IsCutProduct s row x) (cond (is_zero (factor_of s.given of p)) (products s.given of parts)
        (product s.given of (lower p.upper) p ∷ products s.given of parts))
    by (inl h) w =
        let P : Bool → Type 0 = λ b. All (IsCutProduct s row x) (cond b (products s.given of parts)
        (product s.given of (lower p.upper) p ∷ products s.given of parts)) in
        subst P (sym h) w
    by (inr h) w =
        let P : Bool → Type 0 = λ b. All (IsCutProduct s row x) (cond b (products s.given of parts)
        (product s.given of (lower p.upper) p ∷ products s.given of parts)) in
        subst P (sym h) (All-cons (IsCutProduct s row x) (product s.given of (lower p.upper) p) (products s.given of parts)
        (product-is of (lower p.upper) p a.0 (zero-not (factor_of s.given of p) h)) w)

  taken-of : (parts : List Part) (k : ℕ) → AreOfRow s x (pos (suc n)) row parts → AreOfRow s x (pos (suc n)) row (take k parts)
  taken-of [] zero a = tt
  taken-of [] (suc k) a = tt
  taken-of (p ∷ parts) zero a = tt
  taken-of (p ∷ parts) (suc k) a = (a.0, taken-of parts k a.1)

  at-of : (parts : List Part) (k : ℕ) (p : Part) → AreOfRow s x (pos (suc n)) row parts → slice_get parts k ≡ Some p
      → (j : ℕ) × (t : ℕ × ℤ) × (slice_get row j ≡ Some t) × IsPart s x (pos (suc n)) t p
  at-of [] k p a e = absurd cc
  at-of (q ∷ parts) zero p a e =
      let w : q ≡ p = same_some q p e in
      let P : Part → Type 0 = λ y. (j : ℕ) × (t : ℕ × ℤ) × (slice_get row j ≡ Some t) × IsPart s x (pos (suc n)) t y in subst P w a.0
  at-of (q ∷ parts) (suc k) p a e = at-of parts k p a.1 e

  module _ (parts : List Part) (are : AreParts s x (pos (suc n)) row parts) where
    differ : AllDiffer (map column_in (bounds_of parts))
    differ = parts_differ s x (pos (suc n)) row parts i.differ are

    of-full : AreOfRow s x (pos (suc n)) row parts
    of-full = of-row s x (pos (suc n)) row row parts (λ k t e. (k, e)) are

    sum-operands : (of : Option ℕ) (k : ℕ) (p : Part) → slice_get parts k ≡ Some p → factor_of s.given of p ≢ pos 0
        → (ps : List Product) × (qs : List Product) × AreCutProducts s row x ps qs × (sum_by s.given of (take k parts) ≡ total ps)
        × (p.multiplier *ℤ factor_of s.given of p ≡ total qs)
    sum-operands of k p e f = (
      products s.given of (take k parts),
      product s.given of false p ∷ [],
      (
        All-append (IsCutProduct s row x) (products s.given of (take k parts)) (product s.given of false p ∷ [])
            (products-are of (take k parts) (taken-of parts k of-full))
            (All-cons (IsCutProduct s row x) (product s.given of false p) [] (product-is of false p (at-of parts k p of-full e) f)
            (All-nil (IsCutProduct s row x))),
        differ-more (products s.given of (take k parts)) (product s.given of false p) (products-differ s.given of (take k parts) (take-differ parts k differ))
            (λ w. not-before parts k p differ e (place-listed s.given of (take k parts) p.column w)),
      ),
      total-is s.given of (take k parts),
      zero-more (p.multiplier *ℤ factor_of s.given of p),
    ) where
      zero-more : (z : ℤ) → z ≡ z +ℤ pos 0
      zero-more z = omega (arith, ints)

    pub sums_past : (past : Past) → AreSumsPast s.given parts past → IsCutPast s x past
    sums_past past (of, (k, p, e, (f, inl (q, w)))) =
        let P : Past → Type 0 = λ y. IsCutPast s x y in
        subst P (sym q) record {
          row = row;
          is_row = i.is_row;
          none_loose = i.none;
          operands = (product s.given of false p, product-is of false p (at-of parts k p of-full e) f, inl (refl, refl));
          outside = w;
        }
    sums_past past (of, (k, p, e, (f, inr g))) = by p.upper g where
      by : (u : Bool) → step_op u (sum_by s.given of (take k parts)) (p.multiplier *ℤ factor_of s.given of p) past → IsCutPast s x past
      by true (q, w) =
          let P : Past → Type 0 = λ y. IsCutPast s x y in
          subst P (sym q) record { row = row; is_row = i.is_row; none_loose = i.none; operands = sum-operands of k p e f; outside = w }
      by false (q, w) =
          let P : Past → Type 0 = λ y. IsCutPast s x y in
          subst P (sym q) record { row = row; is_row = i.is_row; none_loose = i.none; operands = sum-operands of k p e f; outside = w }

abbrev own_product : ℕ → ℤ → Product
own_product x own = record { place = x; number = own; factor = pos 1; negative = false }

-- the size of the own entry is outside
pub size_past : (s : State) (x : ℕ) (row : List (ℕ × ℤ)) (own : ℤ) (past : Past) → IsRowOf s x row → NoneLooseIn s row x → own ≢ pos 0 → own ≡ entry row x
    → IsSizePast own past → IsCutPast s x past
size_past s x row own past r f n eo (l, q, w) =
    let P : Past → Type 0 = λ y. IsCutPast s x y in
    let e : own ≡ total (own_product x own ∷ []) = let a = times-one own in omega (arith, ints) in
    let p : IsCutProduct s row x (own_product x own) = record { has_entry = λ z. n (eo ∙ z); number = inl eo; factor = inr (inl refl) } in
    subst P (sym q) record {
      row = row;
      is_row = r.is_row;
      none_loose = none_loose s x row f;
      operands = (
        [],
        own_product x own ∷ [],
        (All-cons (IsCutProduct s row x) (own_product x own) [] p (All-nil (IsCutProduct s row x)), ((λ (k, h, e). absurd (omega arith)), tt)),
        refl,
        e,
      );
      outside = w;
    }

no-zero : (row : List (ℕ × ℤ)) (down : Bool) → HasNoZero row → (k : ℕ) (t : ℕ × ℤ) → slice_get (map (facing down) row) k ≡ Some t → t.1 ≢ pos 0
no-zero [] down h k t e z = absurd cc
no-zero (u ∷ row) true h zero t e z =
    let q : facing true u ≡ t = same_some (facing true u) t e in
    let w : neg_ℤ u.1 ≡ pos 0 = ap (λ (y : ℕ × ℤ). y.1) q ∙ z in
    h 0 u (omega arith) (omega (arith, ints))
no-zero (u ∷ row) false h zero t e z =
    let q : u ≡ t = same_some u t e in
    h 0 u (omega arith) (ap (λ (y : ℕ × ℤ). y.1) q ∙ z)
no-zero (u ∷ row) down h (suc k) t e z = no-zero row down (λ j d l. h (suc j) d (omega arith)) k t e z

pub past_is : (s : State) (x : ℕ) (d : ℤ) (row : List (ℕ × ℤ)) (down : Bool) (parts : List Part) (past : Past) → pos 0 <ℤ d
    → IsRowOf s x row → NoneLooseIn s row x → d ≡ pos (unsigned_abs (entry row x))
    → (down ≡ true → pos 0 <ℤ entry row x) → (down ≡ false → entry row x ≤ℤ pos 0) → AreParts s x d (map (facing down) row) parts
    → AreSumsPast s.given parts past → IsCutPast s x past
past_is s x (pos zero) row down parts past p r f e g h a m = absurd (omega (arith, ints))
past_is s x (negsuc n) row down parts past p r f e g h a m = absurd (omega (arith, ints))
past_is s x (pos (suc n)) row down parts past p r f e g h a m =
    sums_past s x n (map (facing down) row) (is_facing s x n row down r f e g h) (no-zero row down r.entries) parts a past m
