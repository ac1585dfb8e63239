-- A product or a sum of a theory step that is outside 128 bits is one over the row that refutes.
use Rattle.std.specs.Prelude.{ℕ, zero, suc, ◌≡◌, ◌≢◌, ◌⊎◌, ◌==◌, ◌+◌, ◌<◌, ◌≤◌, Bool, true, false, cond, List, [], ◌∷◌, ◌++◌, length, map, take, All, Contains, Some, slice_get, refl}
use Rattle.std.specs.List.{AllByRecursion}
use Rattle.std.proofs.Common.{sym, ◌∙◌, ap, subst, inl, inr, arith}
use Rattle.std.proofs.lemmas.Int.{ints}
use Rattle.std.proofs.lemmas.List.{length-map}
use Rattle.std.proofs.lemmas.List.Elements.{All-nil, All-cons, All-contains, All-from_recursion}
use Rattle.std.proofs.lemmas.Option.{slice_get_within}
use lib.IntN.{ℤ, pos, negsuc, ◌+ℤ◌, ◌*ℤ◌, neg_ℤ, *ℤ-zero, +ℤ_idr}
use Rattle.kind_num.specs.Exact.{within}
use Rattle.kind_num.specs.declared.Op.TheVariants.{Add, Mul}
use Rattle.kind_num.specs.declared.Past.{Past}
use Rattle.proof_steps.specs.Rows.{Form, AllDiffer, entry, rows_of, columns_of}
use Rattle.proof_steps.specs.Stopped.{Row, IsRowOf, IsNumberOf, IsOfOther, IsFactor, Product, IsProduct, AreOperands, IsPastStep, numbers, total, result_of}
use Rattle.int_simplex.specs.Given.{last_column, last_columns}
use Rattle.int_simplex.specs.Inner.{read_off}
use Rattle.int_simplex.specs.Farkas.{weight}
use Rattle.int_simplex.proofs.Apart.{end-at}
use Rattle.int_simplex.proofs.Combos.{row_at_is}
use Rattle.int_simplex.proofs.First.{row_first}
use Rattle.int_simplex.proofs.Opposites.{first_basis, given_differ}
use Rattle.int_simplex.proofs.Places.{mapped_at, get-append, listed_at}
use Rattle.line_laws.specs.Lines.{Part, multipliers_of, bounds_of}
use Rattle.line_laws.specs.Steps.{numbered}
use Rattle.line_laws.specs.PastSteps.{number_of, refuting_row, factor_in, products_of, limit_products, sum_in, IsOutside, IsSumPast, IsAllowed, AreRefutedBy}
use Rattle.line_laws.proofs.OneRow.{row_is}

sizes-are : (parts : List Part) → multipliers_of parts ≡ map (λ (p : ℤ × ℕ). p.0) (map numbered parts)
sizes-are [] = refl
sizes-are (p ∷ rest) = ap (λ ms. p.multiplier ∷ ms) (sizes-are rest)

columns-are : (parts : List Part) → map (λ (b : Rattle.int_simplex.specs.State.Standing). b.column) (bounds_of parts)
    ≡ map (λ (t : ℕ × ℤ). t.0) (refuting_row parts)
columns-are [] = refl
columns-are (p ∷ rest) = ap (λ cs. p.bound.column ∷ cs) (columns-are rest)

entries-are : (parts : List Part) (c : ℕ) → entry (refuting_row parts) c ≡ weight (multipliers_of parts) (bounds_of parts) c
entries-are [] c = refl
entries-are (p ∷ rest) c = ap (λ z. cond (p.bound.column == c) (number_of p +ℤ z) z) (entries-are rest c)

-- ---- products with places

abbrev is_other : ℤ → Bool
is_other (pos zero) = false
is_other (pos (suc n)) = true
is_other (negsuc n) = true

not-other : (z : ℤ) → is_other z ≡ false → z ≡ pos 0
not-other (pos zero) e = refl
not-other (pos (suc n)) e = absurd cc
not-other (negsuc n) e = absurd cc

other-than : (z : ℤ) → is_other z ≡ true → z ≢ pos 0
other-than (pos zero) e q = absurd cc
other-than (pos (suc n)) e q = absurd (omega (arith, ints))
other-than (negsuc n) e q = absurd (omega (arith, ints))

abbrev place_in : Product → ℕ
place_in p = p.place

in-or : (m n j : ℕ) (xs : List ℕ) → Contains (m ∷ xs) j → (Contains xs j → (suc m ≤ j) × (j < suc n)) → m < suc n → (m ≤ j) × (j < suc n)
in-or m n j xs (zero, h, e) f l = (omega arith, omega arith)
in-or m n j xs (suc k, h, e) f l = let b = f (k, omega arith, e) in (let a = b.0 in omega arith, b.1)

-- the operation is over the first row, and outside
abbrev IsShown : (ℤ → Type 0) → List Row → Row → Past → Type 0
IsShown others rows r past =
    AreOperands others rows 0 r past.op past.left past.right × (within (result_of past.op past.left past.right) ≡ false)

module _ (factor : Part → ℤ) where
  abbrev items : List Part → List (ℤ × ℤ)
  items ps = map (λ (p : Part). (number_of p, factor p)) ps

  abbrev one_at : ℕ → Part → Product
  one_at i p = record { place = i; number = number_of p; factor = factor p; negative = false }

  abbrev made : ℕ → List Part → List Product
  made i [] = []
  made i (p ∷ rest) = cond (is_other (factor p)) (one_at i p ∷ made (suc i) rest) (made (suc i) rest)

  total-made : (i : ℕ) (ps : List Part) → total (made i ps) ≡ sum_in (items ps)
  total-made i [] = refl
  total-made i (p ∷ rest) = go (is_other (factor p)) refl (total-made (suc i) rest) where
    go : (b : Bool) → is_other (factor p) ≡ b → total (made (suc i) rest) ≡ sum_in (items rest)
        → total (cond b (one_at i p ∷ made (suc i) rest) (made (suc i) rest))
        ≡ (number_of p *ℤ factor p) +ℤ sum_in (items rest)
    go true e h = ap (λ z. (number_of p *ℤ factor p) +ℤ z) h
    go false e h =
        let z : number_of p *ℤ factor p ≡ pos 0 = ap (λ y. number_of p *ℤ y) (not-other (factor p) e) ∙ *ℤ-zero (number_of p) in
        omega (arith, ints)

  places : (i : ℕ) (ps : List Part) (j : ℕ) → Contains (map place_in (made i ps)) j → i ≤ j
  places i [] j (k, h, e) = absurd (omega arith)
  places i (p ∷ rest) j c = go (is_other (factor p)) (places (suc i) rest j) c where
    go : (b : Bool) → (Contains (map place_in (made (suc i) rest)) j → suc i ≤ j)
        → Contains (map place_in (cond b (one_at i p ∷ made (suc i) rest) (made (suc i) rest))) j → i ≤ j
    go true f (zero, h, e) = omega arith
    go true f (suc k, h, e) = let a = f (k, omega arith, e) in omega arith
    go false f c = let a = f c in omega arith

  differ : (i : ℕ) (ps : List Part) → AllDiffer (map place_in (made i ps))
  differ i [] = tt
  differ i (p ∷ rest) = go (is_other (factor p)) (differ (suc i) rest) where
    go : (b : Bool) → AllDiffer (map place_in (made (suc i) rest))
        → AllDiffer (map place_in (cond b (one_at i p ∷ made (suc i) rest) (made (suc i) rest)))
    go true d = (λ c. let a = places (suc i) rest i c in absurd (omega arith), d)
    go false d = d

  made-append : (i : ℕ) (xs ys : List Part) → made i (xs ++ ys) ≡ made i xs ++ made (i + length xs) ys
  made-append i [] ys = ap (λ k. made k ys) (same i) where
    same : (i : ℕ) → i ≡ i + 0
    same i = omega arith
  made-append i (p ∷ xs) ys =
      go (is_other (factor p)) (made-append (suc i) xs ys ∙ ap (λ k. made (suc i) xs ++ made k ys) (next i (length xs))) where
        next : (i k : ℕ) → suc i + k ≡ i + suc k
        next i k = omega arith

        go : (b : Bool) → made (suc i) (xs ++ ys) ≡ made (suc i) xs ++ made (i + suc (length xs)) ys
            → cond b (one_at i p ∷ made (suc i) (xs ++ ys)) (made (suc i) (xs ++ ys))
            ≡ cond b (one_at i p ∷ made (suc i) xs) (made (suc i) xs) ++ made (i + suc (length xs)) ys
        go true e = ap (λ ps. one_at i p ∷ ps) e
        go false e = e

  take-items : (k : ℕ) (ps : List Part) → take k (items ps) ≡ items (take k ps)
  take-items zero ps = refl
  take-items (suc k) [] = refl
  take-items (suc k) (p ∷ ps) = ap (λ xs. (number_of p, factor p) ∷ xs) (take-items k ps)

  item-of : (k : ℕ) (ps : List Part) (q : ℤ × ℤ) → slice_get (items ps) k ≡ Some q
      → (p : Part) × (slice_get ps k ≡ Some p) × ((number_of p, factor p) ≡ q)
  item-of k [] q e = absurd cc
  item-of zero (p ∷ ps) q e = (p, refl, is (number_of p, factor p) q e) where
    is : (x y : ℤ × ℤ) → Some x ≡ Some y → x ≡ y
    is x y e = cc
  item-of (suc k) (p ∷ ps) q e = item-of k ps q e

  take-last : (k : ℕ) (ps : List Part) (p : Part) → slice_get ps k ≡ Some p → (take k ps ++ p ∷ [] ≡ take (suc k) ps) × (length (take k ps) ≡ k)
  take-last k [] p e = absurd cc
  take-last zero (q ∷ ps) p e = (ap (λ x. x ∷ []) (sym (is q p e)), refl) where
    is : (x y : Part) → Some x ≡ Some y → x ≡ y
    is x y e = cc
  take-last (suc k) (q ∷ ps) p e = let t = take-last k ps p e in (ap (λ xs. q ∷ xs) t.0, ap suc t.1)

  taken-at : (n k : ℕ) (ps : List Part) (p : Part) → slice_get (take n ps) k ≡ Some p → slice_get ps k ≡ Some p
  taken-at zero k ps p e = absurd cc
  taken-at (suc n) k [] p e = absurd cc
  taken-at (suc n) zero (q ∷ ps) p e = e
  taken-at (suc n) (suc k) (q ∷ ps) p e = taken-at n k ps p e

  -- ---- over rows

  module _ (others : ℤ → Type 0) (rows : List Row) (r : Row) (all : List Part)
      (stands : (k : ℕ) (p : Part) → slice_get all k ≡ Some p → slice_get (numbers r) k ≡ Some (number_of p))
      (by_factor : (k : ℕ) (p : Part) → slice_get all k ≡ Some p → factor p ≢ pos 0 → IsFactor others rows 0 (factor p)) where
    products : (i : ℕ) (ps : List Part) → ((k : ℕ) (p : Part) → slice_get ps k ≡ Some p → slice_get all (i + k) ≡ Some p)
        → AllByRecursion (IsProduct others rows 0 r) (made i ps)
    products i [] f = tt
    products i (p ∷ rest) f = go (is_other (factor p)) refl
        (products (suc i) rest (λ k q e. subst (λ j. slice_get all j ≡ Some q) (next i k) (f (suc k) q e))) where
          next : (i k : ℕ) → i + suc k ≡ suc i + k
          next i k = omega arith

          here : slice_get all i ≡ Some p
          here = subst (λ j. slice_get all j ≡ Some p) (same i) (f 0 p refl) where
            same : (i : ℕ) → i + 0 ≡ i
            same i = omega arith

          go : (b : Bool) → is_other (factor p) ≡ b → AllByRecursion (IsProduct others rows 0 r) (made (suc i) rest)
              → AllByRecursion (IsProduct others rows 0 r) (cond b (one_at i p ∷ made (suc i) rest) (made (suc i) rest))
          go true e a = (
            record { of_row = stands i p here; by_factor = by_factor i p here (other-than (factor p) e) },
            a,
          )
          go false e a = a

    abbrev Shows : Past → Type 0
    Shows = IsShown others rows r

    nought : within (pos 0) ≡ true
    unfolding within
    nought = refl

    by-product : (k : ℕ) (p : Part) → slice_get all k ≡ Some p → (past : Past)
        → IsOutside Mul (number_of p) (factor p) (number_of p *ℤ factor p) past → Shows past
    by-product k p e past o =
        subst Shows (sym o.0) (
          (
            one_at k p,
            record {
              of_row = stands k p e;
              by_factor = by_factor k p e (λ z.
                  let w : within (number_of p *ℤ factor p) ≡ true =
                  subst (λ y. within y ≡ true) (sym (ap (λ y. number_of p *ℤ y) z ∙ *ℤ-zero (number_of p))) nought in
                  let q : true ≡ false = sym w ∙ o.1 in absurd cc);
            },
            inl (refl, refl),
          ),
          o.1,
        )

    none : (n : ℕ) → n ≡ 0 + n
    none n = omega arith

    by-sum : (k : ℕ) (p : Part) → slice_get all k ≡ Some p → (past : Past)
        → IsOutside Add (sum_in (items (take k all))) (number_of p *ℤ factor p)
        (sum_in (items (take k all)) +ℤ number_of p *ℤ factor p) past → Shows past
    by-sum k p e past o =
        let t = take-last k all p e in
        let whole : made 0 (take k all) ++ made k (p ∷ []) ≡ made 0 (take (suc k) all) =
        ap (λ j. made 0 (take k all) ++ made j (p ∷ [])) (sym t.1 ∙ none (length (take k all))) ∙ sym (made-append 0 (take k all) (p ∷ []))
        ∙ ap (made 0) t.0 in
        subst Shows (sym o.0) (
          (
            made 0 (take k all),
            made k (p ∷ []),
            subst (All (IsProduct others rows 0 r)) (sym whole)
                (All-from_recursion (IsProduct others rows 0 r) (made 0 (take (suc k) all))
                (products 0 (take (suc k) all) (λ j q x. subst (λ i. slice_get all i ≡ Some q) (none j) (taken-at (suc k) j all q x)))),
            subst (λ ps. AllDiffer (map place_in ps)) (sym whole) (differ 0 (take (suc k) all)),
            sym (total-made 0 (take k all)),
            sym (+ℤ_idr (number_of p *ℤ factor p)) ∙ sym (total-made k (p ∷ [])),
          ),
          o.1,
        )

    pub shown : (past : Past) → IsSumPast (items all) past → Shows past
    shown past s =
        let i = item-of s.place all s.product s.stands in
        elim s.outside [
          | inl o ↦ by-product s.place i.0 i.1 past (subst (λ (q : ℤ × ℤ). IsOutside Mul q.0 q.1 (q.0 *ℤ q.1) past) (sym i.2) o)
          | inr o ↦ by-sum s.place i.0 i.1 past
              (subst (λ xs. IsOutside Add (sum_in xs) (number_of i.0 *ℤ factor i.0) (sum_in xs +ℤ number_of i.0 *ℤ factor i.0) past)
              (take-items s.place all)
              (subst (λ (q : ℤ × ℤ). IsOutside Add (sum_in (take s.place (items all))) (q.0 *ℤ q.1)
              (sum_in (take s.place (items all)) +ℤ q.0 *ℤ q.1) past) (sym i.2) o))
        ]

-- ---- over the refuting row

module _ (f : Form) (pairs : List (ℕ × ℤ)) (parts : List Part) (first : List (ℕ × ℤ)) (h : AreRefutedBy f pairs parts)
    (e : slice_get (rows_of f) 0 ≡ Some first) where
  kept : (r : Row) × (r.entries ≡ refuting_row parts) × IsRowOf (rows_of f) (columns_of f) r
  kept = row_is (rows_of f) (columns_of f) (bounds_of parts) (map numbered parts) h.given h.one_row (multipliers_of parts)
      (sizes-are parts) h.on_rows h.absurd (refuting_row parts) (subst AllDiffer (columns-are parts) h.one_row.different)
      (entries-are parts)

  abbrev second : Row
  second = record { entries = first; multipliers = read_off (entry first) (rows_of f) }

  abbrev rows : List Row
  rows = kept.0 ∷ second ∷ []

  second-is : IsRowOf (rows_of f) (columns_of f) second
  second-is =
      let r = row_first (rows_of f) (columns_of f) 0 first h.given e in (
        given_differ (rows_of f) 0 first h.given.different e,
        last_columns (rows_of f),
        last_column first,
        first_basis (rows_of f) (columns_of f) h.given,
        row_at_is (rows_of f) (last_columns (rows_of f)) (last_column first) (entry first)
            (listed_at (last_columns (rows_of f)) 0 (last_column first) (mapped_at last_column (rows_of f) 0 first e)) r,
        r.combination,
      )

  one-second : IsOfOther rows 0 (pos 1)
  one-second = (
    1,
    second,
    (λ q. absurd (omega arith)),
    refl,
    listed_at (numbers second) (length (map (λ (t : ℕ × ℤ). t.1) first)) (pos 1)
        (at-end (map (λ (t : ℕ × ℤ). t.1) first) (read_off (entry first) (rows_of f))
        (mapped_at (λ r. neg_ℤ (entry first (last_column r))) (rows_of f) 0 first e
        ∙ ap (λ z. Some (neg_ℤ z)) (end-at (rows_of f) 0 first h.given.ends e))),
  ) where
    at-end : (xs ys : List ℤ) → slice_get ys 0 ≡ Some (pos 1) → slice_get (xs ++ ys) (length xs) ≡ Some (pos 1)
    at-end [] ys e = e
    at-end (x ∷ xs) ys e = at-end xs ys e

  stands : (k : ℕ) (p : Part) → slice_get parts k ≡ Some p → slice_get (numbers kept.0) k ≡ Some (number_of p)
  stands k p q =
      subst (λ es. slice_get (map (λ (t : ℕ × ℤ). t.1) es ++ kept.0.multipliers) k ≡ Some (number_of p)) (sym kept.1)
      (get-append (map (λ (t : ℕ × ℤ). t.1) (refuting_row parts)) kept.0.multipliers k
      (let a = slice_get_within parts k p q in
      let b : length (refuting_row parts) ≡ length parts = length-map parts (λ (p : Part). (p.bound.column, number_of p)) in
      let c : length (map (λ (t : ℕ × ℤ). t.1) (refuting_row parts)) ≡ length (refuting_row parts) =
      length-map (refuting_row parts) (λ (t : ℕ × ℤ). t.1) in omega arith)
      ∙ mapped_at (λ (t : ℕ × ℤ). t.1) (refuting_row parts) k (p.bound.column, number_of p)
      (mapped_at (λ (p : Part). (p.bound.column, number_of p)) parts k p q))

  allowed : (k : ℕ) (p : Part) → slice_get parts k ≡ Some p → IsAllowed f pairs p
  allowed k p q = All-contains (IsAllowed f pairs) parts p h.allowed (listed_at parts k p q)

  factor-of : (c k : ℕ) (p : Part) → slice_get parts k ≡ Some p → factor_in p.atom.terms c ≢ pos 0
      → IsFactor (IsNumberOf f pairs) rows 0 (factor_in p.atom.terms c)
  factor-of c k p q n = go p.atom.terms (λ d. (allowed k p q).coefficients d) n where
    go : (ts : List (ℕ × ℤ)) → ((d : ℕ) → Rattle.proof_steps.specs.Rows.is_long ts ≡ true → entry ts d ≢ pos 0 → IsNumberOf f pairs (entry ts d))
        → factor_in ts c ≢ pos 0 → IsFactor (IsNumberOf f pairs) rows 0 (factor_in ts c)
    go [] a m = absurd (m refl)
    go (t ∷ []) a m = by (t.0 == c) m where
      by : (b : Bool) → cond b (pos 1) (pos 0) ≢ pos 0 → IsFactor (IsNumberOf f pairs) rows 0 (cond b (pos 1) (pos 0))
      by true m = inl one-second
      by false m = absurd (m refl)
    go (t ∷ u ∷ rest) a m = inr (a c refl m)

  step-of : (past : Past) → IsShown (IsNumberOf f pairs) rows kept.0 past
      → IsPastStep (rows_of f) (columns_of f) (IsNumberOf f pairs) record { rows = refuting_row parts ∷ first ∷ []; past = past }
  step-of past s = record {
    rows = rows;
    kept = ap (λ r. r ∷ first ∷ []) kept.1;
    are_rows = All-cons (IsRowOf (rows_of f) (columns_of f)) kept.0 (second ∷ []) kept.2
        (All-cons (IsRowOf (rows_of f) (columns_of f)) second [] second-is (All-nil (IsRowOf (rows_of f) (columns_of f))));
    place = 0;
    row = kept.0;
    is_row = refl;
    operands = s.0;
    outside = s.1;
  }

  pub sum_is_past : (c : ℕ) (past : Past) → IsSumPast (products_of c parts) past ⊎ IsSumPast (limit_products parts) past
      → IsPastStep (rows_of f) (columns_of f) (IsNumberOf f pairs) record { rows = refuting_row parts ∷ first ∷ []; past = past }
  sum_is_past c past (inl s) = step-of past
      (shown (λ p. factor_in p.atom.terms c) (IsNumberOf f pairs) rows kept.0 parts stands (factor-of c) past s)
  sum_is_past c past (inr s) = step-of past
      (shown (λ p. p.bound.limit) (IsNumberOf f pairs) rows kept.0 parts stands
      (λ k p q n. inr (allowed k p q).limit) past s)
