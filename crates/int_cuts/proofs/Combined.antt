-- The columns that given rows define, put in: what a sum over columns comes to at the others.
use Rattle.std.specs.Prelude.{ℕ, zero, suc, ◌≡◌, ◌≢◌, ◌⊎◌, ◌==◌, ◌<◌, ◌≤◌, Bool, true, false, cond, List, [], ◌∷◌, map, All, Contains, Option, Some, None, slice_get}
use Rattle.std.proofs.Common.{sym, ◌∙◌, ap, subst, arith, refl, inl, inr}
use Rattle.std.proofs.lemmas.Int.{ints}
use Rattle.std.proofs.lemmas.List.{length-map}
use Rattle.std.proofs.lemmas.Option.{slice_get_within, slice_get-get_or}
use lib.IntN.{ℤ, pos, negsuc, ◌+ℤ◌, ◌*ℤ◌, neg_ℤ, *ℤ-zero, zero-*ℤ}
use Rattle.kind_num.proofs.Ring.{times_sum, sum_times, neg_times, times_times}
use Rattle.proof_steps.specs.Rows.{entry, combined, AllDiffer}
use Rattle.int_simplex.specs.Farkas.{turned, weight}
use Rattle.int_simplex.specs.Given.{AreGiven, last_column, last_columns, IsWithin}
use Rattle.int_simplex.specs.Inner.{read_off, IsCombination}
use Rattle.int_simplex.proofs.Apart.{apart, end-at, read_off_is}
use Rattle.int_simplex.proofs.First.{first_differ, times-one, place-of}
use Rattle.int_simplex.proofs.Places.{same_some, listed_at, at_listed, mapped_at}
use Rattle.int_simplex.proofs.Sorting.{entry_zero}
use Rattle.int_simplex.proofs.Sparse.{by_test, same_if, other_if, is_other, is_same}
use Rattle.int_cuts.specs.Parts.{IsDefinedBy, coefficient_by, coefficient_of, row_of, sum_by}
use Rattle.int_cuts.specs.declared.parts.Part.{Part}
use Rattle.int_cuts.proofs.Remainders.{Multiple, times_less}
use Rattle.int_cuts.proofs.Multiples.{bounds_of, multipliers_of}

-- each given row times what stands in its last column
abbrev pub put_in : (ℕ → ℤ) → List (List (ℕ × ℤ)) → ℕ → ℤ
put_in f rows c = combined (map (λ r. f (last_column r)) rows) rows c

pub put_same : (f g : ℕ → ℤ) → ((c : ℕ) → f c ≡ g c) → (rows : List (List (ℕ × ℤ))) (c : ℕ) → put_in f rows c ≡ put_in g rows c
put_same f g h [] c = refl
put_same f g h (r ∷ rows) c =
    ap (λ z. z *ℤ entry r c +ℤ put_in f rows c) (h (last_column r)) ∙ ap (λ z. g (last_column r) *ℤ entry r c +ℤ z) (put_same f g h rows c)

pub put_both : (f g : ℕ → ℤ) (rows : List (List (ℕ × ℤ))) (c : ℕ) → put_in (λ k. f k +ℤ g k) rows c ≡ put_in f rows c +ℤ put_in g rows c
put_both f g [] c = refl
put_both f g (r ∷ rows) c =
    let i = put_both f g rows c in
    let a : (f (last_column r) +ℤ g (last_column r)) *ℤ entry r c ≡ f (last_column r) *ℤ entry r c +ℤ g (last_column r) *ℤ entry r c
    = times_sum (f (last_column r)) (g (last_column r)) (entry r c) in
    omega (arith, ints)

put-times : (d : ℤ) (f : ℕ → ℤ) (rows : List (List (ℕ × ℤ))) (c : ℕ) → put_in (λ k. d *ℤ f k) rows c ≡ d *ℤ put_in f rows c
put-times d f [] c = sym (*ℤ-zero d)
put-times d f (r ∷ rows) c =
    let i = put-times d f rows c in
    let a : (d *ℤ f (last_column r)) *ℤ entry r c ≡ d *ℤ (f (last_column r) *ℤ entry r c) = times_times d (f (last_column r)) (entry r c) in
    let b : d *ℤ (f (last_column r) *ℤ entry r c +ℤ put_in f rows c) ≡ d *ℤ (f (last_column r) *ℤ entry r c) +ℤ d *ℤ put_in f rows c
    = sum_times d (f (last_column r) *ℤ entry r c) (put_in f rows c) in
    omega (arith, ints)

put-read : (e : ℕ → ℤ) (rows : List (List (ℕ × ℤ))) (c : ℕ) → combined (read_off e rows) rows c ≡ neg_ℤ (put_in e rows c)
put-read e [] c = refl
put-read e (r ∷ rows) c =
    let i = put-read e rows c in
    let a : neg_ℤ (e (last_column r)) *ℤ entry r c ≡ neg_ℤ (e (last_column r) *ℤ entry r c) = neg_times (e (last_column r)) (entry r c) in
    omega (arith, ints)

-- of a combination nothing is left
put_combination : (given : List (List (ℕ × ℤ))) (e : ℕ → ℤ) → IsCombination given e → (c : ℕ) → e c +ℤ put_in e given c ≡ pos 0
put_combination given e h c = let a = h c in let b = put-read e given c in omega (arith, ints)

-- where the columns and a combination are multiples together, what is left of the columns is one
pub left_multiple : (given : List (List (ℕ × ℤ))) (d : ℤ) (w e : ℕ → ℤ) → IsCombination given e → ((c : ℕ) → Multiple d (w c +ℤ e c))
    → (c : ℕ) → Multiple d (w c +ℤ put_in w given c)
left_multiple given d w e h m c =
    let a = put_combination given e h c in
    let b = put_both w e given c in
    let f : put_in (λ k. w k +ℤ e k) given c ≡ put_in (λ k. d *ℤ (m k).0) given c
    = put_same (λ k. w k +ℤ e k) (λ k. d *ℤ (m k).0) (λ k. (m k).1) given c in
    let g = put-times d (λ k. (m k).0) given c in
    let o = (m c).1 in
    let s : d *ℤ ((m c).0 +ℤ put_in (λ k. (m k).0) given c) ≡ d *ℤ (m c).0 +ℤ d *ℤ put_in (λ k. (m k).0) given c
    = sum_times d (m c).0 (put_in (λ k. (m k).0) given c) in
    ((m c).0 +ℤ put_in (λ k. (m k).0) given c, omega (arith, ints))

-- t in one column, and nothing else
abbrev pub only : ℕ → ℤ → ℕ → ℤ
only x t k = cond (x == k) t (pos 0)

only-there : (x k : ℕ) (t : ℤ) → x ≢ k → only x t k ≡ pos 0
only-there x k t n = ap (λ b. cond b t (pos 0)) (is_other x k n)

only-here : (x k : ℕ) (t : ℤ) → x ≡ k → only x t k ≡ t
only-here x k t e = ap (λ y. cond (y == k) t (pos 0)) e ∙ ap (λ b. cond b t (pos 0)) (is_same k)

put-nothing : (x : ℕ) (t : ℤ) (rows : List (List (ℕ × ℤ))) (c : ℕ) → ((k : ℕ) (g : List (ℕ × ℤ)) → slice_get rows k ≡ Some g → last_column g ≢ x)
    → put_in (only x t) rows c ≡ pos 0
put-nothing x t [] c h = refl
put-nothing x t (r ∷ rows) c h =
    let i = put-nothing x t rows c (λ k g e. h (suc k) g e) in
    let a : only x t (last_column r) *ℤ entry r c ≡ pos 0
    = ap (λ z. z *ℤ entry r c) (only-there x (last_column r) t (λ e. h 0 r refl (sym e))) ∙ zero-*ℤ (entry r c) in
    omega (arith, ints)

not-first : (r g : List (ℕ × ℤ)) (rows : List (List (ℕ × ℤ))) (k : ℕ) → AllDiffer (last_columns (r ∷ rows)) → slice_get rows k ≡ Some g
    → last_column g ≢ last_column r
not-first r g rows k d e q = d.0 (let P : ℕ → Type 0 = λ c. Contains (last_columns rows) c in
    subst P q (listed_at (last_columns rows) k (last_column g) (mapped_at last_column rows k g e)))

put-row : (x : ℕ) (t : ℤ) (rows : List (List (ℕ × ℤ))) (c k : ℕ) (g : List (ℕ × ℤ)) → AllDiffer (last_columns rows)
    → slice_get rows k ≡ Some g → last_column g ≡ x
    → put_in (only x t) rows c ≡ t *ℤ entry g c
put-row x t [] c k g d e q = absurd cc
put-row x t (r ∷ rows) c zero g d e q =
    let s : r ≡ g = same_some r g e in
    let i = put-nothing x t rows c (λ j h f w. not-first r h rows j d f (w ∙ sym q ∙ sym (ap last_column s))) in
    let a : only x t (last_column r) *ℤ entry r c ≡ t *ℤ entry g c
    = ap (λ z. z *ℤ entry r c) (only-here x (last_column r) t (sym q ∙ sym (ap last_column s))) ∙ ap (λ z. t *ℤ entry z c) s in
    omega (arith, ints)
put-row x t (r ∷ rows) c (suc k) g d e q =
    let i = put-row x t rows c k g d.1 e q in
    let a : only x t (last_column r) *ℤ entry r c ≡ pos 0
    = ap (λ z. z *ℤ entry r c) (only-there x (last_column r) t (λ w. not-first r g rows k d e (q ∙ w))) ∙ zero-*ℤ (entry r c) in
    omega (arith, ints)

times-coefficient : (b : Bool) (t f : ℤ) → t *ℤ cond b f (pos 0) ≡ cond b (t *ℤ f) (pos 0)
times-coefficient true t f = refl
times-coefficient false t f = *ℤ-zero t

-- one column's number: its coefficients
one-column : (given : List (List (ℕ × ℤ))) (columns x c : ℕ) (t : ℤ) (row : Option ℕ) → AreGiven given columns → IsDefinedBy given x row
    → only x t c +ℤ put_in (only x t) given c ≡ t *ℤ coefficient_by given x row c
one-column given columns x c t None a d = by (x == c) (put-nothing x t given c d) where
  by : (b : Bool) {z : ℤ} → z ≡ pos 0 → cond b t (pos 0) +ℤ z ≡ t *ℤ cond b (pos 1) (pos 0)
  by true e = let o = times-one t in omega (arith, ints)
  by false e = let o : t *ℤ pos 0 ≡ pos 0 = *ℤ-zero t in omega (arith, ints)
one-column given columns x c t (Some k) a (g, e, q) =
    by (by_test (x == c)) (put-row x t given c k g (first_differ given (apart given columns a)) e q) where
      entry-is : entry (row_of (slice_get given k)) c ≡ entry g c
      entry-is = ap (λ o. entry (row_of o) c) e

      by : ((x == c) ≡ true) ⊎ ((x == c) ≡ false) → put_in (only x t) given c ≡ t *ℤ entry g c
          → only x t c +ℤ put_in (only x t) given c ≡ t *ℤ coefficient_by given x (Some k) c
      by (inl h) p =
          let w : x ≡ c = same_if x c h in
          let o : entry g c ≡ negsuc 0 = ap (entry g) (sym (q ∙ w)) ∙ end-at given k g a.ends e in
          let l : t *ℤ entry g c ≡ neg_ℤ t = ap (λ z. t *ℤ z) o ∙ times_less t in
          let m = only-here x c t w in
          let r : t *ℤ coefficient_by given x (Some k) c ≡ pos 0 = ap (λ b. t *ℤ cond b (pos 0) (entry (row_of (slice_get given k)) c)) h ∙ *ℤ-zero t in
          omega (arith, ints)
      by (inr h) p =
          let m = only-there x c t (other_if x c h) in
          let r : t *ℤ coefficient_by given x (Some k) c ≡ t *ℤ entry g c = ap
          (λ b. t *ℤ cond b (pos 0) (entry (row_of (slice_get given k)) c)) h ∙ ap (λ z. t *ℤ z) entry-is in
          omega (arith, ints)

turned-product : (side : Bool) (m f : ℤ) → turned side (m *ℤ f) ≡ turned side m *ℤ f
turned-product true m f = refl
turned-product false m f = sym (neg_times m f)

weight-next : (b : Bool) (t w : ℤ) → cond b (t +ℤ w) w ≡ cond b t (pos 0) +ℤ w
weight-next true t w = refl
weight-next false t w = omega (arith, ints)

-- each part's row is that which defines its column
abbrev pub AreDefinedBy : List (List (ℕ × ℤ)) → List Part → Type 0
AreDefinedBy given [] = Unit
AreDefinedBy given (p ∷ parts) = IsDefinedBy given p.column p.row × AreDefinedBy given parts

-- the sums of the parts are what is left of their bounds
pub sums_left : (given : List (List (ℕ × ℤ))) (columns : ℕ) → AreGiven given columns → (parts : List Part) → AreDefinedBy given parts → (c : ℕ)
    → sum_by given (Some c) parts ≡ weight (multipliers_of parts) (bounds_of parts) c +ℤ put_in (weight (multipliers_of parts) (bounds_of parts)) given c
sums_left given columns a [] d c = sym (nothing given c) where
  nothing : (rows : List (List (ℕ × ℤ))) (c : ℕ) → pos 0 +ℤ put_in (λ k. pos 0) rows c ≡ pos 0
  nothing [] c = refl
  nothing (r ∷ rows) c = let i = nothing rows c in let e : pos 0 *ℤ entry r c ≡ pos 0 = zero-*ℤ (entry r c) in omega (arith, ints)
sums_left given columns a (p ∷ parts) d c =
    let i = sums_left given columns a parts d.1 c in
    let o = one-column given columns p.column c (turned p.upper p.multiplier) p.row a d.0 in
    let t = turned-product p.upper p.multiplier (coefficient_of given p c) in
    let n = weight-next (p.column == c) (turned p.upper p.multiplier) (weight (multipliers_of parts) (bounds_of parts) c) in
    let e = put_same (weight (multipliers_of (p ∷ parts)) (bounds_of (p ∷ parts)))
    (λ k. only p.column (turned p.upper p.multiplier) k +ℤ weight (multipliers_of parts) (bounds_of parts) k)
    (λ k. weight-next (p.column == k) (turned p.upper p.multiplier) (weight (multipliers_of parts) (bounds_of parts) k)) given c in
    let b = put_both (only p.column (turned p.upper p.multiplier)) (weight (multipliers_of parts) (bounds_of parts)) given c in
    join (turned p.upper (p.multiplier *ℤ coefficient_of given p c)) (sum_by given (Some c) parts) (only p.column (turned p.upper p.multiplier) c)
    (put_in (only p.column (turned p.upper p.multiplier)) given c) (weight (multipliers_of parts) (bounds_of parts) c)
    (put_in (weight (multipliers_of parts) (bounds_of parts)) given c) (weight (multipliers_of (p ∷ parts)) (bounds_of (p ∷ parts)) c)
    (put_in (weight (multipliers_of (p ∷ parts)) (bounds_of (p ∷ parts))) given c) (t ∙ sym o) i n (e ∙ b) where
      join : (x y d s w t v u : ℤ) → x ≡ d +ℤ s → y ≡ w +ℤ t → v ≡ d +ℤ w → u ≡ s +ℤ t → x +ℤ y ≡ v +ℤ u
      join x y d s w t v u a b e f = omega (arith, ints)

-- in the last column of a given row nothing is left
pub none_left : (given : List (List (ℕ × ℤ))) (columns : ℕ) → AreGiven given columns → (f : ℕ → ℤ) (c : ℕ) → Contains (last_columns given) c
    → f c +ℤ put_in f given c ≡ pos 0
none_left given columns a f c i =
    let j = at_listed (last_columns given) c i in
    let s = place-of given j.0 c j.1 in
    let r = read_off_is (map (λ r. f (last_column r)) given) given (apart given columns a) (length-map given (λ r. f (last_column r))) in
    let e1 : slice_get (read_off (put_in f given) given) j.0 ≡ Some (neg_ℤ (put_in f given (last_column s.0)))
    = mapped_at (λ r. neg_ℤ (put_in f given (last_column r))) given j.0 s.0 s.1 in
    let e2 : slice_get (map (λ r. f (last_column r)) given) j.0 ≡ Some (f (last_column s.0)) = mapped_at (λ r. f (last_column r)) given j.0 s.0 s.1 in
    let q : neg_ℤ (put_in f given (last_column s.0)) ≡ f (last_column s.0)
    = same_some (neg_ℤ (put_in f given (last_column s.0))) (f (last_column s.0)) (sym e1 ∙ ap (λ ms. slice_get ms j.0) r ∙ e2) in
    let P : ℕ → Type 0 = λ k. f k +ℤ put_in f given k ≡ pos 0 in
    subst P s.2 (omega (arith, ints))

-- beyond the columns there is nothing
put-beyond : (f : ℕ → ℤ) (columns : ℕ) (rows : List (List (ℕ × ℤ))) (c : ℕ) → ((k : ℕ) (g : List (ℕ × ℤ)) → slice_get rows k ≡ Some g → entry g c ≡ pos 0)
    → put_in f rows c ≡ pos 0
put-beyond f columns [] c h = refl
put-beyond f columns (r ∷ rows) c h =
    let i = put-beyond f columns rows c (λ k g e. h (suc k) g e) in
    let a : f (last_column r) *ℤ entry r c ≡ pos 0 = ap (λ z. f (last_column r) *ℤ z) (h 0 r refl) ∙ *ℤ-zero (f (last_column r)) in
    omega (arith, ints)

pub beyond_entry : (columns : ℕ) (row : List (ℕ × ℤ)) (c : ℕ) → IsWithin columns row → columns ≤ c → entry row c ≡ pos 0
beyond_entry columns row c w l = entry_zero row c (λ k t e q.
    let b = slice_get_within row k t e in
    let P : ℕ × ℤ → Type 0 = λ u. u.0 < columns in
    let n : t.0 < columns = subst P (same_some _ t (sym (slice_get-get_or row k t b) ∙ e)) (w k t b) in
    absurd (omega arith))

pub put_beyond : (f : ℕ → ℤ) (columns : ℕ) (given : List (List (ℕ × ℤ))) (c : ℕ) → All (IsWithin columns) given → columns ≤ c → put_in f given c ≡ pos 0
put_beyond f columns given c w l = put-beyond f columns given c (λ k g e.
    let b = slice_get_within given k g e in
    let P : List (ℕ × ℤ) → Type 0 = λ u. IsWithin columns u in
    beyond_entry columns g c (subst P (same_some _ g (sym (slice_get-get_or given k g b) ∙ e)) (w k g b)) l)
