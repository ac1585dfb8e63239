-- The opposite of a number of a row that is outside 128 bits is a true stop: the number 1 by which it is
-- multiplied is the multiplier of a given row.
use Rattle.std.specs.Prelude.{ℕ, suc, ◌≡◌, ◌<◌, false, List, [], ◌∷◌, ◌++◌, length, map, All, Contains, Some, slice_get}
use Rattle.std.proofs.Common.{sym, ◌∙◌, ap, subst, arith, inl, refl, get_or}
use Rattle.std.proofs.lemmas.List.{length-map, get_or-map}
use Rattle.std.proofs.lemmas.List.Elements.{All-nil, All-cons}
use Rattle.std.proofs.lemmas.Option.{slice_get_within, get_or_from_slice_get}
use lib.IntN.{ℤ, pos, negsuc, ◌-ℤ◌, ◌*ℤ◌, neg_ℤ, +ℤ_idr}
use Rattle.kind_num.specs.Exact.{within}
use Rattle.kind_num.specs.declared.Op.TheVariants.{Sub}
use Rattle.proof_steps.specs.Rows.{IsBasis, IsRow, AllDiffer, entry}
use Rattle.proof_steps.specs.Stopped.{Row, IsRowOf, IsPastStep, Product, IsProduct, IsOfOther, numbers}
use Rattle.int_simplex.specs.Given.{AreGiven, column_of, IsWithin, last_column, last_columns}
use Rattle.int_simplex.specs.Inner.{IsRowAt, read_off}
use Rattle.int_simplex.proofs.Places.{mapped_at, get-append, listed_at, at_listed}
use Rattle.int_simplex.proofs.Combos.{row_at_is}
use Rattle.int_simplex.proofs.Apart.{apart, end-at}
use Rattle.int_simplex.proofs.First.{row_first, first_differ, place-of, times-one}

abbrev number_in : ℕ × ℤ → ℤ
number_in t = t.1

last-below : (n : ℕ) (r : List (ℕ × ℤ)) → IsWithin n r → 0 < length r → last_column r < n
last-below n [] h l = absurd (omega arith)
last-below n (t ∷ []) h l = let a : t.0 < n = h 0 t (omega arith) in omega arith
last-below n (t ∷ u ∷ r) h l =
    let a : t.0 < n = h 0 t (omega arith) in
    let b : last_column (u ∷ r) < n = last-below n (u ∷ r) (λ k d i. h (suc k) d (omega arith)) (omega arith) in
    omega arith

not-empty : (r : List (ℕ × ℤ)) → entry r (last_column r) ≡ negsuc 0 → 0 < length r
not-empty [] e = absurd cc
not-empty (t ∷ r) e = omega arith

-- the last columns of the given rows are a basis
pub first_basis : (given : List (List (ℕ × ℤ))) (columns : ℕ) → AreGiven given columns → IsBasis given columns (last_columns given)
first_basis given columns g = record {
  count = length-map given last_column;
  different = first_differ given (apart given columns g);
  in_range = λ k d h.
      let l : length (map last_column given) ≡ length given = length-map given last_column in
      let b : k < length given = omega arith in
      let e : get_or (map last_column given) k d ≡ last_column (get_or given k []) = get_or-map last_column given k [] d b in
      let w : last_column (get_or given k []) < columns =
      last-below columns (get_or given k []) (g.in_range k [] b) (not-empty (get_or given k []) (g.ends k [] b)) in
      omega arith;
  rows = λ x i.
      let k = at_listed (last_columns given) x i in
      let s = place-of given k.0 x k.1 in
      let P : ℕ → Type 0 = λ y. (ms : List ℤ) × IsRow given (last_columns given) y ms in
      subst P s.2 (
        read_off (entry s.0) given,
        row_at_is given (last_columns given) (last_column s.0) (entry s.0)
            (listed_at (last_columns given) k.0 (last_column s.0) (mapped_at last_column given k.0 s.0 s.1))
            (row_first given columns k.0 s.0 g s.1),
      );
}

one-of : (z : ℤ) → z ≡ negsuc 0 → neg_ℤ z ≡ pos 1
one-of z e = ap neg_ℤ e

pub given_differ : (given : List (List (ℕ × ℤ))) (k : ℕ) (g : List (ℕ × ℤ)) → All (λ (r : List (ℕ × ℤ)). AllDiffer (map column_of r)) given
    → slice_get given k ≡ Some g → AllDiffer (map column_of g)
given_differ given k g a e =
    let h : k < length given = slice_get_within given k g e in
    let P : List (ℕ × ℤ) → Type 0 = λ r. AllDiffer (map column_of r) in
    subst P (get_or_from_slice_get given k g g e) (a k g h)

pub given_within : (columns : ℕ) (given : List (List (ℕ × ℤ))) (k : ℕ) (g : List (ℕ × ℤ)) → All (IsWithin columns) given
    → slice_get given k ≡ Some g → IsWithin columns g
given_within columns given k g a e =
    let h : k < length given = slice_get_within given k g e in
    let P : List (ℕ × ℤ) → Type 0 = λ r. IsWithin columns r in
    subst P (get_or_from_slice_get given k g g e) (a k g h)

pub opposite_past : (given : List (List (ℕ × ℤ))) (columns : ℕ) (others : ℤ → Type 0) (basis : List ℕ) (x k : ℕ) (t : ℕ × ℤ)
    (row g : List (ℕ × ℤ)) (rest : List (List (ℕ × ℤ))) → given ≡ g ∷ rest → AreGiven given columns → IsBasis given columns basis
    → Contains basis x → IsRowAt given basis x (entry row) → AllDiffer (map (λ (t : ℕ × ℤ). t.0) row) → slice_get row k ≡ Some t → within (pos 0 -ℤ t.1) ≡ false
    → IsPastStep given columns others record { rows = row ∷ g ∷ []; past = record { op = Sub; left = pos 0; right = t.1 } }
opposite_past given columns others basis x k t row g rest eg ag b ix rx differ et w = record {
  rows = first ∷ second ∷ [];
  kept = refl;
  are_rows = All-cons (IsRowOf given columns) first (second ∷ []) (differ, basis, x, b, row_at_is given basis x (entry row) ix rx, rx.combination)
      (All-cons (IsRowOf given columns) second [] (
        given_differ given 0 g ag.different at-first,
        last_columns given,
        last_column g,
        first_basis given columns ag,
        row_at_is given (last_columns given) (last_column g) (entry g) ig rg,
        rg.combination,
      )
      (All-nil (IsRowOf given columns)));
  place = 0;
  row = first;
  is_row = refl;
  operands = (
    [],
    product ∷ [],
    All-cons (IsProduct others (first ∷ second ∷ []) 0 first) product [] record { of_row = number-first; by_factor = inl one-second }
        (All-nil (IsProduct others (first ∷ second ∷ []) 0 first)),
    ((λ (j, h, s). absurd (omega arith)), tt),
    refl,
    sym (times-one t.1) ∙ sym (+ℤ_idr (t.1 *ℤ pos 1)),
  );
  outside = w;
} where
  first : Row
  first = record { entries = row; multipliers = read_off (entry row) given }

  second : Row
  second = record { entries = g; multipliers = read_off (entry g) given }

  product : Product
  product = record { place = k; number = t.1; factor = pos 1; negative = false }

  at-first : slice_get given 0 ≡ Some g
  at-first = ap (λ (rows : List (List (ℕ × ℤ))). slice_get rows 0) eg

  ig : Contains (last_columns given) (last_column g)
  ig = listed_at (last_columns given) 0 (last_column g) (mapped_at last_column given 0 g at-first)

  rg : IsRowAt given (last_columns given) (last_column g) (entry g)
  rg = row_first given columns 0 g ag at-first

  number-first : slice_get (numbers first) k ≡ Some t.1
  number-first =
      let h : k < length row = slice_get_within row k t et in
      let l : length (map number_in row) ≡ length row = length-map row number_in in
      get-append (map number_in row) (read_off (entry row) given) k (omega arith) ∙ mapped_at number_in row k t et

  own : entry g (last_column g) ≡ negsuc 0
  own = end-at given 0 g ag.ends at-first

  one-second : IsOfOther (first ∷ second ∷ []) 0 (pos 1)
  one-second = (
    1,
    second,
    (λ q. absurd (omega arith)),
    refl,
    listed_at (numbers second) (length (map number_in g)) (pos 1)
        (at-end (map number_in g) (read_off (entry g) given) (ap (λ (rows : List (List (ℕ × ℤ))). slice_get (read_off (entry g) rows) 0) eg
        ∙ ap Some (one-of (entry g (last_column g)) own))),
  ) where
    at-end : (xs ys : List ℤ) → slice_get ys 0 ≡ Some (pos 1) → slice_get (xs ++ ys) (length xs) ≡ Some (pos 1)
    at-end [] ys e = e
    at-end (x ∷ xs) ys e = at-end xs ys e
