-- What stops a run is a true stop.
use Rattle.std.specs.Prelude.{ℕ, zero, suc, ◌≡◌, ◌≢◌, ◌⊎◌, ◌==◌, ◌<◌, ◌≤◌, ◌+◌, false, cond, List, [], ◌∷◌, ◌++◌, take, length, map, All, Contains, Some, Result, Ok, Err, IfErr, IsErrAnd, slice_get}
use Rattle.std.proofs.Common.{sym, ◌∙◌, ap, subst, arith, refl, inl, inr, get_or}
use Rattle.std.proofs.lemmas.List.Elements.{All-nil, All-cons}
use Rattle.std.proofs.lemmas.Option.{slice_get_within, slice_get-get_or}
use Rattle.std.proofs.lemmas.List.{length-map}
use Rattle.std.proofs.lemmas.Int.{ints}
use lib.IntN.{ℤ, pos, negsuc, ◌+ℤ◌, ◌*ℤ◌, *ℤ-zero, +ℤ_idr}
use Rattle.kind_num.specs.Exact.{within}
use Rattle.kind_num.specs.declared.Past.{Past}
use Rattle.kind_num.specs.declared.Op.TheVariants.{Add, Mul}
use Rattle.proof_steps.specs.StopView.{past_view}
use Rattle.proof_steps.specs.Rows.{IsBasis, AllDiffer, entry}
use Rattle.proof_steps.specs.Stopped.{Row, IsRowOf, IsPastStep, Product, IsProduct, AreOperands, numbers, total, result_of}
use Rattle.int_simplex.specs.Given.{last_column, last_columns}
use Rattle.int_simplex.specs.Inner.{IsRowAt, read_off}
use Rattle.int_simplex.specs.Sparse.{IsSparse}
use Rattle.int_simplex.specs.Valued.{rest_in, IsRestPast, IsOpposedPast, IsValuePast, IsValuesPast, place_at}
use Rattle.int_simplex.specs.Refuting.{IsSizePast}
use Rattle.int_simplex.specs.Pivoting.{IsTurnPast}
use Rattle.int_simplex.specs.Running.{IsReady, IsStopped, ArePlacesOf}
use Rattle.int_simplex.specs.declared.trouble.Stopped.{Stopped}
use Rattle.int_simplex.specs.declared.trouble.Stopped.TheVariants as s
use Rattle.int_simplex.proofs.Places.{listed_at, get-append, mapped_at, same_some}
use Rattle.int_simplex.proofs.Combos.{row_at_is}
use Rattle.int_simplex.proofs.First.{row_first}
use Rattle.int_simplex.proofs.Opposites.{opposite_past, given_differ, first_basis}
use Rattle.int_simplex.proofs.Pasts.{basis_of, cross_past}
use Rattle.int_simplex.proofs.Sparse.{by_test, sparse_differ, entry_at}
use Rattle.int_simplex.proofs.Turned.{there}
use Rattle.int_simplex.proofs.Rests.{rest-last, take-next, take-whole}

abbrev number_in : ℕ × ℤ → ℤ
number_in t = t.1

zero-or : (z : ℤ) → (z ≡ pos 0) ⊎ (z ≢ pos 0)
zero-or (pos zero) = inl refl
zero-or (pos (suc n)) = inr (λ e. absurd (omega (arith, ints)))
zero-or (negsuc n) = inr (λ e. absurd (omega (arith, ints)))

-- the number of a step's own parts
abbrev Step : List (ℕ × ℤ) → List (ℕ × ℤ) → Past → Rattle.proof_steps.specs.StopView.Operation
Step row other past = record { rows = row ∷ other ∷ []; past = past }

module _ (given : List (List (ℕ × ℤ))) (columns : ℕ) (others : ℤ → Type 0) (basis : List ℕ) (rows : List (List (ℕ × ℤ))) (ready : IsReady given columns basis rows) where
  is-basis : IsBasis given columns basis
  is-basis = basis_of given columns basis rows ready.count ready.different ready.in_range ready.are_rows

  module _ (k x : ℕ) (row g : List (ℕ × ℤ)) (ex : slice_get basis k ≡ Some x) (er : slice_get rows k ≡ Some row) (eg : slice_get given 0 ≡ Some g) where
    ra : IsRowAt given basis x (entry row)
    ra = ready.are_rows.each k x row ex er

    sr : IsSparse columns row
    sr = ready.are_rows.sparse k row er

    given-is : (rest : List (List (ℕ × ℤ))) × (given ≡ g ∷ rest)
    given-is = by given eg where
      by : (rows : List (List (ℕ × ℤ))) → slice_get rows 0 ≡ Some g → (rest : List (List (ℕ × ℤ))) × (rows ≡ g ∷ rest)
      by [] e = absurd cc
      by (h ∷ rest) e = (rest, ap (λ z. z ∷ rest) (same_some h g e))

    -- an opposite of a number of the row
    pub opposed : (j : ℕ) (t : ℕ × ℤ) (past : Past) → slice_get row j ≡ Some t → IsOpposedPast t.1 past → IsPastStep given columns others (Step row g past)
    opposed j t past et o =
        let P : Past → Type 0 = λ p. IsPastStep given columns others (Step row g p) in
        subst P (sym o.0) (opposite_past given columns others basis x j t row g given-is.0 given-is.1 ready.given_rows is-basis (listed_at basis k x ex) ra
        (sparse_differ 0 columns row sr) et o.1)

    abbrev first : Row
    first = record { entries = row; multipliers = read_off (entry row) given }

    abbrev second : Row
    second = record { entries = g; multipliers = read_off (entry g) given }

    abbrev both : List Row
    both = first ∷ second ∷ []

    are-both : All (IsRowOf given columns) both
    are-both =
        let rg = row_first given columns 0 g ready.given_rows eg in
        All-cons (IsRowOf given columns) first (second ∷ [])
        (sparse_differ 0 columns row sr, basis, x, is-basis, row_at_is given basis x (entry row) (listed_at basis k x ex) ra, ra.combination)
        (All-cons (IsRowOf given columns) second [] (
          given_differ given 0 g ready.given_rows.different eg,
          last_columns given,
          last_column g,
          first_basis given columns ready.given_rows,
          row_at_is given (last_columns given) (last_column g) (entry g)
              (listed_at (last_columns given) 0 (last_column g) (mapped_at last_column given 0 g eg)) rg,
          rg.combination,
        ) (All-nil (IsRowOf given columns)))

    step-of : (past : Past) → AreOperands others both 0 first past.op past.left past.right → within (result_of past.op past.left past.right) ≡ false
        → IsPastStep given columns others (Step row g past)
    step-of past o w = record { rows = both; kept = refl; are_rows = are-both; place = 0; row = first; is_row = refl; operands = o; outside = w }

    number-first : (j : ℕ) (t : ℕ × ℤ) → slice_get row j ≡ Some t → slice_get (numbers first) j ≡ Some t.1
    number-first j t e =
        let h : j < length row = slice_get_within row j t e in
        let l : length (map number_in row) ≡ length row = length-map row number_in in
        get-append (map number_in row) (read_off (entry row) given) j (omega arith) ∙ mapped_at number_in row j t e

    module _ (f : ℕ → ℤ) (allowed : (c : ℕ) → f c ≢ pos 0 → others (f c)) where
      abbrev place-of-product : Product → ℕ
      place-of-product p = p.place

      -- the products of the first terms, but for x's own and those at the place 0
      record Sum (xs : List (ℕ × ℤ)) (n : ℕ) : Type 0 where
        products : List Product
        are_products : All (IsProduct others both 0 first) products
        low : (j : ℕ) → Contains (map place-of-product products) j → j < n
        differ : AllDiffer (map place-of-product products)
        is_sum : total products ≡ rest_in x f xs

      is-product : (j : ℕ) (t : ℕ × ℤ) → slice_get row j ≡ Some t → f t.0 ≢ pos 0 → IsProduct others both 0 first
          (record { place = j; number = t.1; factor = f t.0; negative = false })
      is-product j t e n = record { of_row = number-first j t e; by_factor = inr (allowed t.0 n) }

      sum-none : Sum [] 0
      sum-none = record {
        products = [];
        are_products = All-nil (IsProduct others both 0 first);
        low = λ j (i, h, e). absurd (omega arith);
        differ = tt;
        is_sum = refl;
      }

      sum-skip : (xs ys : List (ℕ × ℤ)) (n : ℕ) → rest_in x f ys ≡ rest_in x f xs → Sum xs n → Sum ys (n + 1)
      sum-skip xs ys n e m = record {
        products = m.products;
        are_products = m.are_products;
        low = λ j i. let h = m.low j i in omega arith;
        differ = m.differ;
        is_sum = m.is_sum ∙ sym e;
      }

      sum-add : (xs ys : List (ℕ × ℤ)) (n : ℕ) (t : ℕ × ℤ) → slice_get row n ≡ Some t → f t.0 ≢ pos 0 → rest_in x f ys ≡ t.1 *ℤ f t.0 +ℤ rest_in x f xs
          → Sum xs n → Sum ys (n + 1)
      sum-add xs ys n t et z e m =
          let p : Product = record { place = n; number = t.1; factor = f t.0; negative = false } in record {
            products = p ∷ m.products;
            are_products = All-cons (IsProduct others both 0 first) p m.products (is-product n t et z) m.are_products;
            low = more-low n m.products p refl m.low;
            differ = ((λ i. let h : n < n = m.low n i in absurd (omega arith)), m.differ);
            is_sum = ap (λ w. t.1 *ℤ f t.0 +ℤ w) m.is_sum ∙ sym e;
          } where
            more-low : (n : ℕ) (ps : List Product) (p : Product) → p.place ≡ n → ((k : ℕ) → Contains (map place-of-product ps) k → k < n)
                → (k : ℕ) → Contains (map place-of-product (p ∷ ps)) k → k < n + 1
            more-low n ps p e f k (zero, h, s) = let q : p.place ≡ k = s in omega arith
            more-low n ps p e f k (suc j, h, s) = let q : k < n = f k (j, (let l = h in omega arith), s) in omega arith

      sum-step : (n : ℕ) (t : ℕ × ℤ) → slice_get row n ≡ Some t → (xs : List (ℕ × ℤ)) → Sum xs n → Sum (xs ++ t ∷ []) (n + 1)
      sum-step n t et xs m = elim (by_test (t.0 == x)) [
        | inl q ↦ sum-skip xs (xs ++ t ∷ []) n (rest-last x f xs t ∙ ap (λ b. cond b (rest_in x f xs) (t.1 *ℤ f t.0 +ℤ rest_in x f xs)) q) m
        | inr q ↦
            let e : rest_in x f (xs ++ t ∷ []) ≡ t.1 *ℤ f t.0 +ℤ rest_in x f xs =
            rest-last x f xs t ∙ ap (λ b. cond b (rest_in x f xs) (t.1 *ℤ f t.0 +ℤ rest_in x f xs)) q in
            elim (zero-or (f t.0)) [
              | inl z ↦ sum-skip xs (xs ++ t ∷ []) n (e ∙ nothing t.1 (f t.0) (rest_in x f xs) z) m
              | inr z ↦ sum-add xs (xs ++ t ∷ []) n t et z e m
            ]
      ] where
        nothing : (a z s : ℤ) → z ≡ pos 0 → a *ℤ z +ℤ s ≡ s
        nothing a z s e = let q : a *ℤ z ≡ pos 0 = ap (λ w. a *ℤ w) e ∙ *ℤ-zero a in omega (arith, ints)

      sum-to : (n : ℕ) → n ≤ length row → Sum (take n row) n
      sum-to zero h = sum-none
      sum-to (suc n) h =
          let m = sum-step n (get_or row n (0, pos 0)) (slice_get-get_or row n (0, pos 0) (omega arith)) (take n row) (sum-to n (omega arith)) in
          let P : ℕ → Type 0 = λ k. Sum (take k row) k in
          let Q : List (ℕ × ℤ) → Type 0 = λ ys. Sum ys (n + 1) in
          subst P (let e : n + 1 ≡ suc n = omega arith in e) (subst Q (sym (take-next row n (0, pos 0) (omega arith))) m)

      one-product : (j : ℕ) (a z : ℤ) → total (record { place = j; number = a; factor = z; negative = false } ∷ []) ≡ a *ℤ z
      one-product j a z = +ℤ_idr (a *ℤ z)

      -- a sum of the value outside 128 bits
      pub rest-stop : (past : Past) → IsRestPast x f row past → IsPastStep given columns others (Step row g past)
      rest-stop past (j, t, et, h) = by h.operands where
        p : Product
        p = record { place = j; number = t.1; factor = f t.0; negative = false }

        ip : IsProduct others both 0 first (record { place = j; number = t.1; factor = f t.0; negative = false })
        ip = is-product j t et h.placed

        m : Sum (take j row) j
        m = sum-to j (let b : j < length row = slice_get_within row j t et in omega arith)

        by : (((past ≡ record { op = Mul; left = t.1; right = f t.0 }) × (within (t.1 *ℤ f t.0) ≡ false))
            ⊎ ((past ≡ record { op = Add; left = t.1 *ℤ f t.0; right = rest_in x f (take j row) }) ×
            (within (t.1 *ℤ f t.0 +ℤ rest_in x f (take j row)) ≡ false)))
            → IsPastStep given columns others (Step row g past)
        by (inl (q, w)) =
            let P : Past → Type 0 = λ v. IsPastStep given columns others (Step row g v) in
            subst P (sym q) (step-of _ (record { place = j; number = t.1; factor = f t.0; negative = false }, ip, inl (refl, refl)) w)
        by (inr (q, w)) =
            let P : Past → Type 0 = λ v. IsPastStep given columns others (Step row g v) in
            let p1 : Product = record { place = j; number = t.1; factor = f t.0; negative = false } in
            subst P (sym q) (step-of _ (
              p1 ∷ [],
              m.products,
              All-cons (IsProduct others both 0 first) p1 m.products ip m.are_products,
              ((λ i. let l : j < j = m.low j i in absurd (omega arith)), m.differ),
              sym (one-product j t.1 (f t.0)),
              sym m.is_sum,
            ) w)

      pub value-stop : (past : Past) → IsValuePast x f row past → IsPastStep given columns others (Step row g past)
      value-stop past (inl h) = rest-stop past h
      value-stop past (inr (inl h)) =
          let n : entry row x ≢ pos 0 = ra.has_entry in
          let w = entry_at columns row x sr n in
          opposed w.0 w.1 past w.2 (let P : ℤ → Type 0 = λ z. IsOpposedPast z past in subst P (sym w.4) h)
      value-stop past (inr (inr h)) =
          let m = sum-to (length row) (omega arith) in
          let e : rest_in x f row ≡ total m.products = ap (rest_in x f) (sym (take-whole row (length row) (omega arith))) ∙ sym m.is_sum in
          let P : Past → Type 0 = λ v. IsPastStep given columns others (Step row g v) in
          subst P (sym h.0) (step-of _ ([], m.products, m.are_products, m.differ, refl, e) h.1)

  pub size_stop : (k x : ℕ) (row : List (ℕ × ℤ)) (step : Rattle.proof_steps.specs.declared.stops.PastStep.PastStep)
      → slice_get basis k ≡ Some x → slice_get rows k ≡ Some row
      → IsSizePast row given (s.Past step) → IsPastStep given columns others (past_view step)
  size_stop k x row step ex er (j, t, g, past, et, eg, o, h) =
      let P : Rattle.proof_steps.specs.StopView.Operation → Type 0 = λ v. IsPastStep given columns others v in
      subst P (sym o) (opposed k x row g ex er eg j t past et h)

  pub values_stop : (f : ℕ → ℤ) → ((c : ℕ) → f c ≢ pos 0 → others (f c)) → (step : Rattle.proof_steps.specs.declared.stops.PastStep.PastStep)
      → IsValuesPast given basis rows f (s.Past step) → IsPastStep given columns others (past_view step)
  values_stop f a step (k, x, row, g, past, ex, er, eg, o, h) =
      let P : Rattle.proof_steps.specs.StopView.Operation → Type 0 = λ v. IsPastStep given columns others v in
      subst P (sym o) (value-stop k x row g ex er eg f a past h)

  pub turn_stop : (at c x : ℕ) (other : List (ℕ × ℤ)) (step : Rattle.proof_steps.specs.declared.stops.PastStep.PastStep)
      → slice_get basis at ≡ Some x → slice_get rows at ≡ Some other
      → IsTurnPast at c rows (s.Past step) → IsPastStep given columns others (past_view step)
  turn_stop at c x other step ex eo h =
      let w = h other eo in
      let y = there basis rows 0 w.0 w.1 ready.are_rows.count w.3 in
      let v = w.4 in
      let P : Rattle.proof_steps.specs.StopView.Operation → Type 0 = λ z. IsPastStep given columns others z in
      subst P (sym v.1) (cross_past given columns others basis x y.0 w.1 other is-basis (listed_at basis w.0 y.0 y.1) (listed_at basis at x ex)
      (ready.are_rows.each w.0 y.0 w.1 y.1 w.3) (ready.are_rows.each at x other ex eo) columns (ready.are_rows.sparse w.0 w.1 w.3)
      (ready.are_rows.sparse at other eo) c v.2.0 v.0 v.2.1)

-- for the numbers of a list
pub stopped_by : (given : List (List (ℕ × ℤ))) (columns : ℕ) (numbers : List ℤ) (e : Stopped)
    → ((step : Rattle.proof_steps.specs.declared.stops.PastStep.PastStep) → e ≡ s.Past step → IsPastStep given columns (Contains numbers) (past_view step))
    → IsStopped given columns numbers e
stopped_by given columns numbers s.Memory f = tt
stopped_by given columns numbers (s.Past step) f = f step refl

pub size_result : (given : List (List (ℕ × ℤ))) (columns : ℕ) (basis : List ℕ) (rows : List (List (ℕ × ℤ)))
    → IsReady given columns basis rows → (k x : ℕ) (row : List (ℕ × ℤ)) (e : Stopped)
    {R : Type 0} (o : Result R Stopped) → slice_get basis k ≡ Some x → slice_get rows k ≡ Some row → IsSizePast row given e → IsErrAnd o (λ z. z ≡ e)
    → IfErr o (λ z. (numbers : List ℤ) → IsStopped given columns numbers z)
size_result given columns basis rows ready k x row e (Ok v) ex er h q = tt
size_result given columns basis rows ready k x row e (Err z) ex er h q = λ numbers.
    subst (λ (w : Stopped). IsStopped given columns numbers w) (sym q) (by e h numbers) where
      by : (e : Stopped) → IsSizePast row given e → (numbers : List ℤ) → IsStopped given columns numbers e
      by s.Memory h numbers = tt
      by (s.Past step) h numbers = size_stop given columns (Contains numbers) basis rows ready k x row step ex er h

-- what stops a turn
pub turn_result : (given : List (List (ℕ × ℤ))) (columns : ℕ) (basis : List ℕ) (rows : List (List (ℕ × ℤ)))
    → IsReady given columns basis rows → (at c x : ℕ) (other : List (ℕ × ℤ)) (e : Stopped)
    → slice_get basis at ≡ Some x → slice_get rows at ≡ Some other → IsTurnPast at c rows e → (numbers : List ℤ) → IsStopped given columns numbers e
turn_result given columns basis rows ready at c x other s.Memory ex eo h numbers = tt
turn_result given columns basis rows ready at c x other (s.Past step) ex eo h numbers = turn_stop given columns
    (Contains numbers) basis rows ready at c x other step ex eo h

pub values_result : (given : List (List (ℕ × ℤ))) (columns : ℕ) (basis : List ℕ) (rows : List (List (ℕ × ℤ))) (places : List ℤ)
    → IsReady given columns basis rows → (e : Stopped)
    → IsValuesPast given basis rows (place_at places) e → (numbers : List ℤ) → ArePlacesOf numbers places → IsStopped given columns numbers e
values_result given columns basis rows places ready s.Memory h numbers a = tt
values_result given columns basis rows places ready (s.Past step) h numbers a = values_stop given columns
    (Contains numbers) basis rows ready (place_at places) a step h
