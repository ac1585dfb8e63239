-- Stops of a tableau's check are stops of the query.
use Rattle.std.specs.Prelude.{ℕ, zero, suc, ◌≡◌, ◌≢◌, ◌⊎◌, ◌+◌, ◌-◌, ◌<◌, ◌≤◌, Bool, true, false, cond, List, [], ◌∷◌, ◌++◌, length, map, slice_get, Option, Some, All, Contains, refl}
use Rattle.std.specs.List.{AllByRecursion}
use Rattle.std.proofs.Common.{sym, ◌∙◌, ap, subst, inl, inr, arith}
use Rattle.std.proofs.lemmas.Int.{ints}
use Rattle.std.proofs.lemmas.List.{append-nil, length-append, length-map}
use Rattle.std.proofs.lemmas.List.Elements.{All-contains, All-from_recursion}
use Rattle.std.proofs.lemmas.Option.{slice_get_within}
use lib.IntN.{ℤ, pos, ◌+ℤ◌, ◌-ℤ◌}
use Rattle.kind_num.specs.declared.Op.{Op}
use Rattle.kind_num.specs.declared.Op.TheVariants as op
use Rattle.proof_steps.specs.declared.Literal.TheVariants as l
use Rattle.proof_steps.specs.View.{Inequality}
use Rattle.proof_steps.specs.Rows.{Form, IsBasis, AllDiffer, is_long, rows_of, columns_of}
use Rattle.proof_steps.specs.Bounds.{Bound, opposite_bound, bound_if, bounds_from, split_atom, IsBound}
use Rattle.proof_steps.specs.Pivots.{CanPivot, ArePlaces, first_position}
use Rattle.proof_steps.specs.StopView.{Operation}
use Rattle.proof_steps.specs.Stopped.{IsLong, IsNumberOf, IsPastStep, IsProduct, IsFactor, AreOperands, Product, Row, bound_view}
use Rattle.proof_checker.proofs.Quotients.{quotient_one}
use Rattle.int_simplex.specs.State.{Standing as Limit, State, places_of, top_of, is_in, outside_from, plain, beginning}
use Rattle.int_simplex.specs.Answers.{IsLong as IsLongFrom, IsNumberOf as IsNumberIn, IsChecked, StaysOrIsBound}
use Rattle.int_simplex.specs.Sound.{IsSound}
use Rattle.proof_steps.specs.Splits.{IsStand}
use Rattle.int_simplex.proofs.Places.{listed_at, mapped_at}
use Rattle.int_simplex.proofs.Starts.{is_in_no, in_no}
use Rattle.sat_core.specs.declared.assigned.Assigned.{Assigned}
use Rattle.smt_solver.specs.declared.numbers.meanings.Meaning.{Meaning}
use Rattle.smt_solver.specs.Sums.{meaning_view}
use Rattle.smt_solver.specs.Asserting.{signed_bound}
use Rattle.smt_solver.specs.Stops.{IsTableauFor}
use Rattle.smt_solver.proofs.Turns.{all-of}
use Rattle.smt_solver.proofs.Conflicting.{IsBoundAt, bound-in}
use Rattle.smt_solver.proofs.NumberValued.{some-at}
use Rattle.smt_solver.proofs.SplitTruth.{split-bound, below-or}

-- ---- the columns outside a basis

same-or : (n c : ℕ) → (n ≡ c) ⊎ (n ≢ c)
same-or zero zero = inl refl
same-or zero (suc c) = inr (λ q. absurd (omega arith))
same-or (suc n) zero = inr (λ q. absurd (omega arith))
same-or (suc n) (suc c) = elim (same-or n c) [ inl q ↦ inl (ap suc q) | inr q ↦ inr (λ w. q (omega arith)) ]

abbrev columns_outside : ℕ → List (ℤ × ℤ) → List ℕ → List ℕ
columns_outside n values basis = map (λ (p : ℕ × ℤ). p.0) (outside_from n values basis)

outside-in : (n : ℕ) (values : List (ℤ × ℤ)) (basis : List ℕ) (c : ℕ) → n ≤ c → c < n + length values → is_in basis c ≡ false
    → Contains (columns_outside n values basis) c
outside-in n [] basis c a b e = absurd (omega arith)
outside-in n (v ∷ values) basis c a b e =
    go (is_in basis n) refl (λ d. outside-in (suc n) values basis c (next n c a d) (omega arith) e) where
      next : (n c : ℕ) → n ≤ c → n ≢ c → suc n ≤ c
      next n c a d = omega arith

      behind : (xs : List ℕ) (y : ℕ) → Contains xs c → Contains (y ∷ xs) c
      behind xs y (k, l, q) = (suc k, omega arith, q)

      go : (w : Bool) → is_in basis n ≡ w → (n ≢ c → Contains (columns_outside (suc n) values basis) c)
          → Contains (map (λ (p : ℕ × ℤ). p.0) (cond w (outside_from (suc n) values basis) ((n, v.0) ∷ outside_from (suc n) values basis))) c
      go true q later = later (λ d. let f : true ≡ false = sym q ∙ ap (is_in basis) d ∙ e in absurd cc)
      go false q later = elim (same-or n c) [
        | inl d ↦ (0, omega arith, d)
        | inr d ↦ behind (columns_outside (suc n) values basis) n (later d)
      ]

pub record IsOutside (n : ℕ) (count : ℕ) (basis : List ℕ) (c : ℕ) : Type 0 where
  pub from : n ≤ c
  pub to : c < n + count
  pub out : is_in basis c ≡ false

outside-of : (n : ℕ) (values : List (ℤ × ℤ)) (basis : List ℕ) (c : ℕ) → Contains (columns_outside n values basis) c
    → IsOutside n (length values) basis c
outside-of n [] basis c (k, l, q) = absurd (omega arith)
outside-of n (v ∷ values) basis c i = go (is_in basis n) refl i (λ j. outside-of (suc n) values basis c j) where
  further : IsOutside (suc n) (length values) basis c → IsOutside n (suc (length values)) basis c
  further o = record {
    from = let a = o.from in omega arith;
    to = let a = o.to in omega arith;
    out = o.out;
  }

  go : (w : Bool) → is_in basis n ≡ w
      → Contains (map (λ (p : ℕ × ℤ). p.0) (cond w (outside_from (suc n) values basis) ((n, v.0) ∷ outside_from (suc n) values basis))) c
      → (Contains (columns_outside (suc n) values basis) c → IsOutside (suc n) (length values) basis c)
      → IsOutside n (suc (length values)) basis c
  go true q j f = further (f j)
  go false q (zero, l, e) f = record {
    from = omega arith;
    to = omega arith;
    out = ap (is_in basis) (sym e) ∙ q;
  }
  go false q (suc k, l, e) f = further (f (k, omega arith, e))

outside-differ : (n : ℕ) (values : List (ℤ × ℤ)) (basis : List ℕ) → AllDiffer (columns_outside n values basis)
outside-differ n [] basis = tt
outside-differ n (v ∷ values) basis = go (is_in basis n) (outside-differ (suc n) values basis) where
  go : (w : Bool) → AllDiffer (columns_outside (suc n) values basis)
      → AllDiffer (map (λ (p : ℕ × ℤ). p.0) (cond w (outside_from (suc n) values basis) ((n, v.0) ∷ outside_from (suc n) values basis)))
  go true d = d
  go false d = (λ i. let o = (outside-of (suc n) values basis n i).from in absurd (omega arith), d)

-- ---- the bounds

prefix-same : (m : ℕ) (atoms more : List Inequality) (j : ℕ) → j < length atoms
    → slice_get (bounds_from m (atoms ++ more)) j ≡ slice_get (bounds_from m atoms) j
prefix-same m [] more j h = absurd (omega arith)
prefix-same m (i ∷ atoms) more zero h = refl
prefix-same m (i ∷ atoms) more (suc j) h = prefix-same (cond (is_long i.terms) (m + 1) m) atoms more j (omega arith)

module _ (f : Form) (pairs : List (ℕ × ℤ)) (ms : List Meaning) (trail : List Assigned) (t : State)
    (h : IsTableauFor f pairs ms trail t) where
  meant-at : (k : ℕ) (m : Meaning) → slice_get ms k ≡ Some m
      → slice_get (bounds_from (length f.shapes) (f.atoms ++ map split_atom pairs)) k ≡ Some (Some (meaning_view m))
  meant-at k m e = sym (ap (λ (bs : List (Option Bound)). slice_get bs k) h.meanings.bounds)
      ∙ mapped_at (λ m. Some (meaning_view m)) ms k m e

  source : (b : Limit) → Contains t.bounds b → IsBoundAt trail 1 ms b
  source b i = bound-in trail 1 ms b (subst (λ bs. Contains bs b) h.bounds i)

  sign-if : (sign : Bool) (m : Meaning) → bound_if sign (Some (Some (meaning_view m))) ≡ Some (signed_bound sign m)
  sign-if true m = refl
  sign-if false m = refl

  one-up : (k : ℕ) → 1 + k ≡ suc k
  one-up k = omega arith

  is-bound : (b : Limit) → Contains t.bounds b → IsBound f pairs (bound_view (plain b))
  is-bound b i =
      let a = source b i in (
        l.Atom (suc a.place) a.sign,
        ap (bound_if a.sign) (meant-at a.place a.meaning a.is_meaning) ∙ sign-if a.sign a.meaning
            ∙ ap (λ (c : Limit). Some (bound_view (plain c))) (sym a.is_bound),
      )

  all-bounds : (bs : List Limit) → ((b : Limit) → Contains bs b → IsBound f pairs (bound_view (plain b)))
      → AllByRecursion (λ b. IsBound f pairs (bound_view b)) (map plain bs)
  all-bounds [] g = tt
  all-bounds (b ∷ bs) g =
      (g b (0, omega arith, refl), all-bounds bs (λ c i. g c (suc i.0, (let m = i.1 in omega arith), i.2)))

  count : length t.values ≡ columns_of f
  count = h.sound.count ∙ h.columns

  places : (budget : ℕ) → ArePlaces (columns_of f) (beginning t budget)
  places budget = record {
    different = outside-differ 0 t.values t.basis;
    all = λ c m n. outside-in 0 t.values t.basis c (omega arith) (let e = count in omega arith) (is_in_no t.basis c n);
    alone = λ c i. let o = outside-of 0 t.values t.basis c i in
        ((let e = count in let a = o.to in omega arith), in_no t.basis c o.out);
  }

  pub long-is-long : (budget : ℕ) → IsLongFrom t budget → IsLong f pairs (beginning t budget)
  long-is-long budget long = record {
    is_basis = subst (λ n. IsBasis (rows_of f) n t.basis) h.columns
        (subst (λ rows. IsBasis rows t.columns t.basis) h.given h.sound.basis);
    bounds = All-from_recursion (λ b. IsBound f pairs (bound_view b)) (map plain t.bounds) (all-bounds t.bounds is-bound);
    places = places budget;
    more = subst (λ n. CanPivot (rows_of f) n (map plain t.bounds) (suc budget) (first_position (beginning t budget))) h.columns
        (subst (λ rows. CanPivot rows t.columns (map plain t.bounds) (suc budget) (first_position (beginning t budget)))
        h.given long);
  }

  -- ---- the numbers

  own-bound : (a : ℕ) (m : Meaning) (sign : Bool) → slice_get ms a ≡ Some m → a < length f.atoms
      → IsBound f [] (signed_bound sign m)
  own-bound a m sign e b = (
    l.Atom (suc a) sign,
    subst (λ (atoms : List Inequality). bound_if sign (slice_get (bounds_from (length f.shapes) atoms) a) ≡ Some (signed_bound sign m))
        (sym (append-nil f.atoms))
        (ap (bound_if sign) (sym (prefix-same (length f.shapes) f.atoms (map split_atom pairs) a b) ∙ meant-at a m e)
        ∙ sign-if sign m),
  )

  -- an end of a split of the bound's column
  abbrev IsEnd : Bound → Type 0
  IsEnd b = Contains pairs (b.column, b.limit) ⊎ Contains pairs (b.column, b.limit -ℤ pos 1)

  ends : (j x : ℕ) (c : ℤ) (m : Meaning) (sign : Bool) → slice_get pairs j ≡ Some (x, c)
      → meaning_view m ≡ record { column = x; upper = true; limit = c } → IsEnd (signed_bound sign m)
  ends j x c m true e q =
      inl (subst (λ (b : Bound). Contains pairs (b.column, b.limit)) (sym q) (listed_at pairs j (x, c) e))
  ends j x c m false e q =
      inr (subst (λ (b : Bound). Contains pairs ((opposite_bound b).column, (opposite_bound b).limit -ℤ pos 1)) (sym q)
      (subst (λ z. Contains pairs (x, z)) (back c) (listed_at pairs j (x, c) e))) where
        back : (c : ℤ) → c ≡ (c +ℤ pos 1) -ℤ pos 1
        back c = omega (arith, ints)

  split-end : (j : ℕ) (m : Meaning) (sign : Bool) → slice_get ms (length f.atoms + j) ≡ Some m → j < length pairs
      → IsEnd (signed_bound sign m)
  split-end j m sign e b =
      let p = some-at pairs j b in
      ends j p.0.0 p.0.1 m sign p.1 (bound-is (meaning_view m) record { column = p.0.0; upper = true; limit = p.0.1 }
      (sym (meant-at (length f.atoms + j) m e)
      ∙ split-bound (length f.shapes) f.atoms pairs j p.0.0 p.0.1 p.1
      ∙ ap (λ w. a_limit p.0.0 w) (quotient_one p.0.1 (pos 1) refl))) where
        a_limit : ℕ → ℤ → Option (Option Bound)
        a_limit x w = Some (Some record { column = x; upper = true; limit = w })

        bound-is : (a c : Bound) → Some (Some a) ≡ Some (Some c) → a ≡ c
        bound-is a c e = cc

  -- a bound is one of the query's literals, or an end of a split
  own-or-end : (b : Limit) → Contains t.bounds b
      → IsBound f [] record { column = b.column; upper = b.upper; limit = b.limit }
      ⊎ IsEnd record { column = b.column; upper = b.upper; limit = b.limit }
  own-or-end b i = go (source b i) where
    bare : Limit → Bound
    bare b = record { column = b.column; upper = b.upper; limit = b.limit }

    later : (k : ℕ) (m : Meaning) (sign : Bool) → slice_get ms k ≡ Some m → length f.atoms ≤ k → IsEnd (signed_bound sign m)
    later k m sign e c =
        let j = k - length f.atoms in
        let w = slice_get_within ms k m e in
        let n = length-map ms (λ m. Some (meaning_view m)) in
        let q : length f.atoms + j ≡ k = omega arith in
        split-end j m sign (subst (λ i. slice_get ms i ≡ Some m) (sym q) e) (in-pairs j m
        (subst (λ i. slice_get ms i ≡ Some m) (sym q) e)) where
          in-pairs : (j : ℕ) (m : Meaning) → slice_get ms (length f.atoms + j) ≡ Some m → j < length pairs
          in-pairs j m e =
              let w = slice_get_within (bounds_from (length f.shapes) (f.atoms ++ map split_atom pairs)) (length f.atoms + j)
              (Some (meaning_view m)) (meant-at (length f.atoms + j) m e) in
              let a = bounds-length (length f.shapes) (f.atoms ++ map split_atom pairs) in
              let b = length-append f.atoms (map split_atom pairs) in
              let c = length-map pairs split_atom in omega arith where
                bounds-length : (m : ℕ) (atoms : List Inequality) → length (bounds_from m atoms) ≡ length atoms
                bounds-length m [] = refl
                bounds-length m (i ∷ atoms) = ap suc (bounds-length (cond (is_long i.terms) (m + 1) m) atoms)

    go : IsBoundAt trail 1 ms b → IsBound f [] (bare b) ⊎ IsEnd (bare b)
    go a = subst (λ (c : Limit). IsBound f [] (bare c) ⊎ IsEnd (bare c)) (sym a.is_bound)
        (elim (below-or a.place (length f.atoms)) [
          | inl c ↦ inl (own-bound a.place a.meaning a.sign a.is_meaning c)
          | inr c ↦ inr (later a.place a.meaning a.sign a.is_meaning c)
        ])

  pub limit-number : (b : Limit) → Contains t.bounds b → IsNumberOf f pairs b.limit
  limit-number b i = elim (own-or-end b i) [
    | inl o ↦ inr (inl (record { column = b.column; upper = b.upper; limit = b.limit }, o, refl))
    | inr e ↦ inr (inr (b.column, e))
  ]

  -- ---- where columns stand after a check

  stand-at : (b : Limit) → Contains t.bounds b → IsStand f pairs b.column b.limit
  stand-at b i = elim (own-or-end b i) [ inl o ↦ inr (inl (b.upper, o)) | inr e ↦ inr (inr e) ]

  pub kept : (u : State) (budget : ℕ) → IsChecked t u budget → IsSound u → IsTableauFor f pairs ms trail u
  kept u budget k sound = record {
    meanings = h.meanings;
    sound = sound;
    given = ap (λ (s : State). s.given) k.same ∙ h.given;
    columns = ap (λ (s : State). s.columns) k.same ∙ h.columns;
    bounds = ap (λ (s : State). s.bounds) k.same ∙ h.bounds;
    stand = λ c out. elim (below-or c t.columns) [
      | inl l ↦ stays c (k.outside c l out)
      | inr l ↦ inl (beyond u.values c (let n = sound.count in let m = ap (λ (s : State). s.columns) k.same in omega arith))
    ];
  } where
    beyond : (values : List (ℤ × ℤ)) (c : ℕ) → length values ≤ c → places_of values c ≡ pos 0
    beyond [] c l = refl
    beyond (v ∷ values) zero l = absurd (omega arith)
    beyond (v ∷ values) (suc c) l = beyond values c (omega arith)

    stays : (c : ℕ) → StaysOrIsBound t u c → IsStand f pairs c (places_of u.values c)
    stays c (inl (out, e)) = subst (IsStand f pairs c) (sym (ap top_of e)) (h.stand c out)
    stays c (inr (b, i, q, e)) = subst (IsStand f pairs c) (sym (ap top_of e))
        (subst (λ x. IsStand f pairs x b.limit) q (stand-at b i))

  place-number : (z : ℤ) (c : ℕ) → z ≢ pos 0 → (¬ Contains t.basis c) → slice_get t.values c ≡ Some (z, pos 1)
      → IsNumberOf f pairs z
  place-number z c n out e =
      let q : places_of t.values c ≡ z = ap top_of e in
      elim (h.stand c out) [
        | inl w ↦ absurd (n (sym q ∙ w))
        | inr w ↦ elim w [
          | inl b ↦ inr (inl (record { column = c; upper = b.0; limit = places_of t.values c }, b.1, q))
          | inr u ↦ elim u [
            | inl i ↦ inr (inr (c, inl (subst (λ y. Contains pairs (c, y)) q i)))
            | inr i ↦ inr (inr (c, inr (subst (λ y. Contains pairs (c, y -ℤ pos 1)) q i)))
          ]
        ]
      ]

  is-number : (z : ℤ) → IsNumberIn t z → IsNumberOf f pairs z
  is-number z (inl (b, i, e)) = subst (IsNumberOf f pairs) e (limit-number b i)
  is-number z (inr (n, c, out, e)) = place-number z c n out e

  -- ---- the operation

  factor-of : (rows : List Row) (i : ℕ) (z : ℤ) → IsFactor (IsNumberIn t) rows i z → IsFactor (IsNumberOf f pairs) rows i z
  factor-of rows i z (inl o) = inl o
  factor-of rows i z (inr n) = inr (is-number z n)

  product-of : (rows : List Row) (i : ℕ) (r : Row) (p : Product) → IsProduct (IsNumberIn t) rows i r p
      → IsProduct (IsNumberOf f pairs) rows i r p
  product-of rows i r p o = record { of_row = o.of_row; by_factor = factor-of rows i p.factor o.by_factor }

  products-of : (rows : List Row) (i : ℕ) (r : Row) (ps : List Product) → All (IsProduct (IsNumberIn t) rows i r) ps
      → All (IsProduct (IsNumberOf f pairs) rows i r) ps
  products-of rows i r ps a = all-of (IsProduct (IsNumberOf f pairs) rows i r) ps
      (λ p j. product-of rows i r p (All-contains (IsProduct (IsNumberIn t) rows i r) ps p a j))

  operands-of : (rows : List Row) (i : ℕ) (r : Row) (o : Op) (left right : ℤ) → AreOperands (IsNumberIn t) rows i r o left right
      → AreOperands (IsNumberOf f pairs) rows i r o left right
  operands-of rows i r op.Mul left right (p, a, w) = (p, product-of rows i r p a, w)
  operands-of rows i r op.Add left right (ps, qs, a, d, u, v) = (ps, qs, products-of rows i r (ps ++ qs) a, d, u, v)
  operands-of rows i r op.Sub left right (ps, qs, a, d, u, v) = (ps, qs, products-of rows i r (ps ++ qs) a, d, u, v)
  operands-of rows i r op.Div left right a = a

  past-of : (step : Operation) → IsPastStep t.given t.columns (IsNumberIn t) step
      → IsPastStep t.given t.columns (IsNumberOf f pairs) step
  past-of step p = record {
    rows = p.rows;
    kept = p.kept;
    are_rows = p.are_rows;
    place = p.place;
    row = p.row;
    is_row = p.is_row;
    operands = operands-of p.rows p.place p.row step.past.op step.past.left step.past.right p.operands;
    outside = p.outside;
  }

  pub past-is-past : (step : Operation) → IsPastStep t.given t.columns (IsNumberIn t) step
      → IsPastStep (rows_of f) (columns_of f) (IsNumberOf f pairs) step
  past-is-past step p =
      subst (λ n. IsPastStep (rows_of f) n (IsNumberOf f pairs) step) h.columns
      (subst (λ rows. IsPastStep rows t.columns (IsNumberOf f pairs) step) h.given (past-of step p))
