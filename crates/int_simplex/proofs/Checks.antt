-- What a check begins with and leaves.
use Rattle.std.specs.Prelude.{ℕ, zero, suc, ◌≡◌, ◌≢◌, ◌⊎◌, ◌==◌, ◌<◌, ◌≤◌, ◌+◌, Bool, true, false, cond, List, [], ◌∷◌, length, map, All, Contains, Option, Some, None, slice_get}
use Rattle.std.proofs.Common.{sym, ◌∙◌, ap, subst, arith, refl, inl, inr, get_or}
use Rattle.std.proofs.lemmas.Option.{slice_get-get_or, slice_get_within}
use Rattle.std.proofs.Math.Path.{fun_ext}
use lib.IntN.{ℤ, pos, ◌+ℤ◌, ◌*ℤ◌, zero-*ℤ}
use Rattle.proof_steps.specs.View.{row_view}
use Rattle.proof_steps.specs.Rows.{rest_below, entry}
use Rattle.proof_steps.specs.Pivots.{Position, CanPivot, first_position, raised, lowered, bound_on}
use Rattle.proof_steps.specs.Pivots.{place_of as place_in}
use Rattle.int_simplex.specs.State.{Standing, State, beginning, plain, is_in, outside_from, places_of, top_of}
use Rattle.int_simplex.specs.Inner.{IsInner, standing}
use Rattle.int_simplex.specs.Sound.{IsSound, IsValueOf, IsUncrossed}
use Rattle.int_simplex.specs.Valued.{place_at, place_of}
use Rattle.int_simplex.specs.Running.{IsReady, IsKept, AreTables, AreFirst, at, start_place}
use Rattle.int_simplex.specs.Choosing.{bare, limit_at}
use Rattle.proof_steps.specs.StopView.{Beginning}
use Rattle.int_simplex.specs.Answers.{IsLong}
use Rattle.int_simplex.specs.declared.table.Asserted.{Asserted}
use Rattle.int_simplex.specs.declared.table.Tableau.TheInside.{Inside}
use Rattle.int_simplex.proofs.Sparse.{by_test, other_if, is_other, is_same}
use Rattle.int_simplex.proofs.Tables.{table_bound, bound_stands}
use Rattle.int_simplex.proofs.Starts.{in_yes, in_no}
use Rattle.int_simplex.proofs.Turned.{there}
use Rattle.int_simplex.proofs.Places.{at_listed, same_some}
use Rattle.int_simplex.proofs.Kept.{values_fractions}
use Rattle.int_simplex.specs.Seating.{AreSeats}
use Rattle.int_simplex.proofs.Moves.{giving}
use Rattle.int_simplex.proofs.Pasts.{basis_of}

-- rows and basis are ready
pub ready_of : (i : Inside) → i.usable ≡ true → IsInner i → IsReady (map row_view i.given.items) i.columns i.basis.items (map row_view i.rows.items)
ready_of i u h = record {
  given_rows = (h.sound u).given;
  count = (h.sound u).basis.count;
  different = (h.sound u).basis.different;
  in_range = (h.sound u).basis.in_range;
  are_rows = h.rows u;
  free = h.free u;
}

-- the tables are those of the bounds
pub tables_of : (i : Inside) → i.usable ≡ true → IsInner i → AreTables i.columns (map standing i.trail.items) i.lowers.items i.uppers.items
tables_of i u h = record {
  lows = h.lowers;
  highs = h.uppers;
  uncrossed = (h.sound u).uncrossed;
  of_columns = (h.sound u).of_columns;
}

pub rest-places : (e p q : ℕ → ℤ) (x n : ℕ) → ((c : ℕ) → c < n → c ≢ x → e c *ℤ p c ≡ e c *ℤ q c) → rest_below e p x n ≡ rest_below e q x n
rest-places e p q x zero h = refl
rest-places e p q x (suc n) h =
    let r = rest-places e p q x n (λ c l. h c (omega arith)) in
    elim (by_test (n == x)) [
      | inl t ↦ ap (λ b. cond b (rest_below e p x n) (e n *ℤ p n +ℤ rest_below e p x n)) t ∙ r
          ∙ sym (ap (λ b. cond b (rest_below e q x n) (e n *ℤ q n +ℤ rest_below e q x n)) t)
      | inr t ↦ ap (λ b. cond b (rest_below e p x n) (e n *ℤ p n +ℤ rest_below e p x n)) t
          ∙ ap (λ z. e n *ℤ p n +ℤ z) r ∙ ap (λ z. z +ℤ rest_below e q x n) (h n (omega arith) (other_if n x t))
          ∙ sym (ap (λ b. cond b (rest_below e q x n) (e n *ℤ q n +ℤ rest_below e q x n)) t)
    ]

pub no-product : (a p q : ℤ) → a ≡ pos 0 → a *ℤ p ≡ a *ℤ q
no-product a p q e = ap (λ z. z *ℤ p) e ∙ zero-*ℤ p ∙ sym (zero-*ℤ q) ∙ sym (ap (λ z. z *ℤ q) e)

module _ (given : List (List (ℕ × ℤ))) (columns : ℕ) (basis : List ℕ) (rows : List (List (ℕ × ℤ))) (places : List ℤ) (values : List (ℤ × ℤ))
    (kept : IsKept given columns basis rows places values) where
  -- a column outside the basis stands at its place
  pub stands_at : (c : ℕ) → c < columns → (Contains basis c → ⊥) → slice_get values c ≡ Some (place_at places c, pos 1)
  stands_at c h n =
      let w = kept.width in
      let g = slice_get-get_or places c (pos 0) (omega arith) in
      kept.are_values.outside c (get_or places c (pos 0)) n g ∙ ap (λ (o : Option ℤ). Some (place_of o, pos 1)) (sym g)

  pub place_kept : (c : ℕ) → c < columns → (Contains basis c → ⊥) → places_of values c ≡ place_at places c
  place_kept c h n = ap top_of (stands_at c h n)

  pub value_kept : (bounds : List Standing) (usable : Bool) (x : ℕ) (v : ℤ × ℤ) → Contains basis x → slice_get values x ≡ Some v
      → IsValueOf record { given = given; columns = columns; basis = basis; values = values; bounds = bounds; usable = usable } x v
  value_kept bounds usable x v i ev =
      let k = at_listed basis x i in
      let r = there rows basis [] k.0 x (sym kept.ready.are_rows.count) k.1 in
      let a = kept.ready.are_rows.each k.0 x r.0 k.1 r.1 in
      let w = kept.are_values.inside k.0 x r.0 k.1 r.1 in
      let q = w.2.quotient a.has_entry in
      let s : rest_below (entry r.0) (place_at places) x (length places) ≡ rest_below (entry r.0) (places_of values) x columns =
      ap (rest_below (entry r.0) (place_at places) x) kept.width
      ∙ rest-places (entry r.0) (place_at places) (places_of values) x columns (λ c h d. same-product r.0 c h (λ b. a.alone c b d) (is_in basis c) refl) in
      let P : ℤ → Type 0 = λ z. (z *ℤ w.0.1) +ℤ (entry r.0 x *ℤ w.0.0) ≡ pos 0 in
      let e : w.0 ≡ v = same_some w.0 v (sym w.1 ∙ ev) in
      let g = giving given columns basis (places_of values) x (entry r.0) w.0 i a (subst P s q) in
      let R : ℤ × ℤ → Type 0 = λ y. IsValueOf record {
        given = given;
        columns = columns;
        basis = basis;
        values = values;
        bounds = bounds;
        usable = usable;
      } x y in
      subst R e record {
        multipliers = g.multipliers;
        top = g.top;
        bottom = g.bottom;
        value = g.value;
        same = g.same;
      } where
        same-product : (r : List (ℕ × ℤ)) (c : ℕ) → c < columns → (Contains basis c → entry r c ≡ pos 0) → (b : Bool) → is_in basis c ≡ b
            → entry r c *ℤ place_at places c ≡ entry r c *ℤ places_of values c
        same-product r c h z true e = no-product (entry r c) (place_at places c) (places_of values c) (z (in_yes basis c e))
        same-product r c h z false e = ap (λ y. entry r c *ℤ y) (sym (place_kept c h (in_no basis c e)))

  -- what a check leaves is sound
  pub sound_kept : (bounds : List Standing) (usable : Bool) → All (λ (b : Standing). b.column < columns) bounds → IsUncrossed bounds
      → IsSound record { given = given; columns = columns; basis = basis; values = values; bounds = bounds; usable = usable }
  sound_kept bounds usable o u = record {
    given = kept.ready.given_rows;
    basis = basis_of given columns basis rows kept.ready.count kept.ready.different kept.ready.in_range kept.ready.are_rows;
    count = kept.are_values.count ∙ kept.width;
    fractions = values_fractions given columns basis rows places values kept;
    outside = λ c v n e.
        let l = within c v e in
        let q = same_some (place_at places c, pos 1) v (sym (stands_at c l n) ∙ e) in
        sym (ap (λ (y : ℤ × ℤ). y.1) q);
    inside = λ x v i e. value_kept bounds usable x v i e;
    of_columns = o;
    uncrossed = u;
  } where
    within : (c : ℕ) (v : ℤ × ℤ) → slice_get values c ≡ Some v → c < columns
    within c v e = let h = slice_get_within values c v e in let n = kept.are_values.count in let w = kept.width in omega arith

below-none : (n c : ℕ) (values : List (ℤ × ℤ)) (basis : List ℕ) → c < n → place_in (outside_from n values basis) c ≡ pos 0
below-none n c [] basis h = refl
below-none n c (v ∷ values) basis h =
    let r = below-none (suc n) c values basis (omega arith) in
    elim (by_test (is_in basis n)) [
      | inl t ↦ ap (λ b. place_in (cond b (outside_from (suc n) values basis) ((n, v.0) ∷ outside_from (suc n) values basis)) c) t ∙ r
      | inr t ↦ ap (λ b. place_in (cond b (outside_from (suc n) values basis) ((n, v.0) ∷ outside_from (suc n) values basis)) c) t
          ∙ ap (λ b. cond b v.0 (place_in (outside_from (suc n) values basis) c)) (is_other n c (λ e. no-less n c h e)) ∙ r
    ] where
      no-less : (n c : ℕ) → c < n → n ≡ c → ⊥
      no-less n c h e = omega arith

same-none : (b : Bool) → pos 0 ≡ cond b (pos 0) (pos 0)
same-none true = refl
same-none false = refl

from-place : (n k : ℕ) (values : List (ℤ × ℤ)) (basis : List ℕ)
    → place_in (outside_from n values basis) (n + k) ≡ cond (is_in basis (n + k)) (pos 0) (top_of (slice_get values k))
from-place n k [] basis = same-none (is_in basis (n + k))
from-place n zero (v ∷ values) basis =
    let e : n + 0 ≡ n = omega arith in
    let P : ℕ → Type 0 = λ m. place_in (outside_from n (v ∷ values) basis) m ≡ cond (is_in basis m) (pos 0) v.0 in
    subst P (sym e) (elim (by_test (is_in basis n)) [
      | inl t ↦ ap (λ b. place_in (cond b (outside_from (suc n) values basis) ((n, v.0) ∷ outside_from (suc n) values basis)) n) t
          ∙ below-none (suc n) n values basis (omega arith) ∙ sym (ap (λ b. cond b (pos 0) v.0) t)
      | inr t ↦ ap (λ b. place_in (cond b (outside_from (suc n) values basis) ((n, v.0) ∷ outside_from (suc n) values basis)) n) t
          ∙ ap (λ b. cond b v.0 (place_in (outside_from (suc n) values basis) n)) (is_same n) ∙ sym (ap (λ b. cond b (pos 0) v.0) t)
    ])
from-place n (suc k) (v ∷ values) basis =
    let e : suc n + k ≡ n + suc k = omega arith in
    let Q : ℕ → Type 0 = λ m. place_in (outside_from (suc n) values basis) m ≡ cond (is_in basis m) (pos 0) (top_of (slice_get values k)) in
    let r = subst Q e (from-place (suc n) k values basis) in
    elim (by_test (is_in basis n)) [
      | inl t ↦ ap (λ b. place_in (cond b (outside_from (suc n) values basis) ((n, v.0) ∷ outside_from (suc n) values basis)) (n + suc k)) t ∙ r
      | inr t ↦ ap (λ b. place_in (cond b (outside_from (suc n) values basis) ((n, v.0) ∷ outside_from (suc n) values basis)) (n + suc k)) t
          ∙ ap (λ b. cond b v.0 (place_in (outside_from (suc n) values basis) (n + suc k))) (is_other n (n + suc k) (λ q. further n k q)) ∙ r
    ] where
      further : (n k : ℕ) → n ≡ n + suc k → ⊥
      further n k q = omega arith

-- the listed place of a column is where it stands as the check begins
pub listed_place : (values : List (ℤ × ℤ)) (basis : List ℕ) (c : ℕ) → place_in (outside_from 0 values basis) c ≡ start_place basis values c
listed_place values basis c =
    let e : 0 + c ≡ c = omega arith in
    let P : ℕ → Type 0 = λ m. place_in (outside_from 0 values basis) m ≡ cond (is_in basis m) (pos 0) (top_of (slice_get values c)) in
    subst P e (from-place 0 c values basis)

-- no bound stands at a column out of range
pub unbounded : (columns : ℕ) (bounds : List Standing) (lowers uppers : List (Option (ℤ × ℕ))) → AreTables columns bounds lowers uppers
    → (side : Bool) (c : ℕ) → (c < columns → ⊥) → bound_on side (map plain bounds) c ≡ None
unbounded columns bounds lowers uppers a side c n = by (bound_on side (map plain bounds) c) refl where
  by : (o : Option ℤ) → bound_on side (map plain bounds) c ≡ o → o ≡ None
  by None e = refl
  by (Some z) e =
      let s = (bound_stands columns bounds lowers uppers a side c z e).1 in
      let k = s.stands in
      let d = a.of_columns k.0 s.bound k.1 in
      let P : Standing → Type 0 = λ b. b.column < columns in
      let Q : ℕ → Type 0 = λ x. x < columns in
      absurd (n (subst Q s.column (subst P k.2 d)))

pub past_end : {X : Type 0} (xs : List X) (c : ℕ) → length xs ≤ c → slice_get xs c ≡ None
past_end [] c h = refl
past_end (x ∷ xs) zero h = absurd (omega arith)
past_end (x ∷ xs) (suc c) h = past_end xs c (omega arith)

-- the first places are those of the first position
pub first_is : (columns : ℕ) (basis : List ℕ) (values : List (ℤ × ℤ)) (bounds : List Standing) (lowers uppers : List (Option (ℤ × ℕ)))
    (places : List ℤ) (budget : ℕ)
    → AreTables columns bounds lowers uppers → length values ≡ columns → AreFirst basis values lowers uppers places
    → first_position record { basis = basis; bounds = map plain bounds; places = outside_from 0 values basis; pivots = budget } ≡ at basis places
first_is columns basis values bounds lowers uppers places budget a n f =
    ap (λ (p : ℕ → ℤ). let s : Position = record { basis = basis; places = p } in s) (fun_ext (λ c. by c (less c columns))) where
      less : (c n : ℕ) → (c < n) ⊎ (n ≤ c)
      less c n = grind arith

      by : (c : ℕ) → (c < columns) ⊎ (columns ≤ c)
          → lowered (bound_on true (map plain bounds) c) (raised (bound_on false (map plain bounds) c)
          (place_in (outside_from 0 values basis) c)) ≡ place_at places c
      by c (inl h) =
          ap (λ z. lowered (bound_on true (map plain bounds) c) (raised (bound_on false (map plain bounds) c) z)) (listed_place values basis c)
          ∙ ap (λ o. lowered o (raised (bound_on false (map plain bounds) c) (start_place basis values c)))
          (sym (table_bound columns bounds lowers uppers a true c h))
          ∙ ap (λ o. lowered (bare (limit_at uppers c)) (raised o (start_place basis values c))) (sym (table_bound columns bounds lowers uppers a false c h))
          ∙ sym (f.each c (omega arith))
      by c (inr h) =
          let m = f.count in
          ap (λ z. lowered (bound_on true (map plain bounds) c) (raised (bound_on false (map plain bounds) c) z)) (listed_place values basis c)
          ∙ ap (λ o. lowered o (raised (bound_on false (map plain bounds) c) (start_place basis values c)))
          (unbounded columns bounds lowers uppers a true c (λ l. omega arith))
          ∙ ap (λ o. raised o (start_place basis values c)) (unbounded columns bounds lowers uppers a false c (λ l. omega arith))
          ∙ ap (λ (o : Option (ℤ × ℤ)). cond (is_in basis c) (pos 0) (top_of o)) (past_end values c (omega arith))
          ∙ sym (same-none (is_in basis c))
          ∙ sym (ap place_of (past_end places c (omega arith)))

pub tables_at : (columns : ℕ) (bounds : List Standing) (lowers lowers1 uppers uppers1 : List (Option (ℤ × ℕ))) → lowers ≡ lowers1 → uppers ≡ uppers1
    → AreTables columns bounds lowers uppers → AreTables (length lowers1) bounds lowers1 uppers1
tables_at columns bounds lowers lowers1 uppers uppers1 e f a =
    let P : List (Option (ℤ × ℕ)) → Type 0 = λ x. AreTables columns bounds x uppers in
    let Q : List (Option (ℤ × ℕ)) → Type 0 = λ x. AreTables columns bounds lowers1 x in
    let R : ℕ → Type 0 = λ n. AreTables n bounds lowers1 uppers1 in
    let b = subst Q f (subst P e a) in subst R (sym b.lows.count) b

pub first_at : (n : ℕ) (basis : List ℕ) (seats seats1 : List (Option ℕ)) (values values1 : List (ℤ × ℤ))
    (lowers lowers1 uppers uppers1 : List (Option (ℤ × ℕ))) (places : List ℤ)
    → seats1 ≡ seats → values1 ≡ values → lowers1 ≡ lowers → uppers1 ≡ uppers → AreSeats n basis seats
    → ((m : ℕ) (b : List ℕ) → AreSeats m b seats1 → AreFirst b values1 lowers1 uppers1 places) → AreFirst basis values lowers uppers places
first_at n basis seats seats1 values values1 lowers lowers1 uppers uppers1 places a b c d s h =
    let B : List (ℤ × ℤ) → Type 0 = λ x. AreFirst basis x lowers1 uppers1 places in
    let C : List (Option (ℤ × ℕ)) → Type 0 = λ x. AreFirst basis values x uppers1 places in
    let D : List (Option (ℤ × ℕ)) → Type 0 = λ x. AreFirst basis values lowers x places in
    subst D d (subst C c (subst B b (h n basis (subst (AreSeats n basis) (sym a) s))))

pub started : (basis basis1 : List ℕ) (trail trail1 : List Asserted) (values values1 : List (ℤ × ℤ)) (budget : ℕ) → basis1 ≡ basis
    → trail1 ≡ trail → values1 ≡ values
    → (let b : Beginning = record { basis = basis1; bounds = map plain (map standing trail1); places = outside_from 0 values1 basis1; pivots = budget } in b)
    ≡ record { basis = basis; bounds = map plain (map standing trail); places = outside_from 0 values basis; pivots = budget }
started basis basis1 trail trail1 values values1 budget a b c =
    ap (λ x. let y : Beginning = record { basis = x; bounds = map plain (map standing trail1); places = outside_from 0 values1 x; pivots = budget } in y) a
    ∙ ap (λ x. let y : Beginning = record { basis = basis; bounds = map plain (map standing x); places = outside_from 0 values1 basis; pivots = budget } in y) b
    ∙ ap (λ x. let y : Beginning = record { basis = basis; bounds = map plain (map standing trail); places = outside_from 0 x basis; pivots = budget } in y) c

-- a run from the first places is one from where the check begins
pub long_from : (s : State) (given : List (List (ℕ × ℤ))) (columns : ℕ) (places : List ℤ) (budget : ℕ) → given ≡ s.given → columns ≡ s.columns
    → first_position (beginning s budget) ≡ at s.basis places
    → CanPivot given columns (map plain s.bounds) (suc budget) (at s.basis places) → IsLong s budget
long_from s given columns places budget a b e h =
    let A : List (List (ℕ × ℤ)) → Type 0 = λ x. CanPivot x columns (map plain s.bounds) (suc budget) (at s.basis places) in
    let B : ℕ → Type 0 = λ x. CanPivot s.given x (map plain s.bounds) (suc budget) (at s.basis places) in
    let C : Position → Type 0 = λ x. CanPivot s.given s.columns (map plain s.bounds) (suc budget) x in
    subst C (sym e) (subst B b (subst A a h))
