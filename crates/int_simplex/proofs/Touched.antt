-- The values of the rows that a pivot does not touch.
use Rattle.std.specs.Prelude.{ℕ, zero, suc, ◌≡◌, ◌≢◌, ◌⊎◌, ◌==◌, ◌<◌, cond, List, [], ◌∷◌, length, map, All, Contains, Some, slice_get, slice_set}
use Rattle.std.proofs.Common.{sym, ◌∙◌, ap, subst, arith, refl, inl, inr, get_or}
use Rattle.std.proofs.lemmas.List.{length-set}
use lib.IntN.{ℤ, pos, ◌+ℤ◌, ◌*ℤ◌, zero-*ℤ}
use Rattle.proof_steps.specs.Rows.{entry, rest_below}
use Rattle.proof_steps.specs.Pivots.{exchanged}
use Rattle.int_simplex.specs.Pivoting.{AreTurned}
use Rattle.int_simplex.specs.Valued.{place_at, AreValues, AreValuesBut, IsQuotient, IsRowValue}
use Rattle.int_simplex.specs.Running.{IsReady, IsCrossing}
use Rattle.int_simplex.specs.declared.choosing.Exit.{Exit}
use Rattle.int_simplex.proofs.Places.{same_some, listed_at, at_listed, any_default}
use Rattle.int_simplex.proofs.Pivoted.{after_at}
use Rattle.int_simplex.proofs.Turned.{place_once, stays}
use Rattle.int_simplex.proofs.Nexts.{set_same, set_other, eq_or}
use Rattle.int_simplex.proofs.Turns.{set_place_other}

-- places that differ where there is no entry
same-product : (a f g : ℤ) → (a ≡ pos 0) ⊎ (f ≡ g) → a *ℤ f ≡ a *ℤ g
same-product a f g (inl z) = ap (λ w. w *ℤ f) z ∙ zero-*ℤ f ∙ sym (ap (λ w. w *ℤ g) z ∙ zero-*ℤ g)
same-product a f g (inr e) = ap (λ w. a *ℤ w) e

rest-same : (e f g : ℕ → ℤ) (x n : ℕ) → ((c : ℕ) → (e c ≡ pos 0) ⊎ (f c ≡ g c)) → rest_below e f x n ≡ rest_below e g x n
rest-same e f g x zero h = refl
rest-same e f g x (suc n) h =
    ap (λ w. cond (n == x) w (e n *ℤ f n +ℤ w)) (rest-same e f g x n h)
    ∙ ap (λ v. cond (n == x) (rest_below e g x n) (v +ℤ rest_below e g x n)) (same-product (e n) (f n) (g n) (h n))

mapped-in : (x c : ℕ) (basis : List ℕ) (b : ℕ) → Contains basis b → b ≢ x → Contains (map (exchanged x c) basis) b
mapped-in x c basis b i n =
    let w = at_listed basis b i in
    listed_at (map (exchanged x c) basis) w.0 b (there basis w.0 w.1) where
      there : (xs : List ℕ) (k : ℕ) → slice_get xs k ≡ Some b → slice_get (map (exchanged x c) xs) k ≡ Some b
      there [] k e = absurd cc
      there (y ∷ xs) zero e =
          let q : y ≡ b = same_some y b e in
          ap (λ z. Some (exchanged x c z)) q ∙ ap Some (stays x c b n)
      there (y ∷ xs) (suc k) e = there xs k e

module _ (given : List (List (ℕ × ℤ))) (columns : ℕ) (basis : List ℕ) (rows news : List (List (ℕ × ℤ))) (l : Exit) (c : ℕ) (other : List (ℕ × ℤ))
    (touched : List ℕ) (ready : IsReady given columns basis rows) (crossing : IsCrossing basis rows columns l c)
    (turned : AreTurned columns l.at c other rows news touched) (here : Contains touched l.at) where
  -- the leaving column goes to its limit: the others' values stay
  pub values_but : (places : List ℤ) (values : List (ℤ × ℤ)) (z : ℤ) → l.column < length places → AreValues basis rows places values
      → AreValuesBut (map (exchanged l.column c) basis) news (slice_set places l.column z) (slice_set values l.column (z, pos 1)) touched
  values_but places values z h a = record {
    count = length-set values l.column (z, pos 1) ∙ a.count ∙ sym (length-set places l.column z);
    outside = λ x w n e. elim (eq_or x l.column) [
      | inl q ↦
          let k = a.count in
          let s : z ≡ w = same_some z w (sym (set_same places l.column z h) ∙ ap (slice_get (slice_set places l.column z)) (sym q) ∙ e) in
          ap (slice_get (slice_set values l.column (z, pos 1))) q ∙ set_same values l.column (z, pos 1) (omega arith) ∙ ap (λ v. Some (v, pos 1)) s
      | inr q ↦
          set_other values l.column x (z, pos 1) q
          ∙ a.outside x w (λ i. n (mapped-in l.column c basis x i q)) (sym (set_other places l.column x z q) ∙ e)
    ];
    inside = λ k x r n ex er.
        let u = after_at l.column c basis k x ex in
        let d : u.0 ≢ l.column = λ q. n
        (let P : ℕ → Type 0 = λ y. Contains touched y in
        subst P (sym (place_once basis k l.at l.column ready.different (u.1 ∙ ap Some q) crossing.stands)) here) in
        let s : x ≡ u.0 = u.2 ∙ stays l.column c u.0 d in
        let eo = sym (turned.left k n) ∙ er in
        let v = a.inside k u.0 r u.1 eo in
        let o : entry r l.column ≡ pos 0 =
        (ready.are_rows.each k u.0 r u.1 eo).alone l.column (listed_at basis l.at l.column crossing.stands) (λ q. d (sym q)) in
        let m = length-set places l.column z in
        let same : (y : ℕ) → (entry r y ≡ pos 0) ⊎ (place_at places y ≡ place_at (slice_set places l.column z) y) = λ y. elim (eq_or y l.column) [
          | inl q ↦ inl (ap (entry r) q ∙ o)
          | inr q ↦ inr (sym (set_place_other places l.column y z q))
        ] in
        let P : ℕ → Type 0 = λ y. (w : ℤ × ℤ) × (slice_get (slice_set values l.column (z, pos 1)) y ≡ Some w)
        × IsRowValue (length (slice_set places l.column z)) y (place_at (slice_set places l.column z)) r w in
        let Q : ℤ → Type 0 = λ y. IsQuotient y (entry r u.0) v.0 in
        subst P (sym s) (
          v.0,
          set_other values l.column u.0 (z, pos 1) d ∙ v.1,
          record {
            fraction = v.2.fraction;
            quotient = subst Q
                (rest-same (entry r) (place_at places) (place_at (slice_set places l.column z)) u.0 (length places) same
                ∙ ap (rest_below (entry r) (place_at (slice_set places l.column z)) u.0) (sym m)) v.2.quotient;
          },
        );
  }

pub all_below : (n : ℕ) (xs : List ℕ) → ((k : ℕ) → Contains xs k → k < n) → All (λ k. k < n) xs
all_below n xs f k d h = f (get_or xs k d) (k, h, any_default xs k (get_or xs k d) d h)
