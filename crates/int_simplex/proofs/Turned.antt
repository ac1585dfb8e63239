-- The rows of a tableau after a pivot.
use Rattle.std.specs.Prelude.{ℕ, zero, suc, ◌≡◌, ◌≢◌, ◌<◌, ◌==◌, true, false, cond, List, [], ◌∷◌, length, Contains, Some, slice_get}
use Rattle.std.proofs.Common.{sym, ◌∙◌, ap, subst, arith, inl, inr, refl, get_or}
use Rattle.std.proofs.lemmas.List.{length-map}
use Rattle.std.proofs.lemmas.Option.{slice_get_within, slice_get-get_or}
use Rattle.std.proofs.lemmas.Bool.Decides.{nat_tests}
use Rattle.std.proofs.lemmas.Int.{ints}
use lib.IntN.{ℤ, pos, ◌-ℤ◌, ◌*ℤ◌, *ℤ-zero}
use Rattle.proof_steps.specs.Rows.{entry, AllDiffer}
use Rattle.proof_steps.specs.Pivots.{exchanged}
use Rattle.int_simplex.specs.Inner.{AreRows, IsRowAt}
use Rattle.int_simplex.specs.Sparse.{IsSparse}
use Rattle.int_simplex.specs.Pivoting.{IsNext, AreNext}
use Rattle.int_simplex.proofs.Algebra.{product_zero}
use Rattle.int_simplex.proofs.Places.{same_some, listed_at}
use Rattle.int_simplex.proofs.Pivoted.{after, after_at, entering_row, kept_row, crossed_row}

-- no element stands at two places
pub place_once : (xs : List ℕ) (i j a : ℕ) → AllDiffer xs → slice_get xs i ≡ Some a → slice_get xs j ≡ Some a → i ≡ j
place_once [] i j a d e f = absurd cc
place_once (x ∷ xs) zero zero a d e f = refl
place_once (x ∷ xs) zero (suc j) a d e f =
    absurd (d.0 (let q : x ≡ a = same_some x a e in subst (λ y. Contains xs y) (sym q) (listed_at xs j a f)))
place_once (x ∷ xs) (suc i) zero a d e f =
    absurd (d.0 (let q : x ≡ a = same_some x a f in subst (λ y. Contains xs y) (sym q) (listed_at xs i a e)))
place_once (x ∷ xs) (suc i) (suc j) a d e f = ap suc (place_once xs i j a d.1 e f)

pub stays : (x c b : ℕ) → b ≢ x → exchanged x c b ≡ b
stays x c b n = ap (λ w. cond w c b) (not-same b x n) where
  not-same : (b x : ℕ) → b ≢ x → (b == x) ≡ false
  not-same b x n = grind (arith, nat_tests)

pub goes : (x c : ℕ) → exchanged x c x ≡ c
goes x c = ap (λ w. cond w c x) (same x) where
  same : (x : ℕ) → (x == x) ≡ true
  same x = grind (arith, nat_tests)

own-stays : (p q a b : ℤ) → p ≢ pos 0 → a ≢ pos 0 → b ≡ pos 0 → p *ℤ a -ℤ q *ℤ b ≢ pos 0
own-stays p q a b hp ha hb e =
    let s : p *ℤ a -ℤ q *ℤ pos 0 ≡ pos 0 = ap (λ w. p *ℤ a -ℤ q *ℤ w) (sym hb) ∙ e in
    let t : q *ℤ pos 0 ≡ pos 0 = *ℤ-zero q in
    ha (product_zero p a hp (omega (arith, ints)))

pub there : {X Y : Type 0} (xs : List X) (ys : List Y) (d : X) (k : ℕ) (y : Y) → length ys ≡ length xs → slice_get ys k ≡ Some y
    → (x : X) × (slice_get xs k ≡ Some x)
there xs ys d k y l e = let h : k < length ys = slice_get_within ys k y e in (get_or xs k d, slice_get-get_or xs k d (omega arith))

module _ (given : List (List (ℕ × ℤ))) (columns : ℕ) (basis : List ℕ) (rows news : List (List (ℕ × ℤ))) (at x c : ℕ) (other : List (ℕ × ℤ)) where
  next-sparse : (k : ℕ) (row new : List (ℕ × ℤ)) → AreRows given columns basis rows → slice_get rows k ≡ Some row
      → IsNext columns at c other k row new → IsSparse columns new
  next-sparse k row new a er (inl h) = let P : List (ℕ × ℤ) → Type 0 = λ r. IsSparse columns r in subst P (sym h.1) (a.sparse k row er)
  next-sparse k row new a er (inr h) = h.1.sparse

  next-row : (k b : ℕ) (row new : List (ℕ × ℤ)) → AreRows given columns basis rows → AllDiffer basis → slice_get basis at ≡ Some x
      → slice_get rows at ≡ Some other → slice_get basis k ≡ Some b → slice_get rows k ≡ Some row → entry other c ≢ pos 0
      → IsNext columns at c other k row new → IsRowAt given (after x c basis) (exchanged x c b) (entry new)
  next-row k b row new a d ex eo eb er p (inl (inl s, e)) =
      let q : b ≡ x = same_some b x (sym eb ∙ ap (slice_get basis) s ∙ ex) in
      let r : row ≡ other = same_some row other (sym er ∙ ap (slice_get rows) s ∙ eo) in
      let P : ℕ → Type 0 = λ y. IsRowAt given (after x c basis) y (entry new) in
      let Q : List (ℕ × ℤ) → Type 0 = λ l. IsRowAt given (after x c basis) c (entry l) in
      subst P (sym (ap (exchanged x c) q ∙ goes x c))
      (subst Q (sym (e ∙ r)) (entering_row given basis x c (entry other) (a.each at x other ex eo) p))
  next-row k b row new a d ex eo eb er p (inl (inr z, e)) =
      let Q : List (ℕ × ℤ) → Type 0 = λ l. IsRowAt given (after x c basis) (exchanged x c b) (entry l) in
      let P : ℕ → Type 0 = λ y. IsRowAt given (after x c basis) y (entry row) in
      let n : b ≢ x = λ q.
      let s : k ≡ at = place_once basis k at x d (eb ∙ ap Some q) ex in
      let r : row ≡ other = same_some row other (sym er ∙ ap (slice_get rows) s ∙ eo) in
      p (ap (λ l. entry l c) (sym r) ∙ z) in
      subst Q (sym e) (subst P (sym (stays x c b n)) (kept_row given basis x c b (entry row) (a.each k b row eb er) z))
  next-row k b row new a d ex eo eb er p (inr h) =
      let n : b ≢ x = λ q. h.0 (place_once basis k at x d (eb ∙ ap Some q) ex) in
      let re = a.each k b row eb er in let oe = a.each at x other ex eo in
      let g = h.1.crossing b (own-stays (entry other c) (entry row c) (entry row b) (entry other b) p re.has_entry
      (oe.alone b (listed_at basis k b eb) n)) in
      let P : ℕ → Type 0 = λ y. IsRowAt given (after x c basis) y (entry new) in
      subst P (sym (stays x c b n)) (crossed_row given basis x c b (entry other) (entry row) (entry new) (listed_at basis k b eb) n oe re p g)

  -- a pivot on an entry other than 0 leaves rows, each of the column of the new basis at its place
  pub rows_after : AreRows given columns basis rows → AllDiffer basis → slice_get basis at ≡ Some x → slice_get rows at ≡ Some other
      → entry other c ≢ pos 0 → AreNext columns at c other rows news → AreRows given columns (after x c basis) news
  rows_after a d ex eo p h = record {
    count = h.count ∙ a.count ∙ sym (length-map basis (exchanged x c));
    sparse = λ k new e.
        let r = there rows news [] k new h.count e in
        next-sparse k r.0 new a r.1 (h.each k r.0 new r.1 e);
    each = λ k y new ey e.
        let b = after_at x c basis k y ey in
        let r = there rows news [] k new h.count e in
        let P : ℕ → Type 0 = λ z. IsRowAt given (after x c basis) z (entry new) in
        subst P (sym b.2) (next-row k b.0 r.0 new a d ex eo b.1 r.1 p (h.each k r.0 new r.1 e));
  }
