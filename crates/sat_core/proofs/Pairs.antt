-- The two literals that a clause watches.
use Rattle.std.specs.Prelude.{ℕ, zero, suc, ◌≡◌, ◌≢◌, ◌<◌, ◌≤◌, ◌-◌, ◌++◌, ◌∷◌, [], List, false, true, length, Option, Some, None, slice_get, slice_set, refl}
use Rattle.std.proofs.Common.{sym, ◌∙◌, ap, subst, arith, inl, inr}
use Rattle.proof_steps.specs.declared.Literal.{Literal}
use Rattle.proof_steps.specs.Meaning.{at}
use Rattle.proof_checker.specs.Derived.{same}
use Rattle.std.proofs.lemmas.List.{length-set}
use Rattle.sat_core.specs.declared.short.Short.{Short}
use Rattle.sat_core.specs.Set.{place_of}
use Rattle.sat_core.specs.Watching.{Watching, IsOther, IsSameBut, IsWithout, IsMoved, row}
use Rattle.sat_core.proofs.Marking.{same-number}
use Rattle.sat_core.proofs.Places.{some_is}
use Rattle.proof_checker.proofs.Sets.{same-is, same-refl}

pub other_second : (w : Watching) (n : ℕ) (a b l : Literal) → at w.pairs n ≡ Some (Some (a, b)) → true ≡ same a l → IsOther w n l (Some b)
other_second w n a b l e s = ((a, b), e, inl (same-is a l (sym s), let q : b ≡ b = cc in q))

pub other_first : (w : Watching) (n : ℕ) (a b l : Literal) → at w.pairs n ≡ Some (Some (a, b)) → true ≡ same b l → IsOther w n l (Some a)
other_first w n a b l e s = ((a, b), e, inr (same-is b l (sym s), let q : a ≡ a = cc in q))

differs : (a l : Literal) → false ≡ same a l → a ≢ l
differs a l s e = let y : same a l ≡ true = subst (λ x. same a x ≡ true) e (same-refl a) in absurd cc

pub other_none : (w : Watching) (n : ℕ) (a b l : Literal) → at w.pairs n ≡ Some (Some (a, b)) → false ≡ same a l → false ≡ same b l
    → IsOther w n l None
other_none w n a b l e s t (p, q, r) =
    let k : (a, b) ≡ p = some_is (a, b) p (some_is (Some (a, b)) (Some p) (sym e ∙ q)) in
    elim r [ inl x ↦ differs a l s (ap (λ (y : Literal × Literal). y.0) k ∙ x) | inr x ↦ differs b l t (ap (λ (y : Literal × Literal). y.1) k ∙ x) ]

none-is-some : {X : Type 0} (x : X) → None ≡ Some x → ⊥
none-is-some x e = absurd cc

pub other_never : (w : Watching) (n : ℕ) (l : Literal) → at w.pairs n ≡ Some None → IsOther w n l None
other_never w n l e (p, q, r) = none-is-some p (some_is None (Some p) (sym e ∙ q))

get-set : {X : Type 0} (xs : List X) (k : ℕ) (y : X) → k < length xs → slice_get (slice_set xs k y) k ≡ Some y
get-set [] k y h = absurd (omega arith)
get-set (x ∷ xs) zero y h = refl
get-set (x ∷ xs) (suc k) y h = get-set xs k y (omega arith)

get-set-other : {X : Type 0} (xs : List X) (k : ℕ) (y : X) (i : ℕ) → i ≢ k → slice_get (slice_set xs k y) i ≡ slice_get xs i
get-set-other [] k y i ne = refl
get-set-other (x ∷ xs) zero y zero ne = absurd (ne refl)
get-set-other (x ∷ xs) zero y (suc i) ne = refl
get-set-other (x ∷ xs) (suc k) y zero ne = refl
get-set-other (x ∷ xs) (suc k) y (suc i) ne = get-set-other xs k y i (λ e. ne (ap suc e))

pub at-set : {X : Type 0} (xs : List X) (n : ℕ) (y : X) → 0 < n → n ≤ length xs → at (slice_set xs (n - 1) y) n ≡ Some y
at-set xs zero y p h = absurd (omega arith)
at-set xs (suc n) y p h = let e : suc n - 1 ≡ n = omega arith in
    subst (λ k. slice_get (slice_set xs k y) n ≡ Some y) (sym e) (get-set xs n y (omega arith))

pub at-set-other : {X : Type 0} (xs : List X) (n : ℕ) (y : X) → 0 < n → (m : ℕ) → m ≢ n → at (slice_set xs (n - 1) y) m ≡ at xs m
at-set-other xs n y p zero ne = refl
at-set-other xs n y p (suc m) ne = get-set-other xs (n - 1) y m (λ e. ne (let q : suc m ≡ n = omega arith in q))

module _ (rows rows' rows'' : List (List ℕ)) (f found other : Literal) (j number : ℕ) (pairs : List (Option (Literal × Literal)))
    (shorts : List Short) (p q : ℕ) (pf : p ≡ place_of f) (qf : q ≡ place_of found) where
  pub moved : IsSameBut rows rows' q (row rows q ++ number ∷ [])
      → IsWithout (row rows' p) (row rows'' p) j → ((r : ℕ) → r ≢ p → row rows'' r ≡ row rows' r)
      → found ≢ f → 0 < number → number ≤ length pairs
      → IsMoved record { lists = rows; pairs = pairs; shorts = shorts }
      record { lists = rows''; pairs = slice_set pairs (number - 1) (Some (found, other)); shorts = shorts } f j number other found
  moved b wo o ne pos h = record {
    from = subst (λ z. IsWithout (row rows z) (row rows'' z) j) pf
        (subst (λ z. IsWithout z (row rows'' p) j) (b.others p (λ e. ne (same-number found f (sym qf ∙ sym e ∙ pf)))) wo);
    to = subst (λ z. row rows'' z ≡ row rows z ++ number ∷ []) qf
        (o q (λ e. ne (same-number found f (sym qf ∙ e ∙ pf))) ∙ b.here);
    others = λ l nf nd. o (place_of l) (λ e. nf (same-number l f (e ∙ pf))) ∙ b.others (place_of l) (λ e. nd (same-number l found (e ∙ qf)));
    here = at-set pairs number (Some (found, other)) pos h;
    pairs = λ n nn. at-set-other pairs number (Some (found, other)) pos n nn;
    count = length-set pairs (number - 1) (Some (found, other));
    shorts = refl;
  }
