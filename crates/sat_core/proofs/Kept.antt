-- Which watched literals visits leave.
use Rattle.std.specs.Prelude.{ℕ, ◌≡◌, ◌⊎◌, ◌≤◌, List, Option, Some, Result, Ok, Err, OnErr, slice_get, refl}
use Rattle.std.proofs.Common.{sym, ◌∙◌, ap, subst, arith, inl, inr}
use Rattle.proof_steps.specs.declared.Literal.{Literal}
use Rattle.proof_steps.specs.Meaning.{at}
use Rattle.sat_core.specs.declared.assigned.Assigned.{Assigned}
use Rattle.sat_core.specs.Shown.{Grows}
use Rattle.sat_core.specs.Watching.{Watching}
use Rattle.sat_core.specs.Charged.{IsClear, IsKept}
use Rattle.sat_core.proofs.Places.{get-append}

pub kept_pairs : (trail : List Assigned) (n : ℕ) (w w' : Watching) → w'.pairs ≡ w.pairs → IsKept trail n w w'
kept_pairs trail n w w' e = λ m. inl (ap (λ z. at z m) e)

pub kept_same : (trail : List Assigned) (n : ℕ) (w : Watching) → IsKept trail n w w
kept_same trail n w = λ m. inl refl

clear_as : (trail : List Assigned) (n : ℕ) (q r : Option (Option (Literal × Literal))) → q ≡ r → IsClear trail n q → IsClear trail n r
clear_as trail n q r e c = subst (IsClear trail n) e c

pub kept_more : (trail : List Assigned) (n : ℕ) (a b c : Watching) → IsKept trail n a b → IsKept trail n b c → IsKept trail n a c
kept_more trail n a b c p q = λ m. elim (p m) as (λ _. (at c.pairs m ≡ at a.pairs m) ⊎ (IsClear trail n (at a.pairs m) × IsClear trail n (at c.pairs m))) [
  | inl x ↦ elim (q m) as (λ _. (at c.pairs m ≡ at a.pairs m) ⊎ (IsClear trail n (at a.pairs m) × IsClear trail n (at c.pairs m)))
      [ inl y ↦ inl (y ∙ x) | inr y ↦ inr (clear_as trail n _ _ x y.0, y.1) ]
  | inr x ↦ elim (q m) as (λ _. (at c.pairs m ≡ at a.pairs m) ⊎ (IsClear trail n (at a.pairs m) × IsClear trail n (at c.pairs m)))
      [ inl y ↦ inr (x.0, clear_as trail n _ _ (sym y) x.1) | inr y ↦ inr (x.0, y.1) ]
]

clear_down : (old new : List Assigned) (n n' : ℕ) (q : Option (Option (Literal × Literal))) → Grows old new → n ≤ n' → IsClear new n' q
    → IsClear old n q
clear_down old new n n' q g h c = λ p e l x i a b s. c p e l x i a (omega arith)
    (subst (λ z. slice_get z i ≡ Some a) (sym g.1) (get-append old g.0 i a s))

pub kept_down : (old new : List Assigned) (n n' : ℕ) (w w' : Watching) → Grows old new → n ≤ n' → IsKept new n' w w' → IsKept old n w w'
kept_down old new n n' w w' g h k = λ m. elim (k m)
    as (λ _. (at w'.pairs m ≡ at w.pairs m) ⊎ (IsClear old n (at w.pairs m) × IsClear old n (at w'.pairs m)))
    [ inl x ↦ inl x | inr x ↦ inr (clear_down old new n n' _ g h x.0, clear_down old new n n' _ g h x.1) ]

pub kept_on : (old new : List Assigned) (n n' : ℕ) (a b c : Watching) → Grows old new → n ≤ n' → IsKept old n a b → IsKept new n' b c
    → IsKept old n a c
kept_on old new n n' a b c g h p q = kept_more old n a b c p (kept_down old new n n' b c g h q)

pub on_err_so : {T E P : Type 0} (r : Result T E) → P → OnErr r P
on_err_so (Ok x) p = tt
on_err_so (Err e) p = p
