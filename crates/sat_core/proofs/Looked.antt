-- How the looks rise with the hints and literals that come.
use Rattle.std.specs.Prelude.{ℕ, ◌≡◌, ◌⊎◌, ◌+◌, ◌≤◌, List, [], ◌∷◌, ◌++◌, length}
use Rattle.std.proofs.Common.{sym, ◌∙◌, ap, subst, arith, inl, inr}
use Rattle.std.proofs.lemmas.List.{length-append}
use Rattle.proof_steps.specs.declared.Literal.{Literal}
use Rattle.proof_steps.specs.View.{derived}
use Rattle.sat_core.specs.Store.{IsLooked}
use Rattle.sat_core.specs.Shown.{Shown}
use Rattle.sat_core.specs.Looking.{IsPinned, LooksAtHints}

pub pinned_none : (looks hints literals : ℕ) → IsPinned looks looks hints hints literals literals
pinned_none looks hints literals = record { at_least = inl (omega arith); at_most = omega arith; grows = omega arith }

pub pinned_more : {a b c h i j l m n : ℕ} → IsPinned a b h i l m → IsPinned b c i j m n → IsPinned a c h j l n
pinned_more {a} {b} {c} {h} {i} {j} {l} {m} {n} p q = record {
  at_least = elim p.at_least as (λ _. (a + j ≤ c + h) ⊎ (18446744073709551615 ≤ c)) [
    | inl x ↦ elim q.at_least as (λ _. (a + j ≤ c + h) ⊎ (18446744073709551615 ≤ c)) [ inl y ↦ inl (omega arith) | inr y ↦ inr y ]
    | inr x ↦ inr (let g = q.grows in omega arith)
  ];
  at_most = (let x = p.at_most in let y = q.at_most in omega arith);
  grows = (let x = p.grows in let y = q.grows in omega arith);
}

-- a look gives a hint
pub looked_hint : {a b : ℕ} (h i l : ℕ) → i ≡ h + 1 → IsLooked a b → IsPinned a b h i l l
looked_hint {a} {b} h i l e k = elim k as (λ _. IsPinned a b h i l l) [
  | inl x ↦ record { at_least = inl (omega arith); at_most = omega arith; grows = omega arith }
  | inr x ↦ (let y = x.0 in let z = x.1 in record { at_least = inr (omega arith); at_most = omega arith; grows = omega arith })
]

-- it gives a literal
pub looked_literal : {a b : ℕ} (h l m : ℕ) → m ≡ l + 1 → IsLooked a b ⊎ (b ≡ a) → IsPinned a b h h l m
looked_literal {a} {b} h l m e k = elim k as (λ _. IsPinned a b h h l m) [
  | inl x ↦ elim x as (λ _. IsPinned a b h h l m) [
    | inl y ↦ record { at_least = inl (omega arith); at_most = omega arith; grows = omega arith }
    | inr y ↦ (let z = y.1 in record { at_least = inl (omega arith); at_most = omega arith; grows = omega arith })
  ]
  | inr x ↦ record { at_least = inl (omega arith); at_most = omega arith; grows = omega arith }
]

pub longer : {X : Type 0} (xs ys : List X) (x : X) → ys ≡ xs ++ x ∷ [] → length ys ≡ length xs + 1
longer xs ys x e = ap length e ∙ length-append xs (x ∷ [])

pub pinned_hint : {a b c h : ℕ} (hints hints' : List ℕ) (n : ℕ) → IsLooked b c → hints' ≡ hints ++ n ∷ []
    → IsPinned a b h (length hints) 0 0 → IsPinned a c h (length hints') 0 0
pinned_hint hints hints' n k e p = pinned_more p (looked_hint (length hints) (length hints') 0 (longer hints hints' n e) k)

-- a look at the false clause, then the tracing, then the reduction
pub pinned_whole : {a b c d : ℕ} (h1 h2 h3 h4 l1 l2 : ℕ) → IsLooked a b → h1 ≡ 1 → l1 ≡ 1 → IsPinned b c h1 h2 0 0
    → IsPinned c d h2 h3 l1 l2 → h4 ≡ h3 → IsPinned a d 0 h4 1 l2
pinned_whole {a} {b} {c} {d} h1 h2 h3 h4 l1 l2 k e f p q g =
    let start : IsPinned a b 0 h1 1 1 = looked_hint 0 h1 1 e k in
    let traced : IsPinned b c h1 h2 1 1 =
    record { at_least = p.at_least; at_most = (let x = p.at_most in omega arith); grows = p.grows } in
    let reduced : IsPinned c d h2 h4 1 l2 =
    subst (λ x. IsPinned c d h2 x 1 l2) (sym g) (subst (λ x. IsPinned c d h2 h3 x l2) f q) in
    pinned_more (pinned_more start traced) reduced

pub looks_at_hints : (old new : Shown) (clause : List Literal) (hints : List ℕ) → new.log ≡ old.log ++ derived clause hints ∷ []
    → IsPinned old.looks new.looks 0 (length hints) 1 (length clause) → LooksAtHints old new
looks_at_hints old new clause hints e p = record {
  clause = clause;
  hints = hints;
  steps = e;
  at_least = elim p.at_least as (λ _. (old.looks + length hints ≤ new.looks) ⊎ (18446744073709551615 ≤ new.looks))
      [ inl x ↦ inl (omega arith) | inr x ↦ inr x ];
  at_most = (let x = p.at_most in omega arith);
}
