-- Lists of codes: what is in them, what they share.
use Rattle.std.proofs.Common.{◌≡◌, ℕ, Bool, true, false, not, ◌==◌, ◌⊎◌, inl, inr, refl, ap, ◌∙◌, List, [], ◌∷◌, ◌++◌, if◌then◌else◌}
use Rattle.std.proofs.lemmas.Bool.{and_parts, or_cases, or_left, or_right, eqb-true, not-true, false_from_ne_true, both_ways}
use Rattle.std.specs.List.{list_all}
use Rattle.lus_grammar.specs.Starts.{listed}

abbrev pub subset : List ℕ → List ℕ → Bool
subset xs ys = list_all (λ c. listed c ys) xs

abbrev pub apart : List ℕ → List ℕ → Bool
apart xs ys = list_all (λ c. not (listed c ys)) xs

all_at : (f : ℕ → Bool) (xs : List ℕ) (c : ℕ) → list_all f xs ≡ true → listed c xs ≡ true → f c ≡ true
all_at f [] c h e = absurd (cc)
all_at f (x ∷ xs) c h e =
    let w = and_parts (f x) (list_all f xs) h in
    elim (or_cases (c == x) (listed c xs) e) as (λ _. f c ≡ true) [
      | inl u ↦ ap f (eqb-true c x u) ∙ w.0
      | inr u ↦ all_at f xs c w.1 u
    ]

module _ (xs ys : List ℕ) (c : ℕ) where
  pub in_subset : subset xs ys ≡ true → listed c xs ≡ true → listed c ys ≡ true
  in_subset h e = all_at (λ x. listed x ys) xs c h e

  pub out_subset : subset xs ys ≡ true → listed c ys ≡ false → listed c xs ≡ false
  out_subset h e = false_from_ne_true _ (λ u. both_ways _ e (in_subset h u))

  pub apart_right : apart xs ys ≡ true → listed c xs ≡ true → listed c ys ≡ false
  apart_right h e = not-true _ (all_at (λ x. not (listed x ys)) xs c h e)

  pub apart_left : apart xs ys ≡ true → listed c ys ≡ true → listed c xs ≡ false
  apart_left h e = false_from_ne_true _ (λ u. both_ways _ (apart_right h u) e)

pub in_cases : (xs ys : List ℕ) (c : ℕ) → listed c (xs ++ ys) ≡ true → (listed c xs ≡ true) ⊎ (listed c ys ≡ true)
in_cases [] ys c h = inr h
in_cases (x ∷ xs) ys c h = elim (or_cases (c == x) (listed c (xs ++ ys)) h) as (λ _. (listed c (x ∷ xs) ≡ true) ⊎ (listed c ys ≡ true)) [
  | inl u ↦ inl (or_left _ _ u)
  | inr u ↦ elim (in_cases xs ys c u) as (λ _. (listed c (x ∷ xs) ≡ true) ⊎ (listed c ys ≡ true)) [ inl v ↦ inl (or_right _ _ v) | inr v ↦ inr v ]
]

pub in_left : (xs ys : List ℕ) (c : ℕ) → listed c xs ≡ true → listed c (xs ++ ys) ≡ true
in_left [] ys c h = absurd (cc)
in_left (x ∷ xs) ys c h = elim (or_cases (c == x) (listed c xs) h) as (λ _. listed c (x ∷ xs ++ ys) ≡ true) [
  | inl u ↦ or_left _ _ u
  | inr u ↦ or_right _ _ (in_left xs ys c u)
]

pub in_right : (xs ys : List ℕ) (c : ℕ) → listed c ys ≡ true → listed c (xs ++ ys) ≡ true
in_right [] ys c h = h
in_right (x ∷ xs) ys c h = or_right _ _ (in_right xs ys c h)

module _ (xs ys : List ℕ) (c : ℕ) where
  pub out_left : listed c (xs ++ ys) ≡ false → listed c xs ≡ false
  out_left h = false_from_ne_true _ (λ u. both_ways _ h (in_left xs ys c u))

  pub out_right : listed c (xs ++ ys) ≡ false → listed c ys ≡ false
  out_right h = false_from_ne_true _ (λ u. both_ways _ h (in_right xs ys c u))

  pub out_both : listed c xs ≡ false → listed c ys ≡ false → listed c (xs ++ ys) ≡ false
  out_both h e = false_from_ne_true _ (λ u. elim (in_cases xs ys c u) as (λ _. ⊥) [ inl v ↦ both_ways _ h v | inr v ↦ both_ways _ e v ])

-- where ys counts only if b
pub in_if_left : (b : Bool) (xs ys : List ℕ) (c : ℕ) → listed c xs ≡ true → listed c (if b then xs ++ ys else xs) ≡ true
in_if_left true xs ys c h = in_left xs ys c h
in_if_left false xs ys c h = h

pub in_if_right : (b : Bool) (xs ys : List ℕ) (c : ℕ) → b ≡ true → listed c ys ≡ true → listed c (if b then xs ++ ys else xs) ≡ true
in_if_right true xs ys c e h = in_right xs ys c h
in_if_right false xs ys c e h = absurd (cc)

pub in_if_cases : (b : Bool) (xs ys : List ℕ) (c : ℕ) → listed c (if b then xs ++ ys else xs) ≡ true → (listed c xs ≡ true) ⊎
    ((b ≡ true) × (listed c ys ≡ true))
in_if_cases true xs ys c h = elim (in_cases xs ys c h) as (λ _. (listed c xs ≡ true) ⊎ ((true ≡ true) × (listed c ys ≡ true)))
    [ inl u ↦ inl u | inr u ↦ inr (refl, u) ]
in_if_cases false xs ys c h = inl h

pub out_if_left : (b : Bool) (xs ys : List ℕ) (c : ℕ) → listed c (if b then xs ++ ys else xs) ≡ false → listed c xs ≡ false
out_if_left b xs ys c h = false_from_ne_true _ (λ u. both_ways _ h (in_if_left b xs ys c u))

pub out_if_right : (b : Bool) (xs ys : List ℕ) (c : ℕ) → b ≡ true → listed c (if b then xs ++ ys else xs) ≡ false → listed c ys ≡ false
out_if_right b xs ys c e h = false_from_ne_true _ (λ u. both_ways _ h (in_if_right b xs ys c e u))
