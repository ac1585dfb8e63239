-- Where columns stand.
use Rattle.std.specs.Prelude.{ℕ, ◌≡◌, ◌≢◌, ◌⊎◌, ◌<◌, ◌+◌, true, false, List, length, Option, Some, None, slice_get}
use Rattle.std.proofs.Common.{sym, ◌∙◌, ap, subst, arith, inl, inr, get_or}
use Rattle.std.proofs.lemmas.Option.{slice_get-get_or}
use lib.IntN.{ℤ, pos}
use Rattle.int_simplex.specs.State.{State}
use Rattle.int_simplex.specs.Bounds.{tightest}
use Rattle.int_simplex.proofs.Places.{same_some}
use Rattle.int_cuts.specs.Cuts.{IsAtBound}
use Rattle.int_cuts.specs.Parts.{IsAtLimit, StandTo}

pub none_at : (s : State) (c : ℕ) (v : ℤ × ℤ) (low high : Option (ℤ × ℕ)) → slice_get s.values c ≡ Some v → low ≡ tightest s.bounds c false
    → high ≡ tightest s.bounds c true → IsAtLimit v low None → IsAtLimit v high None → IsAtBound s c → ⊥
none_at s c v low high ev el eh fl fh (false, b, e, p) = fl b (el ∙ e) (same_some v (b.0, pos 1) (sym ev ∙ p))
none_at s c v low high ev el eh fl fh (true, b, e, p) = fh b (eh ∙ e) (same_some v (b.0, pos 1) (sym ev ∙ p))

at-last : (k i : ℕ) → k < i + 1 → (k < i) ⊎ (k ≡ i)
at-last k i h = grind arith

pub stand_more : (s : State) (row : List (ℕ × ℤ)) (x i : ℕ) (z : ℕ × ℤ) → i < length row → ((get_or row i z).0 ≢ x → IsAtBound s (get_or row i z).0)
    → StandTo s row x i → StandTo s row x (i + 1)
stand_more s row x i z l f g j t h e n = elim (at-last j i h) [
  | inl b ↦ g j t b e n
  | inr q ↦
      let w : get_or row i z ≡ t = same_some (get_or row i z) t (sym (slice_get-get_or row i z l) ∙ ap (slice_get row) (sym q) ∙ e) in
      let P : ℕ × ℤ → Type 0 = λ u. u.0 ≢ x → IsAtBound s u.0 in subst P w f n
]
