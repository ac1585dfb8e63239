-- For each column its place in the basis.
use Rattle.std.specs.Prelude.{ℕ, ◌≡◌, List, length, Option, Some, None, Contains, MatchOption, slice_get, get_or}

-- the place at which the column stands in the basis, or none outside
abbrev pub IsSeat : List ℕ → ℕ → Option ℕ → Type 0
IsSeat basis c o = MatchOption o (Contains basis c → ⊥) (λ k. slice_get basis k ≡ Some c)

pub record AreSeats (n : ℕ) (basis : List ℕ) (seats : List (Option ℕ)) : Type 0 where
  pub count : length seats ≡ n
  pub each : (c : ℕ) → IsSeat basis c (get_or seats c None)
