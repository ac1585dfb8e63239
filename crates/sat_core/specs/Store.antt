-- How looks at clauses are counted.
use Rattle.std.specs.Prelude.{ℕ, ◌≡◌, ◌⊎◌, ◌+◌}

-- one look more, or the count stays at the last number of 64 bits
abbrev pub IsLooked : ℕ → ℕ → Type 0
IsLooked old new = (new ≡ old + 1) ⊎ ((old ≡ 18446744073709551615) × (new ≡ old))
