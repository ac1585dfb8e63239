-- Needs by several steps, each through one of the numbers below a count.
use Rattle.std.specs.Prelude.{ℕ, ◌<◌}

pub data Closure (count : ℕ) (Step : ℕ → ℕ → Type 0) : ℕ → ℕ → Type 0 where
  one_step : (k j : ℕ) → Step k j → Closure count Step k j
  more_steps : (k m j : ℕ) → m < count → Step k m → Closure count Step m j → Closure count Step k j
