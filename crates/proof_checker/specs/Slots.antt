-- How the kept places stand for those in a list of terms.
use Rattle.std.specs.Prelude.{ℕ, zero, suc, ◌≡◌, ◌==◌, ◌<◌, cond, List, [], ◌∷◌, length, get_or}
use lib.IntN.{ℤ}

-- where the variable stands first, or the length
abbrev pub place : List (ℕ × ℤ) → ℕ → ℕ
place [] x = 0
place ((y, q) ∷ rest) x = cond (y == x) 0 (suc (place rest x))

abbrev pub later : ℕ → ℕ
later zero = 0
later (suc k) = suc (suc k)

-- one more than that place, or 0 where the variable has no term
abbrev pub slot : List (ℕ × ℤ) → ℕ → ℕ
slot [] x = 0
slot ((y, q) ∷ rest) x = cond (y == x) 1 (later (slot rest x))

pub record AreSlots (slots : List ℕ) (terms : List (ℕ × ℤ)) : Type 0 where
  pub each : (x : ℕ) → x < length slots → get_or slots x 0 ≡ slot terms x

-- what stands in no term any more is forgotten
pub record AreForgotten (slots : List ℕ) (rest : List (ℕ × ℤ)) : Type 0 where
  pub each : (x : ℕ) → x < length slots → slot rest x ≡ 0 → get_or slots x 0 ≡ 0
