-- What rows of values break, by the resolutions of conditions alone.
use Rattle.std.specs.Prelude.{◌≡◌, ℕ, ◌<◌, ◌≤◌, Bool, true, false, List, Option, Some, None, slice_get}
use Rattle.std.specs.List.{list_all}
use Rattle.lus_meaning.specs.Value.{is}
use Rattle.slot_values.specs.Resolution.{Resolution}
use Rattle.slot_values.specs.Evaluated.{SlotValues, worth}

-- whether a condition is true in a row; its own clock is on at every instant
abbrev pub is_true : SlotValues → Resolution → Bool
is_true s e = is true (worth s true e)

abbrev pub all_true : SlotValues → List Resolution → Bool
all_true s es = list_all (λ e. is_true s e) es

module _ (rows : ℕ → SlotValues) (legal : List Resolution) where
  -- what makes instants lawful is true at this instant and at all before
  abbrev pub IsLawfulRow : ℕ → Type 0
  IsLawfulRow t = (u : ℕ) → u ≤ t → all_true (rows u) legal ≡ true

  -- a lawful instant at which a property is not true for the first time
  pub record BreaksRow (e : Resolution) (t : ℕ) : Type 0 where
    pub lawful : IsLawfulRow t
    pub first : (u : ℕ) → u < t → is_true (rows u) e ≡ true
    pub fails : is_true (rows t) e ≡ false

  -- the one before n, if there is one
  abbrev pub IsRowBreak : ℕ → Resolution → Option ℕ → Type 0
  IsRowBreak n e None = (t : ℕ) → t < n → BreaksRow e t → ⊥
  IsRowBreak n e (Some t) = (t < n) × BreaksRow e t

  -- where there is no property nothing breaks
  abbrev pub IsRowBreakOf : ℕ → Option Resolution → Option ℕ → Type 0
  IsRowBreakOf n None hit = hit ≡ None
  IsRowBreakOf n (Some e) hit = IsRowBreak n e hit

  -- the instant of each property, by its number from 0
  abbrev pub AreRowBreaks : List Resolution → ℕ → (ℕ → Option ℕ) → Type 0
  AreRowBreaks es n hits = (k : ℕ) → IsRowBreakOf n (slice_get es k) (hits k)

  -- how many of n instants are lawful: the first ones
  pub record AreLawfulRows (n a : ℕ) : Type 0 where
    pub most : a ≤ n
    pub lawful : (t : ℕ) → t < a → IsLawfulRow t
    pub lawless : (t : ℕ) → a ≤ t → t < n → IsLawfulRow t → ⊥
