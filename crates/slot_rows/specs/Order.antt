-- Orders of slots: each behind those that it reads at the same instant.
use Rattle.std.specs.Prelude.{◌≡◌, ℕ, ◌<◌, Bool, true, List, [], map, length, get_or}
use Rattle.lus_meaning.specs.Order.{IsOrder, Passes, is_listed}
use Rattle.slot_sources.specs.Source.{Source}
use Rattle.slot_sources.specs.Rows.{reads_now}
use Rattle.slot_sources.specs.Sources.{HasRanks}

-- for each slot those that it reads
abbrev pub Reads : Type 0
Reads = List (List ℕ)

abbrev pub reads_of : Reads → ℕ → List ℕ
reads_of rows k = get_or rows k []

abbrev pub needs : Reads → ℕ → ℕ → Bool
needs rows k j = is_listed (reads_of rows k) j

abbrev pub reads_each : List Source → Reads
reads_each es = map reads_now es

-- the second is among the slots that the first one reads at the same instant
abbrev pub NeedsSlot : List Source → ℕ → ℕ → Type 0
NeedsSlot es = Passes (needs (reads_each es))

abbrev pub IsSlotOrder : List Source → List ℕ → Type 0
IsSlotOrder es ks = IsOrder (length es) (NeedsSlot es) ks

-- ranks, by which a slot is above those that it reads
pub record AreRanks (rows : Reads) (rank : ℕ → ℕ) : Type 0 where
  pub above : (k j : ℕ) → k < length rows → j < length rows → needs rows k j ≡ true → rank j < rank k

abbrev pub IsUnranked : Reads → Type 0
IsUnranked rows = (rank : ℕ → ℕ) → AreRanks rows rank → ⊥

pub record HasNoOrder (es : List Source) : Type 0 where
  pub order : (ks : List ℕ) → IsSlotOrder es ks → ⊥
  pub ranks : HasRanks es → ⊥
