-- Frames that are kept.
use Rattle.std.specs.Prelude.{◌≡◌, ℕ, List, Option, Some, None, slice_get}
use Rattle.std.specs.List.{AllByRecursion}
use Rattle.sys_texts.specs.Views.{sight_view}
use Rattle.sys_tables.specs.Tabled.{Tabled}
use Rattle.frame_sources.specs.Views.{all_asked_view}
use Rattle.part_resolver.specs.declared.seen.Seen.{Seen}
use Rattle.part_resolver.specs.SlotParts.{modes_there, sight_there}

-- a frame has the sight and the modes of where it is
pub record IsSeen (ts : List Tabled) (missing : ℕ) (f : Seen) : Type 0 where
  pub sight : sight_view f.sight ≡ sight_there missing f.seat (slice_get ts f.seat.place)
  pub modes : all_asked_view f.modes.items ≡ modes_there ts missing f.seat (slice_get ts f.seat.place)

abbrev pub IsKept : List Tabled → ℕ → Option Seen → Type 0
IsKept ts missing None = Unit {0}
IsKept ts missing (Some f) = IsSeen ts missing f

abbrev pub AreKept : List Tabled → ℕ → List (Option Seen) → Type 0
AreKept ts missing fs = AllByRecursion (IsKept ts missing) fs
