-- What is shown and told of the slots of a node, by the table of its sources.
use Rattle.std.specs.Prelude.{◌≡◌, ℕ, List}
use Rattle.lus_meaning.specs.Scene.{Instance}
use Rattle.lus_meaning.specs.Trace.{BareLine}
use Rattle.slot_sources.specs.Rows.{Choices}
use Rattle.slot_sources.specs.Sources.{sources_of}
use Rattle.slot_rows.specs.Order.{IsSlotOrder}
use Rattle.slot_rows.specs.Table.{Row, rows, value_in}
use Rattle.slot_replay.specs.declared.fault.ReplayFault.{ReplayFault}
use Rattle.slot_replay.specs.declared.fault.ReplayFault.TheVariants as faults
use Rattle.slot_replay.specs.Answer.{AreBreaks, AreLawful, GoesThrough, IsToldOf, seen_in}
use Rattle.slot_values.specs.declared.resolved.PastAt.{PastAt}
use Rattle.slot_replay.specs.Parts.{Part}
use Rattle.slot_replay.specs.Shown.{Shown}
use Rattle.replay_laws.specs.Chosen.{Chooses}
use Rattle.replay_laws.specs.OverSlots.{conditions_over}

-- the table of n instants, by an order of the slots and by what lines of a trace choose
pub record IsTable (i : Instance) (ls : List BareLine) (n : ℕ) (table : List Row) : Type 0 where
  pub order : List ℕ
  pub is_order : IsSlotOrder (sources_of i) order
  pub choices : Choices
  pub chosen : Chooses ls i choices
  pub filled : table ≡ rows choices (sources_of i) order n

-- this is what such a table shows, where these are the parts
pub record ShowsSlots (i : Instance) (ls : List BareLine) (n : ℕ) (AreParts : List Part → Type 0) (r : Shown) : Type 0 where
  pub table : List Row
  pub is_table : IsTable i ls n table
  pub going_on : GoesThrough (seen_in table) (conditions_over i) AreParts n
  pub breaks : AreBreaks (value_in table) (conditions_over i) n r.breaks
  pub lawful : AreLawful (value_in table) (conditions_over i) n r.lawful
  pub value : (k t : ℕ) → r.value k t ≡ value_in table t k

-- an operation that such a table tells
pub record TellsPast (i : Instance) (ls : List BareLine) (n : ℕ) (AreParts : List Part → Type 0) (t : ℕ) (x : PastAt) : Type 0 where
  pub table : List Row
  pub is_table : IsTable i ls n table
  pub told : IsToldOf (seen_in table) (conditions_over i) AreParts n t x

-- the same of a fault, where that isn't want of memory
abbrev pub TellsSlots : Instance → List BareLine → ℕ → (List Part → Type 0) → ReplayFault → Type 0
TellsSlots i ls n AreParts (faults.Past at t past) = TellsPast i ls n AreParts t (record { at = at; past = past })
TellsSlots i ls n AreParts faults.Memory = Unit {0}
