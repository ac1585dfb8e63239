-- What a replay answers: the first operation outside 128 bits that a part has; or when properties break, and which instants are lawful.
use Rattle.std.specs.Prelude.{◌≡◌, ℕ, zero, suc, ◌<◌, ◌≤◌, Bool, true, false, ◌||◌, List, Option, Some, None, slice_get}
use Rattle.slot_values.specs.Resolution.{Resolution}
use Rattle.slot_values.specs.Evaluated.{SlotValues}
use Rattle.slot_values.specs.declared.resolved.PastAt.{PastAt}
use Rattle.slot_rows.specs.Table.{Row, row_in, value_in}
use Rattle.slot_replay.specs.declared.fault.ReplayFault.{ReplayFault}
use Rattle.slot_replay.specs.declared.fault.ReplayFault.TheVariants as faults
use Rattle.slot_replay.specs.Conditions.{Conditions, all_true, any_outside, is_true}
use Rattle.slot_replay.specs.Parts.{Part, pasts_of}

-- ---- what was outside 128 bits

-- the values of each instant, and whether an operation was outside where they came from
pub record Seen : Type 0 where
  pub values : ℕ → SlotValues
  pub outside : ℕ → Bool

abbrev pub seen_in : List Row → Seen
seen_in rs = record { values = value_in rs; outside = λ t. (row_in rs t).outside }

-- whether something is outside at an instant: in the row, or in a condition
abbrev pub is_outside : Seen → Conditions → ℕ → Bool
is_outside s q t = s.outside t || (any_outside (s.values t) q.legal || any_outside (s.values t) q.properties)

-- at one of the first t instants
abbrev pub met_before : Seen → Conditions → ℕ → Bool
met_before s q zero = false
met_before s q (suc t) = met_before s q t || is_outside s q t

-- Whether something was outside by then: at an instant or at an earlier one. Behind one at which something is, what rests on that may be wrong, and so may the
-- marks of the rows.
abbrev pub met_outside : Seen → Conditions → ℕ → Bool
met_outside s q t = met_before s q (suc t)

-- the first operation outside that a part has there
abbrev pub first_past : Seen → List Part → ℕ → Option PastAt
first_past s ps t = slice_get (pasts_of (s.values t) ps) 0

-- where something was outside by then no part is
abbrev pub GoesOn : Seen → Conditions → List Part → ℕ → Type 0
GoesOn s q ps t = met_outside s q t ≡ true → first_past s ps t ≡ None

abbrev pub AllGoOn : Seen → Conditions → List Part → ℕ → Type 0
AllGoOn s q ps n = (t : ℕ) → t < n → GoesOn s q ps t

-- The first operation outside that is told: it is that of the first instant at which something was outside by then and a part is.
pub record IsFirstTold (s : Seen) (q : Conditions) (ps : List Part) (n t : ℕ) (p : PastAt) : Type 0 where
  pub below : t < n
  pub met : met_outside s q t ≡ true
  pub first : first_past s ps t ≡ Some p
  pub earlier : AllGoOn s q ps t

-- the same of a fault, where that isn't want of memory, of a list of parts
pub record IsToldOf (s : Seen) (q : Conditions) (AreParts : List Part → Type 0) (n t : ℕ) (p : PastAt) : Type 0 where
  pub parts : List Part
  pub are_parts : AreParts parts
  pub told : IsFirstTold s q parts n t p

abbrev pub IsPast : Seen → Conditions → (List Part → Type 0) → ℕ → ReplayFault → Type 0
IsPast s q AreParts n (faults.Past at t past) = IsToldOf s q AreParts n t (record { at = at; past = past })
IsPast s q AreParts n faults.Memory = Unit {0}

-- if something was outside at one of n instants, a list of parts was looked at, and there was none to tell
pub record HasGoneOn (s : Seen) (q : Conditions) (AreParts : List Part → Type 0) (n : ℕ) : Type 0 where
  pub parts : List Part
  pub are_parts : AreParts parts
  pub going_on : AllGoOn s q parts n

abbrev pub GoesThrough : Seen → Conditions → (List Part → Type 0) → ℕ → Type 0
GoesThrough s q AreParts n = met_before s q n ≡ true → HasGoneOn s q AreParts n

-- ---- what breaks

-- all conditions by which instants are lawful are true at this instant and at all before
abbrev pub IsLawful : (ℕ → SlotValues) → Conditions → ℕ → Type 0
IsLawful s q t = (u : ℕ) → u ≤ t → all_true (s u) q.legal ≡ true

-- a lawful instant at which a property is not true for the first time
pub record Breaks (s : ℕ → SlotValues) (q : Conditions) (e : Resolution) (t : ℕ) : Type 0 where
  pub lawful : IsLawful s q t
  pub first : (u : ℕ) → u < t → is_true (s u) e ≡ true
  pub fails : is_true (s t) e ≡ false

-- the one before n, if there is one
abbrev pub IsBreak : (ℕ → SlotValues) → Conditions → ℕ → Resolution → Option ℕ → Type 0
IsBreak s q n e None = (t : ℕ) → t < n → Breaks s q e t → ⊥
IsBreak s q n e (Some t) = (t < n) × Breaks s q e t

-- where there is no property nothing breaks
abbrev pub IsBreakOf : (ℕ → SlotValues) → Conditions → ℕ → Option Resolution → Option ℕ → Type 0
IsBreakOf s q n None hit = hit ≡ None
IsBreakOf s q n (Some e) hit = IsBreak s q n e hit

-- the instant of each property, by its number from 0
abbrev pub AreBreaks : (ℕ → SlotValues) → Conditions → ℕ → (ℕ → Option ℕ) → Type 0
AreBreaks s q n hits = (k : ℕ) → IsBreakOf s q n (slice_get q.properties k) (hits k)

-- how many of n instants are lawful: the first ones
pub record AreLawful (s : ℕ → SlotValues) (q : Conditions) (n a : ℕ) : Type 0 where
  pub most : a ≤ n
  pub lawful : (t : ℕ) → t < a → IsLawful s q t
  pub lawless : (t : ℕ) → a ≤ t → t < n → IsLawful s q t → ⊥

-- ---- at one instant

-- the first operation of the parts that are kept, if there are such
abbrev pub first_kept : SlotValues → Option (List Part) → Option PastAt
first_kept s None = None
first_kept s (Some ps) = slice_get (pasts_of s ps) 0

-- this operation, at this instant
abbrev pub IsTold : Option PastAt → ℕ → ReplayFault → Type 0
IsTold first t (faults.Past at u past) = (u ≡ t) × (first ≡ Some (record { at = at; past = past }))
IsTold first t faults.Memory = Unit {0}

-- The parts are kept from the first instant on at which something is outside. At the first t instants there was none to tell.
abbrev pub IsKept : Seen → Conditions → (List Part → Type 0) → ℕ → Option (List Part) → Type 0
IsKept s q AreParts t None = met_before s q t ≡ false
IsKept s q AreParts t (Some ps) = (met_before s q t ≡ true) × AreParts ps × AllGoOn s q ps t

-- they are made where none are kept and something is outside
abbrev pub IsKeptAfter : Option (List Part) → Bool → (List Part → Type 0) → Option (List Part) → Type 0
IsKeptAfter (Some ps) outside AreParts new = new ≡ Some ps
IsKeptAfter None false AreParts new = new ≡ None
IsKeptAfter None true AreParts None = ⊥
IsKeptAfter None true AreParts (Some ps) = AreParts ps
