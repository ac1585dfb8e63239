-- What a replay has to do with the rows that follow from the sources, whose values have any size.
use Rattle.std.specs.Prelude.{◌≡◌, ℕ, ◌<◌, Bool, true, List, [], ◌∷◌, ◌++◌, Option, Some, slice_get}
use Rattle.std.specs.List.{AllByRecursion}
use Rattle.slot_values.specs.Evaluated.{SlotValues, outside}
use Rattle.slot_values.specs.declared.resolved.PastAt.{PastAt}
use Rattle.slot_sources.specs.Source.{Source}
use Rattle.slot_sources.specs.Rows.{Choices, Follow}
use Rattle.slot_rows.specs.Order.{IsSlotOrder}
use Rattle.slot_rows.specs.Table.{rows, value_in}
use Rattle.slot_rows.specs.Agreement.{AgreeIn, IsClosed, IsDone, NoneOutside, read_slots}
use Rattle.slot_replay.specs.Conditions.{Conditions}
use Rattle.slot_replay.specs.Parts.{Part, pasts_of}
use Rattle.slot_replay.specs.Answer.{AllGoOn, AreBreaks, AreLawful, IsFirstTold, met_before, seen_in}
use Rattle.slot_replay.specs.Agreement.{AreIn, ConditionsReadIn, PartsReadIn, part_reads}

-- ---- at an instant

-- no part has an operation outside 128 bits
abbrev pub PartsWithin : List Part → SlotValues → Type 0
PartsWithin ps v = pasts_of v ps ≡ []

-- and no condition
pub record ConditionsWithin (q : Conditions) (v : SlotValues) : Type 0 where
  pub legal : AllByRecursion (λ e. outside v true e ≡ []) q.legal
  pub properties : AllByRecursion (λ e. outside v true e ≡ []) q.properties

-- all that a part reads is done
pub record IsReadDone (es : List Source) (in_set : ℕ → Bool) (p : Part) (v : SlotValues) : Type 0 where
  pub done : ℕ → Bool
  pub is_done : IsDone es in_set done v
  pub read : AreIn done (part_reads p)

-- What the sources of a set of slots, the conditions and the parts have to do with each other, by the values of an instant. Where no source of a slot that is
-- read and no condition has an operation outside, no part has. Where no part has, no source of the set and no condition has. What a part reads is done, where
-- no part before it has one.
pub record IsCovered (es : List Source) (q : Conditions) (ps : List Part) (in_set : ℕ → Bool) (v : SlotValues) : Type 0 where
  pub parts : NoneOutside es (read_slots es) v → ConditionsWithin q v → PartsWithin ps v
  pub sources : PartsWithin ps v → NoneOutside es in_set v
  pub conditions : PartsWithin ps v → ConditionsWithin q v
  pub first : (front : List Part) (p : Part) (rest : List Part) → ps ≡ front ++ p ∷ rest → PartsWithin front v → IsReadDone es in_set p v

-- ---- of n instants

-- Rows follow from sources, and a closed set of slots has all that the conditions and the parts read.
pub record AreCovered (es : List Source) (c : Choices) (ks : List ℕ) (q : Conditions) (ps : List Part) (in_set : ℕ → Bool) (n : ℕ)
    (s : ℕ → SlotValues) : Type 0 where
  pub order : IsSlotOrder es ks
  pub read : IsClosed es (read_slots es)
  pub closed : IsClosed es in_set
  pub conditions : ConditionsReadIn in_set q
  pub parts : PartsReadIn in_set ps
  pub follow : Follow es c n s
  pub covered : (t : ℕ) → t < n → IsCovered es q ps in_set (s t)

-- the first operation outside that the parts have, instant by instant and in their order
pub record IsFirstOutside (s : ℕ → SlotValues) (ps : List Part) (n t : ℕ) (p : PastAt) : Type 0 where
  pub below : t < n
  pub earlier : (u : ℕ) → u < t → PartsWithin ps (s u)
  pub first : slice_get (pasts_of (s t) ps) 0 ≡ Some p

-- what is so of such rows, and of the table of the sources by the order
abbrev pub OfCovered : (List Source → Choices → List ℕ → Conditions → List Part → (ℕ → Bool) → ℕ → (ℕ → SlotValues) → Type 0) → Type 0
OfCovered P =
    (es : List Source) (c : Choices) (ks : List ℕ) (q : Conditions) (ps : List Part) (in_set : ℕ → Bool) (n : ℕ) (s : ℕ → SlotValues) →
    AreCovered es c ks q ps in_set n s → P es c ks q ps in_set n s

-- What is told by the table is the first operation outside that the parts have in these rows.
abbrev pub ToldIsFirst : Type 0
ToldIsFirst =
    OfCovered (λ es c ks q ps in_set n s. (t : ℕ) (p : PastAt) → IsFirstTold (seen_in (rows c es ks n)) q ps n t p → IsFirstOutside s ps n t p)

-- Where the replay by the table goes on, no part has one,
abbrev pub GoingOnIsWithin : Type 0
GoingOnIsWithin =
    OfCovered (λ es c ks q ps in_set n s. (met_before (seen_in (rows c es ks n)) q n ≡ true → AllGoOn (seen_in (rows c es ks n)) q ps n) →
    (t : ℕ) → t < n → PartsWithin ps (s t))

-- and where none has, the table has the values of these rows in the slots of the set,
abbrev pub WithinAgrees : Type 0
WithinAgrees =
    OfCovered (λ es c ks q ps in_set n s. ((t : ℕ) → t < n → PartsWithin ps (s t)) → AgreeIn es in_set c ks n n s)

-- and so it has their answers.
abbrev pub WithinBreaks : Type 0
WithinBreaks =
    OfCovered (λ es c ks q ps in_set n s. ((t : ℕ) → t < n → PartsWithin ps (s t)) → (hits : ℕ → Option ℕ) →
    AreBreaks (value_in (rows c es ks n)) q n hits → AreBreaks s q n hits)

abbrev pub WithinLawful : Type 0
WithinLawful =
    OfCovered (λ es c ks q ps in_set n s. ((t : ℕ) → t < n → PartsWithin ps (s t)) → (a : ℕ) → AreLawful (value_in (rows c es ks n)) q n a →
    AreLawful s q n a)
