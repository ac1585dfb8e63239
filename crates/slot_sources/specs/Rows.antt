-- Rows of values that follow from sources: one row for each instant, with a value for each slot.
use Rattle.std.specs.Prelude.{◌≡◌, ℕ, zero, suc, ◌<◌, Bool, true, false, not, cond, ◌&&◌, List, [], ◌∷◌, ◌++◌, Some, slice_get}
use Rattle.lus_meaning.specs.Value.{Value, absent, flag, is}
use Rattle.slot_values.specs.Resolution.{Resolution, known, slot, negated, opposite, combined, chosen, started, sampled, merged, latest}
use Rattle.slot_values.specs.Evaluated.{SlotValues, only_where, worth, outside}
use Rattle.slot_values.specs.declared.resolved.PastAt.{PastAt}
use Rattle.slot_sources.specs.declared.source.Switch.{Switch}
use Rattle.slot_sources.specs.Source.{Source, always, runs, runs_while, same, given, argument, listed, remembered, starting, held, unread}

abbrev pub is_on : SlotValues → Switch → Bool
is_on s w = is w.wanted (s w.slot)

-- what is chosen from outside: the first value of each memory, and what a trace lists of a slot at an instant
pub record Choices : Type 0 where
  pub first : ℕ → Value
  pub at : ℕ → ℕ → Value

-- ---- one instant

-- The value of a slot by the row of its instant. What is brought to it from before, or listed, is that value.
abbrev pub value_now : SlotValues → Value → Source → Value
value_now s v always = flag true
value_now s v (runs w) = flag (is_on s w)
value_now s v (runs_while w e) = flag (is_on s w && is true (worth s (is_on s w) e))
value_now s v (same k) = s k
value_now s v (given w e) = worth s (is_on s w) e
value_now s v (argument b w e) = only_where (is true (s b)) (worth s (is_on s w) e)
value_now s v (listed w) = only_where (is_on s w) v
value_now s v (remembered w e) = v
value_now s v (starting w) = v
value_now s v (held b o d) = v
value_now s v unread = v

-- the operations with results outside 128 bits that this meets
abbrev pub outside_now : SlotValues → Source → List PastAt
outside_now s (runs_while w e) = outside s (is_on s w) e
outside_now s (given w e) = outside s (is_on s w) e
outside_now s (argument b w e) = outside s (is_on s w) e
outside_now s _ = []

-- ---- from instant to instant

-- what is brought to the first instant
abbrev pub brought_first : Value → Source → Value
brought_first v (remembered w e) = v
brought_first v (starting w) = flag true
brought_first v (held b o d) = d
brought_first v _ = absent

-- what is brought from a row to the next instant, of the slot with the number k
abbrev pub brought_next : SlotValues → ℕ → Source → Value
brought_next s k (remembered w e) = cond (is_on s w) (worth s (is_on s w) e) (s k)
brought_next s k (starting w) = flag (is true (s k) && not (is_on s w))
brought_next s k (held b o d) = cond (is true (s b)) (s o) (s k)
brought_next s k _ = absent

abbrev pub outside_next : SlotValues → Source → List PastAt
outside_next s (remembered w e) = outside s (is_on s w) e
outside_next s _ = []

-- of the slot with the number k at an instant, where these are the rows of the instants
abbrev pub brought : Choices → (ℕ → SlotValues) → ℕ → ℕ → Source → Value
brought c rows k t (listed w) = c.at k t
brought c rows k zero e = brought_first (c.first k) e
brought c rows k (suc t) e = brought_next (rows t) k e

abbrev pub is_read : Source → Bool
is_read unread = false
is_read _ = true

-- The rows of n instants follow from the sources of their slots and from what is chosen.
abbrev pub Follow : List Source → Choices → ℕ → (ℕ → SlotValues) → Type 0
Follow es c n rows =
    (k : ℕ) (e : Source) → slice_get es k ≡ Some e → is_read e ≡ true → (t : ℕ) → t < n →
    rows t k ≡ value_now (rows t) (brought c rows k t e) e

-- ---- what is read

abbrev pub slots_read : Resolution → List ℕ
slots_read (known v) = []
slots_read (slot k) = k ∷ []
slots_read (negated a) = slots_read a
slots_read (opposite p a) = slots_read a
slots_read (combined p o a b) = slots_read a ++ slots_read b
slots_read (chosen a b d) = slots_read a ++ slots_read b ++ slots_read d
slots_read (started k a b) = k ∷ slots_read a ++ slots_read b
slots_read (sampled k c a) = k ∷ slots_read a
slots_read (merged k a b) = k ∷ slots_read a ++ slots_read b
slots_read (latest a b o h) = slots_read a ++ b ∷ o ∷ h ∷ []

-- the slots whose values of the same instant a source reads
abbrev pub reads_now : Source → List ℕ
reads_now (runs w) = w.slot ∷ []
reads_now (runs_while w e) = w.slot ∷ slots_read e
reads_now (same k) = k ∷ []
reads_now (given w e) = w.slot ∷ slots_read e
reads_now (argument b w e) = b ∷ w.slot ∷ slots_read e
reads_now (listed w) = w.slot ∷ []
reads_now _ = []

-- and those whose values it takes to the next instant, beside its own slot
abbrev pub reads_before : Source → List ℕ
reads_before (remembered w e) = w.slot ∷ slots_read e
reads_before (starting w) = w.slot ∷ []
reads_before (held b o d) = b ∷ o ∷ []
reads_before _ = []
