-- When rows that follow from the sources of slots are those of the table.
use Rattle.std.specs.Prelude.{◌≡◌, ℕ, ◌<◌, ◌≤◌, Bool, true, false, List, [], Option, Some, None, length, slice_get}
use Rattle.std.specs.List.{AllByRecursion}
use Rattle.slot_values.specs.Evaluated.{SlotValues}
use Rattle.slot_sources.specs.Source.{Source}
use Rattle.slot_sources.specs.Rows.{Choices, Follow, brought, is_read, outside_now, outside_next, reads_before, reads_now, value_now}
use Rattle.slot_rows.specs.Order.{IsSlotOrder}
use Rattle.slot_rows.specs.Table.{row_in, rows, value_in}

-- a set of slots that are all read, and whose sources read only slots of the set
pub record IsClosed (es : List Source) (in_set : ℕ → Bool) : Type 0 where
  pub slots : (k : ℕ) → in_set k ≡ true → k < length es
  pub read : (k : ℕ) (e : Source) → slice_get es k ≡ Some e → in_set k ≡ true → is_read e ≡ true
  pub now : (k : ℕ) (e : Source) → slice_get es k ≡ Some e → in_set k ≡ true → AllByRecursion (λ j. in_set j ≡ true) (reads_now e)
  pub before : (k : ℕ) (e : Source) → slice_get es k ≡ Some e → in_set k ≡ true → AllByRecursion (λ j. in_set j ≡ true) (reads_before e)

-- The rows of n instants follow from the sources of the slots of a set.
abbrev pub FollowIn : List Source → (ℕ → Bool) → Choices → ℕ → (ℕ → SlotValues) → Type 0
FollowIn es in_set c n s =
    (k : ℕ) (e : Source) → slice_get es k ≡ Some e → in_set k ≡ true → (t : ℕ) → t < n → s t k ≡ value_now (s t) (brought c s k t e) e

-- the sources of a set have no operation outside 128 bits in the row of an instant
abbrev pub NoneOutside : List Source → (ℕ → Bool) → SlotValues → Type 0
NoneOutside es in_set s =
    (k : ℕ) (e : Source) → slice_get es k ≡ Some e → in_set k ≡ true → (outside_now s e ≡ []) × (outside_next s e ≡ [])

-- at the first m instants the table has the values of the slots of a set
abbrev pub AgreeIn : List Source → (ℕ → Bool) → Choices → List ℕ → ℕ → ℕ → (ℕ → SlotValues) → Type 0
AgreeIn es in_set c ks n m s = (t : ℕ) → t < m → (k : ℕ) → in_set k ≡ true → value_in (rows c es ks n) t k ≡ s t k

-- at them no row of the table met an operation outside 128 bits
abbrev pub NoneMet : List Source → Choices → List ℕ → ℕ → ℕ → Type 0
NoneMet es c ks n m = (t : ℕ) → t < m → (row_in (rows c es ks n) t).outside ≡ false

-- Where the rows that follow have no operation outside, the table has their values.
abbrev pub RowsAgree : Type 0
RowsAgree =
    (es : List Source) (c : Choices) (ks : List ℕ) (in_set : ℕ → Bool) (n m : ℕ) (s : ℕ → SlotValues) → IsSlotOrder es ks → IsClosed es in_set → m ≤ n →
    FollowIn es in_set c n s → ((t : ℕ) → t < m → NoneOutside es in_set (s t)) → AgreeIn es in_set c ks n m s

-- So it has where it met none itself.
abbrev pub UnmetAgree : Type 0
UnmetAgree =
    (es : List Source) (c : Choices) (ks : List ℕ) (in_set : ℕ → Bool) (n m : ℕ) (s : ℕ → SlotValues) → IsSlotOrder es ks → IsClosed es in_set → m ≤ n →
    FollowIn es in_set c n s → NoneMet es c ks n m → AgreeIn es in_set c ks n m s

-- ---- at the next instant

-- some slots of a set, whose sources have no operation outside 128 bits in the row of their instant and read there only such slots
pub record IsDone (es : List Source) (in_set done : ℕ → Bool) (s : SlotValues) : Type 0 where
  pub inside : (k : ℕ) → done k ≡ true → in_set k ≡ true
  pub within : (k : ℕ) (e : Source) → slice_get es k ≡ Some e → done k ≡ true → outside_now s e ≡ []
  pub reads : (k : ℕ) (e : Source) → slice_get es k ≡ Some e → done k ≡ true → AllByRecursion (λ j. done j ≡ true) (reads_now e)

-- Behind instants with no operation outside the table has their values, also at an instant with one.
abbrev pub DoneAgrees : Type 0
DoneAgrees =
    (es : List Source) (c : Choices) (ks : List ℕ) (in_set done : ℕ → Bool) (n t : ℕ) (s : ℕ → SlotValues) → IsSlotOrder es ks → IsClosed es in_set →
    t < n → FollowIn es in_set c n s → ((u : ℕ) → u < t → NoneOutside es in_set (s u)) → IsDone es in_set done (s t) →
    (k : ℕ) → done k ≡ true → value_in (rows c es ks n) t k ≡ s t k

-- ---- of all slots that are read

abbrev pub is_read_at : Option Source → Bool
is_read_at None = false
is_read_at (Some e) = is_read e

abbrev pub read_slots : List Source → ℕ → Bool
read_slots es k = is_read_at (slice_get es k)

abbrev pub ReadAgree : Type 0
ReadAgree =
    (es : List Source) (c : Choices) (ks : List ℕ) (n m : ℕ) (s : ℕ → SlotValues) → IsSlotOrder es ks → IsClosed es (read_slots es) → m ≤ n →
    Follow es c n s → NoneMet es c ks n m → AgreeIn es (read_slots es) c ks n m s

-- ---- what the marks of the table say

-- Where it met no operation outside, the rows that follow have none in a closed set,
abbrev pub UnmetWithin : Type 0
UnmetWithin =
    (es : List Source) (c : Choices) (ks : List ℕ) (in_set : ℕ → Bool) (n m : ℕ) (s : ℕ → SlotValues) → IsSlotOrder es ks → IsClosed es in_set → m ≤ n →
    FollowIn es in_set c n s → NoneMet es c ks n m → (t : ℕ) → t < m → NoneOutside es in_set (s t)

-- and it meets none where these have none in any slot that is read.
abbrev pub NoneMetWithin : Type 0
NoneMetWithin =
    (es : List Source) (c : Choices) (ks : List ℕ) (n m : ℕ) (s : ℕ → SlotValues) → IsSlotOrder es ks → IsClosed es (read_slots es) → m ≤ n →
    Follow es c n s → ((t : ℕ) → t < m → NoneOutside es (read_slots es) (s t)) → NoneMet es c ks n m
