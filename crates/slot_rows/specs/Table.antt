-- The table of a declaration's slots: row after row, an instant each. A row begins with what is brought to its instant, and its slots get their values in an
-- order.
use Rattle.std.specs.Prelude.{ℕ, zero, suc, Bool, true, false, ◌||◌, List, [], ◌∷◌, ◌++◌, map, Option, Some, None, is_none, unwrap_or, slice_get, get_or, set}
use Rattle.lus_meaning.specs.Value.{Value, absent}
use Rattle.slot_values.specs.declared.resolved.PastAt.{PastAt}
use Rattle.slot_values.specs.Evaluated.{slot_view, SlotValues}
use Rattle.slot_sources.specs.Source.{Source, always, runs, runs_while, same, given, argument, listed, remembered, starting, held, unread}
use Rattle.slot_sources.specs.Rows.{Choices, value_now, outside_now, brought_first, brought_next, outside_next}
use Rattle.slot_rows.specs.declared.table.Row.{Row as CodeRow}
use Rattle.slot_rows.specs.declared.table.Table.{Table as CodeTable}

-- the values of a row by the numbers of the slots; behind its end all are absent
abbrev pub slots_of : List Value → SlotValues
slots_of vs k = get_or vs k absent

abbrev pub is_any : List PastAt → Bool
is_any [] = false
is_any (p ∷ ps) = true

-- absent where an operation is outside 128 bits
abbrev pub unless : List PastAt → Value → Value
unless [] v = v
unless (p ∷ ps) v = absent

-- the values of an instant, and whether an operation was outside 128 bits
pub record Row : Type 0 where
  pub values : List Value
  pub outside : Bool

-- ---- one row

-- what is listed of a slot, else what was brought to it
abbrev pub listed_or : Choices → ℕ → ℕ → Value → Source → Value
listed_or c t k v (listed w) = c.at k t
listed_or c t k v always = v
listed_or c t k v (runs w) = v
listed_or c t k v (runs_while w e) = v
listed_or c t k v (same j) = v
listed_or c t k v (given w e) = v
listed_or c t k v (argument b w e) = v
listed_or c t k v (remembered w e) = v
listed_or c t k v (starting w) = v
listed_or c t k v (held b o d) = v
listed_or c t k v unread = v

-- whether a slot has what was brought to it
abbrev pub is_brought : Source → Bool
is_brought (remembered w e) = true
is_brought (starting w) = true
is_brought (held b o d) = true
is_brought unread = true
is_brought _ = false

-- the value of a slot by the row so far
abbrev pub value_by : Choices → ℕ → ℕ → SlotValues → Source → Value
value_by c t k s e = unless (outside_now s e) (value_now s (listed_or c t k (s k) e) e)

abbrev pub with_value : Choices → ℕ → ℕ → Option Source → Row → Row
with_value c t k None r = r
with_value c t k (Some e) r = record {
  values = set r.values k (value_by c t k (slots_of r.values) e);
  outside = r.outside || is_any (outside_now (slots_of r.values) e);
}

-- a slot is given what something comes to: absent, and noted, where an operation is outside 128 bits
abbrev pub with_outcome : ℕ → Option Value → Row → Row
with_outcome k o r = record { values = set r.values k (unwrap_or o absent); outside = r.outside || is_none o }

-- slot by slot
abbrev pub filled : Choices → List Source → ℕ → Row → List ℕ → Row
filled c es t r [] = r
filled c es t r (k ∷ ks) = filled c es t (with_value c t k (slice_get es k) r) ks

-- ---- from row to row

-- what is brought to the first instant, of the slots from the number k on
abbrev pub first_values : Choices → ℕ → List Source → List Value
first_values c k [] = []
first_values c k (e ∷ es) = brought_first (c.first k) e ∷ first_values c (suc k) es

-- what these values bring to the next one; and whether an operation is outside in that
abbrev pub next_value : SlotValues → ℕ → Source → Value
next_value s k e = unless (outside_next s e) (brought_next s k e)

abbrev pub next_values : SlotValues → ℕ → List Source → List Value
next_values s k [] = []
next_values s k (e ∷ es) = next_value s k e ∷ next_values s (suc k) es

abbrev pub next_outside : SlotValues → List Source → Bool
next_outside s [] = false
next_outside s (e ∷ es) = is_any (outside_next s e) || next_outside s es

-- a row counts as outside also by what it brings to the next one
abbrev pub closed : List Source → Row → Row
closed es r = record { values = r.values; outside = r.outside || next_outside (slots_of r.values) es }

abbrev pub row_from : Choices → List Source → List ℕ → ℕ → List Value → Row
row_from c es ks t vs = closed es (filled c es t (record { values = vs; outside = false }) ks)

-- ---- the rows of the instants

abbrev pub row_at : Choices → List Source → List ℕ → ℕ → Row
row_at c es ks zero = row_from c es ks zero (first_values c zero es)
row_at c es ks (suc t) = row_from c es ks (suc t) (next_values (slots_of (row_at c es ks t).values) zero es)

-- what is brought to an instant
abbrev pub brought_to : Choices → List Source → List ℕ → ℕ → List Value
brought_to c es ks zero = first_values c zero es
brought_to c es ks (suc t) = next_values (slots_of (row_at c es ks t).values) zero es

abbrev pub rows : Choices → List Source → List ℕ → ℕ → List Row
rows c es ks zero = []
rows c es ks (suc n) = rows c es ks n ++ row_at c es ks n ∷ []

-- ---- what is read of a table

abbrev pub no_row : Row
no_row = record { values = []; outside = false }

-- behind the last instant all is absent
abbrev pub row_in : List Row → ℕ → Row
row_in rs t = get_or rs t no_row

abbrev pub value_in : List Row → ℕ → SlotValues
value_in rs t = slots_of (row_in rs t).values

-- ---- views

abbrev pub row_view : CodeRow → Row
row_view r = record { values = map slot_view r.values.items; outside = r.outside }

abbrev pub table_view : CodeTable → List Row
table_view t = map row_view t.rows.items
