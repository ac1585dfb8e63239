-- What is known of an expression whatever the slots have, so that it need not be evaluated.
use Rattle.std.specs.Prelude.{Bool, true, false, ◌&&◌, ◌||◌}
use Rattle.slot_values.specs.Resolution.{Resolution, known, slot, negated, opposite, combined, chosen, started, sampled, merged, latest}
use Rattle.slot_sources.specs.Source.{Source, runs_while, given, argument, remembered}

-- It has no minus and no operation of two operands, so that nothing is outside 128 bits in it.
abbrev pub is_plain : Resolution → Bool
is_plain (known v) = true
is_plain (slot k) = true
is_plain (negated a) = is_plain a
is_plain (opposite p a) = false
is_plain (combined p o a b) = false
is_plain (chosen a b d) = is_plain a && is_plain b && is_plain d
is_plain (started k a b) = is_plain a && is_plain b
is_plain (sampled k c a) = is_plain a
is_plain (merged k a b) = is_plain a && is_plain b
is_plain (latest a b o h) = is_plain a

-- It has no value where its clock is off, and nothing is outside in it there. An operation has no value where one of its operands has none. What is sampled or
-- merged has the clock of another name, of which nothing is known here.
abbrev pub is_still : Resolution → Bool
is_still (known v) = true
is_still (slot k) = true
is_still (negated a) = is_still a
is_still (opposite p a) = is_still a
is_still (combined p o a b) = (is_still a || is_plain a) && (is_still b || is_plain b) && (is_still a || is_still b)
is_still (chosen a b d) = (is_still a || is_plain a) && is_still b && is_still d
is_still (started k a b) = is_still a && is_still b
is_still (sampled k c a) = false
is_still (merged k a b) = false
is_still (latest a b o h) = is_still a || is_plain a

-- nothing is outside in it where its clock is off
abbrev pub is_quiet : Resolution → Bool
is_quiet e = is_still e || is_plain e

-- ---- of the expression of a source, if it has one

abbrev pub has_plain : Source → Bool
has_plain (runs_while w e) = is_plain e
has_plain (given w e) = is_plain e
has_plain (argument b w e) = is_plain e
has_plain (remembered w e) = is_plain e
has_plain _ = true

abbrev pub has_still : Source → Bool
has_still (runs_while w e) = is_still e
has_still (given w e) = is_still e
has_still (argument b w e) = is_still e
has_still (remembered w e) = is_still e
has_still _ = true
