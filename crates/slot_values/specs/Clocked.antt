-- Rows of values in which a name has a value exactly where its clock is on.
use Rattle.std.specs.Prelude.{◌≡◌, ℕ, Bool, true, false, map}
use Rattle.std.specs.List.{AllByRecursion}
use Rattle.lus_tree.specs.Tree.{Name, Expression}
use Rattle.lus_meaning.specs.Value.{absent, is}
use Rattle.lus_meaning.specs.Scene.{Clock, base, sampled_by, Instance}
use Rattle.sys_meaning.specs.Slot.{beat, named, Place, own}
use Rattle.sys_meaning.specs.Items.{Key}
use Rattle.sys_meaning.specs.Seen.{Row, Sight, seen, seen_right}
use Rattle.sys_meaning.specs.WellTyped.{no_constant, is_declared, clock_here, Stands}
use Rattle.slot_values.specs.Evaluated.{SlotValues, is_there, worth}
use Rattle.slot_values.specs.Resolved.{Numbering, resolution, right_resolutions}

-- the values of places, by the numbers of their slots
abbrev pub row_by : (Place → ℕ) → SlotValues → Row
row_by number s p = s (number p)

-- whether a clock is on, by the values of a row
abbrev pub clock_on : Row → Clock → Bool
clock_on row base = is true (row (own beat))
clock_on row (sampled_by b x) = is b (row (own (named x)))

-- each declared name has a value exactly where its clock is on
abbrev pub IsClocked : Instance → (Key → Type 0) → Row → Type 0
IsClocked i ModeAt row =
    (x : Name) → no_constant i ModeAt x → is_declared i ModeAt x → is_there (row (own (named x))) ≡ clock_on row (clock_here i ModeAt x)

-- the modes that are known, by a test
abbrev pub Passes : (Key → Bool) → Key → Type 0
Passes test key = test key ≡ true

-- the sight of a row, in which each mode asks what its resolution is worth
abbrev pub sight_by : Numbering → SlotValues → Sight
sight_by g s = record { place = g.place; row = row_by g.number s; modes = map (λ m. (m.0, worth s true m.1)) g.modes }

-- On its clock the resolution of an expression is worth what the expression is seen to be.
abbrev pub WorthIsSeen : Type 0
WorthIsSeen =
    (g : Numbering) (test : Key → Bool) (s : SlotValues) → IsClocked g.place (Passes test) (row_by g.number s) → (c : Clock) (e : Expression) →
    Stands g.place (Passes test) c e → clock_on (row_by g.number s) c ≡ true → worth s true (resolution g e) ≡ seen (sight_by g s) e

-- And so are those of a right side.
abbrev pub RightsAreSeen : Type 0
RightsAreSeen =
    (g : Numbering) (test : Key → Bool) (s : SlotValues) → IsClocked g.place (Passes test) (row_by g.number s) → (c : Clock) (e : Expression) →
    Stands g.place (Passes test) c e → clock_on (row_by g.number s) c ≡ true →
    map (worth s true) (right_resolutions g e) ≡ seen_right (sight_by g s) e

-- Off its clock it is absent, where the resolutions of modes are so off the base clock.
abbrev pub WorthIsAbsent : Type 0
WorthIsAbsent =
    (g : Numbering) (test : Key → Bool) (s : SlotValues) → IsClocked g.place (Passes test) (row_by g.number s) →
    (clock_on (row_by g.number s) base ≡ false → AllByRecursion (λ m. worth s false m.1 ≡ absent) g.modes) → (c : Clock) (e : Expression) →
    Stands g.place (Passes test) c e → clock_on (row_by g.number s) c ≡ false → worth s false (resolution g e) ≡ absent
