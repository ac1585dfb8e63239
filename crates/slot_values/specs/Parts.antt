-- What the operations of a resolution have to do with the parts that are evaluated.
use Rattle.std.specs.Prelude.{◌≡◌, ℕ, Bool, true, false, List, [], ◌∷◌, ◌++◌, option_map}
use Rattle.lus_tree.specs.Tree.{Name, text_of, Expression, truth, number, name, negation, minus, pre, arrow, binary, choice, sampled, merged, call, condact, mode_name}
use Rattle.lus_meaning.specs.Frame.{Frame}
use Rattle.lus_meaning.specs.Scene.{Clock, sampled_by, Instance, component_of, clock_of, Scene, is_on}
use Rattle.lus_meaning.specs.Occurrences.{own}
use Rattle.lus_meaning.specs.Cycle.{Place as NeededPlace}
use Rattle.lus_meaning.specs.Verdict.{throughout}
use Rattle.sys_meaning.specs.Slot.{Place}
use Rattle.sys_meaning.specs.Items.{Key, Known}
use Rattle.sys_meaning.specs.WellTyped.{Stands}
use Rattle.lus_evaluation.specs.Part.{Part, ModeParts, Setting, needs_of, key_of, asked_in, part, parts, argument_parts, operand_parts}
use Rattle.lus_evaluation.specs.Past.{scene_on, part_past, NonePast}
use Rattle.slot_values.specs.declared.resolved.PastAt.{PastAt}
use Rattle.slot_values.specs.Resolution.{Resolution}
use Rattle.slot_values.specs.Evaluated.{SlotValues, told, outside}
use Rattle.slot_values.specs.Resolved.{mode_resolution, resolution}
use Rattle.slot_values.specs.Clocked.{row_by, clock_on, Passes}
use Rattle.slot_values.specs.FrameRow.{numbering, Shows}

-- the parts of an expression on which its own operations rest, itself the last one: those of its own whole, and of the conditions of condacts, which are wholes
-- of their own; what a mode requires is among them
abbrev pub own_parts : Setting → List NeededPlace → List Name → Clock → Expression → List Part
own_parts g ns xs c (truth p b) = part g ns xs c (truth p b) ∷ []
own_parts g ns xs c (number p n) = part g ns xs c (number p n) ∷ []
own_parts g ns xs c (name p x) = part g ns xs c (name p x) ∷ []
own_parts g ns xs c (negation p a) = own_parts g ns [] c a ++ part g ns xs c (negation p a) ∷ []
own_parts g ns xs c (minus p a) = own_parts g ns [] c a ++ part g ns xs c (minus p a) ∷ []
own_parts g ns xs c (pre p k a) = part g ns xs c (pre p k a) ∷ []
own_parts g ns xs c (arrow p k a b) = own_parts g ns [] c a ++ own_parts g ns [] c b ++ part g ns xs c (arrow p k a b) ∷ []
own_parts g ns xs c (binary p o a b) = own_parts g ns [] c a ++ own_parts g ns [] c b ++ part g ns xs c (binary p o a b) ∷ []
own_parts g ns xs c (choice p a b d) =
    own_parts g ns [] c a ++ own_parts g ns [] c b ++ own_parts g ns [] c d ++ part g ns xs c (choice p a b d) ∷ []
own_parts g ns xs c (sampled p a q x) =
    own_parts g ns [] (clock_of (component_of g.place) x.text) a ++ part g ns xs c (sampled p a q x) ∷ []
own_parts g ns xs c (merged p x a b) =
    own_parts g ns [] (sampled_by true x.text) a ++ own_parts g ns [] (sampled_by false x.text) b ++ part g ns xs c (merged p x a b) ∷ []
own_parts g ns xs c (call p k f as_) = part g ns xs c (call p k f as_) ∷ []
own_parts g ns xs c (condact p k a f as_ ds) = own_parts g (needs_of g c a) [] c a ++ part g ns xs c (condact p k a f as_ ds) ∷ []
own_parts g ns xs c (mode_name p d m) = asked_in g ns (key_of (option_map text_of d) m.text) ++ part g ns xs c (mode_name p d m) ∷ []

-- those before itself
abbrev pub operands : Setting → List NeededPlace → Clock → Expression → List Part
operands g ns c (truth p b) = []
operands g ns c (number p n) = []
operands g ns c (name p x) = []
operands g ns c (negation p a) = own_parts g ns [] c a
operands g ns c (minus p a) = own_parts g ns [] c a
operands g ns c (pre p k a) = []
operands g ns c (arrow p k a b) = own_parts g ns [] c a ++ own_parts g ns [] c b
operands g ns c (binary p o a b) = own_parts g ns [] c a ++ own_parts g ns [] c b
operands g ns c (choice p a b d) = own_parts g ns [] c a ++ own_parts g ns [] c b ++ own_parts g ns [] c d
operands g ns c (sampled p a q x) = own_parts g ns [] (clock_of (component_of g.place) x.text) a
operands g ns c (merged p x a b) = own_parts g ns [] (sampled_by true x.text) a ++ own_parts g ns [] (sampled_by false x.text) b
operands g ns c (call p k f as_) = []
operands g ns c (condact p k a f as_ ds) = own_parts g (needs_of g c a) [] c a
operands g ns c (mode_name p d m) = asked_in g ns (key_of (option_map text_of d) m.text)

-- what else is among the parts of an expression: the parts of wholes that are nested in it, those of defaults, and what modes require
abbrev pub nested : Setting → List NeededPlace → Clock → Expression → List Part
nested g ns c (truth p b) = []
nested g ns c (number p n) = []
nested g ns c (name p x) = []
nested g ns c (negation p a) = nested g ns c a
nested g ns c (minus p a) = nested g ns c a
nested g ns c (pre p k a) = parts g (needs_of g c a) [] c a
nested g ns c (arrow p k a b) = nested g ns c a ++ nested g ns c b
nested g ns c (binary p o a b) = nested g ns c a ++ nested g ns c b
nested g ns c (choice p a b d) = nested g ns c a ++ nested g ns c b ++ nested g ns c d
nested g ns c (sampled p a q x) = nested g ns (clock_of (component_of g.place) x.text) a
nested g ns c (merged p x a b) = nested g ns (sampled_by true x.text) a ++ nested g ns (sampled_by false x.text) b
nested g ns c (call p k f as_) = argument_parts g c as_ ++ g.body k
nested g ns c (condact p k a f as_ ds) = nested g (needs_of g c a) c a ++ argument_parts g c as_ ++ g.body k ++ operand_parts g ns c ds
nested g ns c (mode_name p d m) = asked_in g ns (key_of (option_map text_of d) m.text)

-- a text in the frame at the end of a way of calls
abbrev pub setting_on : Instance → Frame → List ℕ → (ℕ → List Part) → ModeParts → Setting
setting_on i f w body asked = record { place = (scene_on w i throughout f).place; way = w; body = body; modes = asked }

-- What is known of a row at an instant: it shows the frame at the end of a way of calls, in which calls evaluate and modes ask these parts.
pub record Standpoint : Type 0 where
  pub top : Instance
  pub frame : Frame
  pub way : List ℕ
  pub body : ℕ → List Part
  pub asked : ModeParts
  pub test : Key → Bool
  pub numbers : Place → ℕ
  pub modes : Known Resolution
  pub row : SlotValues
  pub instant : ℕ

abbrev pub scene_at : Standpoint → Scene
scene_at v = scene_on v.way v.top throughout v.frame

abbrev pub setting_at : Standpoint → Setting
setting_at v = setting_on v.top v.frame v.way v.body v.asked

abbrev pub resolution_at : Standpoint → Expression → Resolution
resolution_at v e = resolution (numbering (scene_at v) v.numbers v.modes) e

-- the operations of an expression's resolution that are outside 128 bits
abbrev pub operations_at : Standpoint → Clock → Expression → List PastAt
operations_at v c e = outside v.row (is_on (scene_at v) c v.instant) (resolution_at v e)

abbrev pub AllWithin : Standpoint → List Part → Type 0
AllWithin v qs = NonePast v.top v.frame qs v.instant

-- Of an expression whose own operands are within, the operations that are outside are its own one, if that is; and where none is outside and what is nested
-- in it is within, all its parts are.
pub record PartsByRow (v : Standpoint) (ns : List NeededPlace) (xs : List Name) (c : Clock) (e : Expression) : Type 0 where
  pub ends : own_parts (setting_at v) ns xs c e ≡ operands (setting_at v) ns c e ++ part (setting_at v) ns xs c e ∷ []
  pub own_past : AllWithin v (operands (setting_at v) ns c e) →
      operations_at v c e ≡ told (own e) (part_past v.top v.frame (part (setting_at v) ns xs c e) v.instant)
  pub all_within : operations_at v c e ≡ [] → AllWithin v (nested (setting_at v) ns c e) → AllWithin v (parts (setting_at v) ns xs c e)

-- where what the modes require is within, their resolutions have no operation outside
abbrev pub ModesWithin : Standpoint → Type 0
ModesWithin v =
    (key : Key) (ns : List NeededPlace) → v.test key ≡ true → AllWithin v (asked_in (setting_at v) ns key) →
    outside v.row ((scene_at v).beat v.instant) (mode_resolution (numbering (scene_at v) v.numbers v.modes) key) ≡ []

abbrev pub PartsByRows : Type 0
PartsByRows =
    (v : Standpoint) → Shows (scene_at v) v.test v.numbers v.modes v.row v.instant → ModesWithin v → (ns : List NeededPlace) (xs : List Name) (c : Clock)
    (e : Expression) → Stands (scene_at v).place (Passes v.test) c e → clock_on (row_by v.numbers v.row) c ≡ is_on (scene_at v) c v.instant →
    PartsByRow v ns xs c e
