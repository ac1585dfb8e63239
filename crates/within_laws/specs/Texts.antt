-- What a row says of all parts of a text of a frame.
use Rattle.std.specs.Prelude.{◌≡◌, ℕ, List, [], option_map}
use Rattle.std.specs.List.{AllByRecursion}
use Rattle.lus_tree.specs.Tree.{Name, text_of, Expression, pre, call, condact, mode_name}
use Rattle.lus_meaning.specs.Frame.{Frame}
use Rattle.lus_meaning.specs.Scene.{Clock, Instance, component_of, is_on}
use Rattle.lus_meaning.specs.Cycle.{Place as NeededPlace}
use Rattle.lus_meaning.specs.Occurrences.{Standing, Occurrence, occurrences}
use Rattle.lus_meaning.specs.Program.{listed}
use Rattle.sys_meaning.specs.WellTyped.{IsKnown, Stands}
use Rattle.lus_evaluation.specs.Part.{Part, ModeParts, key_of, asked_in, parts}
use Rattle.slot_values.specs.Evaluated.{outside}
use Rattle.slot_values.specs.Parts.{setting_on}
use Rattle.evaluation_laws.specs.Rows.{row_at, scene_there, resolution_there, OfEachFrame}
use Rattle.order_laws.specs.Rows.{place_there}
use Rattle.within_laws.specs.Laws.{AreQuiet}

-- the resolution of an expression of the frame at the end of a way of calls has no operation outside 128 bits, on that clock
abbrev pub IsQuiet : Instance → Frame → ℕ → List ℕ → Clock → Expression → Type 0
IsQuiet i f t w c e = outside (row_at i f t) (is_on (scene_there i f w) c t) (resolution_there i f w e) ≡ []

abbrev pub EachQuiet : Instance → Frame → ℕ → List ℕ → Clock → List Expression → Type 0
EachQuiet i f t w c es = AllByRecursion (IsQuiet i f t w c) es

-- What an occurrence leaves to others, where calls evaluate and modes ask these parts: the operand of a `pre`, the arguments of a call, what is evaluated in its
-- frame, the defaults of a condact, and what a mode requires.
abbrev pub LeavesQuiet : Instance → Frame → ℕ → List ℕ → (ℕ → List Part) → ModeParts → Standing → Expression → Type 0
LeavesQuiet i f t w body asked s (pre p k a) = IsQuiet i f t w s.clock a
LeavesQuiet i f t w body asked s (call p k h as_) = EachQuiet i f t w s.clock (listed as_) × AreQuiet i f t (body k)
LeavesQuiet i f t w body asked s (condact p k a h as_ ds) =
    EachQuiet i f t w s.clock (listed as_) × AreQuiet i f t (body k) × EachQuiet i f t w s.clock (listed ds)
LeavesQuiet i f t w body asked s (mode_name p d m) =
    IsQuiet i f t w s.clock (mode_name p d m) → (ns : List NeededPlace) →
    AreQuiet i f t (asked_in (setting_on i f w body asked) ns (key_of (option_map text_of d) m.text))
LeavesQuiet i f t w body asked s _ = Unit {0}

-- it stands on its clock, and what it leaves to others has no operation outside
abbrev pub IsGood : Instance → Frame → ℕ → List ℕ → (ℕ → List Part) → ModeParts → Occurrence → Type 0
IsGood i f t w body asked o =
    Stands (place_there i f w) (IsKnown (place_there i f w)) o.standing.clock o.expression × LeavesQuiet i f t w body asked o.standing o.expression

-- Where a text has no operation outside, and nothing that its occurrences leave to others has, no part of it has.
abbrev pub TextIsQuiet : Instance → Frame → ℕ → List ℕ → Type 0
TextIsQuiet i f t w =
    (body : ℕ → List Part) (asked : ModeParts) (ns : List NeededPlace) (xs : List Name) (s : Standing) (e : Expression) →
    AllByRecursion (IsGood i f t w body asked) (occurrences (component_of (place_there i f w)) s e) → IsQuiet i f t w s.clock e →
    AreQuiet i f t (parts (setting_on i f w body asked) ns xs s.clock e)

abbrev pub TextsAreQuiet : Type 0
TextsAreQuiet = OfEachFrame TextIsQuiet
