-- What a row says of all parts of all texts of a frame, where no source has an operation outside 128 bits.
use Rattle.std.specs.Prelude.{ℕ, pred, ◌<◌, List, Option, option_map, option_to_list}
use Rattle.std.specs.List.{AllByRecursion}
use Rattle.lus_tree.specs.Tree.{Place, Spelled, Name, text_of, mode_name}
use Rattle.lus_meaning.specs.Frame.{Frame}
use Rattle.lus_meaning.specs.Scene.{base, Instance, component_of, calls_of}
use Rattle.lus_meaning.specs.Cycle.{Place as NeededPlace}
use Rattle.lus_meaning.specs.Occurrences.{texts}
use Rattle.lus_meaning.specs.Run.{equations}
use Rattle.sys_meaning.specs.WellTyped.{count_of, IsKnown}
use Rattle.lus_evaluation.specs.Part.{Part, ModeParts, key_of, asked_in, parts}
use Rattle.lus_evaluation.specs.Frame.{equation_parts}
use Rattle.slot_values.specs.Parts.{setting_on}
use Rattle.slot_sources.specs.Sources.{sources_of}
use Rattle.evaluation_laws.specs.Rows.{row_at, OfEachFrame}
use Rattle.order_laws.specs.Rows.{place_there}
use Rattle.within_laws.specs.Laws.{AreQuiet}
use Rattle.within_laws.specs.Texts.{IsQuiet}
use Rattle.within_laws.specs.Sources.{AreSourcesQuiet}

-- What is taken of others: what calls evaluate in their frames; and what a mode requires, where what is worth its name has no operation outside.
pub record OthersQuiet (i : Instance) (f : Frame) (t : ℕ) (w : List ℕ) (body : ℕ → List Part) (asked : ModeParts) : Type 0 where
  pub bodies : (k : ℕ) → 0 < k → pred k < count_of (calls_of (place_there i f w)) → AreQuiet i f t (body k)
  pub modes : (p : Place) (d : Option Spelled) (m : Spelled) → IsKnown (place_there i f w) (option_to_list (option_map text_of d), m.text) →
      IsQuiet i f t w base (mode_name p d m) → (ns : List NeededPlace) →
      AreQuiet i f t (asked_in (setting_on i f w body asked) ns (key_of (option_map text_of d) m.text))

-- each text of the frame that has no operation outside has no part that has one
abbrev pub TextsOfFrame : Instance → Frame → ℕ → List ℕ → Type 0
TextsOfFrame i f t w =
    AreSourcesQuiet (row_at i f t) (sources_of i) → (body : ℕ → List Part) (asked : ModeParts) → OthersQuiet i f t w body asked →
    AllByRecursion (λ x. IsQuiet i f t w x.0.clock x.1 → (ns : List NeededPlace) (xs : List Name) →
    AreQuiet i f t (parts (setting_on i f w body asked) ns xs x.0.clock x.1)) (texts (component_of (place_there i f w)))

abbrev pub AllTextsAreQuiet : Type 0
AllTextsAreQuiet = OfEachFrame TextsOfFrame

-- and no part of an equation's right side has one
abbrev pub SidesOfFrame : Instance → Frame → ℕ → List ℕ → Type 0
SidesOfFrame i f t w =
    AreSourcesQuiet (row_at i f t) (sources_of i) → (body : ℕ → List Part) (asked : ModeParts) → OthersQuiet i f t w body asked →
    AllByRecursion (λ e. AreQuiet i f t (equation_parts (setting_on i f w body asked) e)) (equations (component_of (place_there i f w)))

abbrev pub AllSidesAreQuiet : Type 0
AllSidesAreQuiet = OfEachFrame SidesOfFrame
