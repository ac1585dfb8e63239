-- What holds of the states of a frame by tables, and in the translation.
use Rattle.std.specs.Prelude.{◌≡◌, ℕ, List, ◌++◌, map, Option}
use Rattle.std.specs.List.{AllByRecursion}
use Rattle.std.specs.Map.{lookup}
use Rattle.std.specs.Str.{bytes_eq}
use Rattle.lus_tree.specs.declared.place.Sort.TheVariants.{Bool as Flags}
use Rattle.lus_tree.specs.Tree.{Name, Variable, Statement, equation, assertion, property, main_mark}
use Rattle.lus_meaning.specs.Value.{Value}
use Rattle.lus_meaning.specs.Scene.{Manner, plain, while_true, as_import, Site, constants_of}
use Rattle.lus_meaning.specs.Occurrences.{Memory, Start}
use Rattle.lus_meaning.specs.Property.{assertions}
use Rattle.lus_meaning.specs.Run.{Equation, inputs_of}
use Rattle.lus_meaning.specs.Depends.{named_in}
use Rattle.sys_terms.specs.View.{Formula, negation, both}
use Rattle.sys_meaning.specs.Slot.{own, beat, named, starting, so_far, held, in_call}
use Rattle.sys_meaning.specs.Part.{Part, a_flag, all_of}
use Rattle.sys_meaning.specs.Translate.{Stage}
use Rattle.sys_meaning.specs.Translate as t
use Rattle.sys_meaning.specs.System as y
use Rattle.sys_texts.specs.Sights.{Sight, Mode, Output}
use Rattle.sys_texts.specs.Laws.{IsSightOf, IsSteady}
use Rattle.sys_conditions.specs.Conditioned.{memory_conditions, start_conditions, at_first, so_far_condition, assert_conditions, body_properties, runs_where, held_conditions}
use Rattle.sys_conditions.specs.Named.{right_of, given_or, name_conditions}

-- what a body asserts and its properties are steady
abbrev pub IsSteadyItem : List (Name × Value) → Statement → Type 0
IsSteadyItem cs (equation xs e) = Unit {0}
IsSteadyItem cs (assertion e) = IsSteady cs e
IsSteadyItem cs (property l) = IsSteady cs l.value
IsSteadyItem cs (main_mark p) = Unit {0}

abbrev pub IsSteadyManner : List (Name × Value) → Manner → Type 0
IsSteadyManner cs plain = Unit {0}
IsSteadyManner cs (while_true a) = IsSteady cs a
IsSteadyManner cs (as_import xs) = Unit {0}

-- an output of the call of that number
abbrev pub output_of : Stage → ℕ → Variable → Output
output_of g k v = record {
  sort = v.sort;
  number = g.number (in_call k (own (named v.name.text)));
  held = g.number (own (held k v.name.text));
}

-- where the tables of a frame have what the translation finds, each condition of the frame is the translation's
pub record AreConditionsOf (s : Sight) (ms : List Mode) (g : Stage) : Type 0 where
  pub memories : (us : List Memory) → AllByRecursion (λ u. IsSteady (constants_of g.place) u.operand) us
      → memory_conditions s ms us ≡ map (y.memory_next g) us
  pub starts : (as_ : List Start) → start_conditions s as_ ≡ map (y.start_next g) as_
  pub first_starts : (as_ : List Start) → at_first s as_ ≡ map (λ a. t.flag_at g (own (starting a.number))) as_
  pub so_far : (fs : List Formula) → so_far_condition s (g.number (own so_far)) fs
      ≡ y.becomes g Flags so_far (a_flag (both (t.flag_at g (own so_far)) (negation
      (both (t.flag_at g (own beat)) (negation (all_of fs))))))
  pub assertions : (ss : List Statement) → AllByRecursion (IsSteadyItem (constants_of g.place)) ss
      → assert_conditions s ms ss ≡ map (λ e. negation (both (t.flag_at g (own beat)) (negation (t.formula g e)))) (assertions ss)
  pub properties : (ss : List Statement) → AllByRecursion (IsSteadyItem (constants_of g.place)) ss
      → body_properties s ms ss ≡ y.body_properties g ss
  pub calls : (c : Site) → IsSteadyManner (constants_of g.place) c.manner
      → runs_where s ms c.clock c.manner ≡ y.runs_where g c c.manner
  pub held_values : (k : ℕ) (vs : List Variable) → held_conditions (g.number (in_call k (own beat))) (map (output_of g k) vs)
      ≡ map (λ v. y.becomes g v.sort (held k v.name.text) (t.latest_part g k v)) vs
  pub names : (v : Variable) (o : Option Part) → name_conditions s (named_in v.name.text (inputs_of g.place)) v o ≡ y.name_here g v o
  pub given : (x : Name) (es : List Equation) (from : y.Sources) → AllByRecursion (λ e. IsSteady (constants_of g.place) e.right) es
      → given_or s ms (lookup (bytes_eq x) from) (right_of es x) ≡ lookup (bytes_eq x) (from ++ y.equation_sources g es)

abbrev pub ConditionsAreTranslated : Type 0
ConditionsAreTranslated = (s : Sight) (ms : List Mode) (g : Stage) → IsSightOf s ms g → AreConditionsOf s ms g
