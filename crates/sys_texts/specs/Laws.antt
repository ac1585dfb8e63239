-- Terms by what names and numbers mean, and the terms of the translation.
use Rattle.std.specs.Prelude.{◌≡◌, ℕ, true, false, ◌&&◌, List, Option, option_to_list, unwrap_or, map, length, pos}
use Rattle.std.specs.Map.{lookup}
use Rattle.std.specs.Str.{bytes_eq}
use Rattle.std.proofs.Math.Logic.{◌⊎◌}
use Rattle.lus_tree.specs.declared.expression.Operator.{Operator}
use Rattle.lus_tree.specs.declared.expression.Operator.TheVariants.{Mul, Div, Mod}
use Rattle.lus_tree.specs.Tree.{Name, Expression, truth, number, name, negation, minus, pre, arrow, binary, choice, sampled, merged, call, condact, mode_name}
use Rattle.lus_meaning.specs.Value.{Value, whole, minus_value, apply, choose}
use Rattle.lus_meaning.specs.Scene.{Clock, component_of, constants_of, clock_of, instance_called, variables}
use Rattle.lus_meaning.specs.Meaning.{mode_key}
use Rattle.lus_meaning.specs.Program.{constant_value}
use Rattle.lus_meaning.specs.Run.{output_sort, sort_of_name}
use Rattle.lus_meaning.specs.Scope.{apply_total, choose_total}
use Rattle.sys_terms.specs.View.{truth as formula_truth}
use Rattle.sys_meaning.specs.Slot.{own, beat, named, memory, starting}
use Rattle.sys_meaning.specs.Defaults.{is_constant}
use Rattle.sys_meaning.specs.Translate.{Stage, term_of, right_terms, present}
use Rattle.sys_meaning.specs.Translate as t
use Rattle.sys_parts.specs.Values.{is_small, tame}
use Rattle.sys_texts.specs.Sights.{Sight, Mode, number_at, name_sort, name_number, name_clock, outputs_at, latest_at, called_sort, asked_of}
use Rattle.sys_texts.specs.Texts.{part_of, right_parts}
use Rattle.sys_texts.specs.Texts as x

-- what is found by names and numbers is what the translation finds
pub record IsSightOf (s : Sight) (ms : List Mode) (g : Stage) : Type 0 where
  pub beats : s.beat ≡ g.number (own beat)
  pub streams : s.streams ≡ length (variables (component_of g.place))
  pub constants : (x : Name) → s.constant x ≡ lookup (bytes_eq x) (constants_of g.place)
  pub sorts : (x : Name) → name_sort s x ≡ sort_of_name g.place x
  pub numbers : (x : Name) → name_number s x ≡ g.number (own (named x))
  pub clocks : (x : Name) → name_clock s x ≡ clock_of (component_of g.place) x
  pub memories : (k : ℕ) → number_at s.memories s.missing k ≡ g.number (own (memory k))
  pub starts : (k : ℕ) → number_at s.starts s.missing k ≡ g.number (own (starting k))
  pub callees : (f : Name) → called_sort s.calls f ≡ output_sort (instance_called g.place f)
  pub outputs : (k : ℕ) → outputs_at s k ≡ map (t.output_part g k) (t.outputs_at g k)
  pub latest : (k : ℕ) → latest_at s k ≡ map (t.latest_part g k) (t.outputs_at g k)
  pub modes : (c : Option Name) (m : Name) →
      asked_of ms c m ≡ unwrap_or (lookup (mode_key (option_to_list c, m)) g.modes) (formula_truth false)

module _ (cs : List (Name × Value)) where
  -- of a product one operand is constant, and each divisor is
  abbrev pub HasConstant : Operator → Expression → Expression → Type 0
  HasConstant Mul a b = (is_constant cs a ≡ true) ⊎ (is_constant cs b ≡ true)
  HasConstant Div a b = is_constant cs b ≡ true
  HasConstant Mod a b = is_constant cs b ≡ true
  HasConstant o a b = Unit {0}

  -- no constant part of it has a number of a size above 2^63, nor a divisor 0
  abbrev pub IsSteady : Expression → Type 0
  IsSteady (truth p b) = Unit {0}
  IsSteady (number p n) = is_small (whole (pos n)) ≡ true
  IsSteady (name p x) = Unit {0}
  IsSteady (negation p a) = IsSteady a
  IsSteady (minus p a) =
      (is_constant cs a ≡ true → tame (minus_value (constant_value cs a)) ≡ minus_value (constant_value cs a)) × IsSteady a
  IsSteady (pre p k a) = Unit {0}
  IsSteady (arrow p k a b) = IsSteady a × IsSteady b
  IsSteady (binary p o a b) =
      HasConstant o a b
      × ((is_constant cs a && is_constant cs b) ≡ true
      → tame (apply_total o (constant_value cs a) (constant_value cs b)) ≡ apply o (constant_value cs a) (constant_value cs b))
      × IsSteady a × IsSteady b
  IsSteady (choice p a b d) =
      ((is_constant cs a && (is_constant cs b && is_constant cs d)) ≡ true
      → choose_total (constant_value cs a) (constant_value cs b) (constant_value cs d)
      ≡ choose (constant_value cs a) (constant_value cs b) (constant_value cs d))
      × IsSteady a × IsSteady b × IsSteady d
  IsSteady (sampled p a b x) = IsSteady a
  IsSteady (merged p x a b) = IsSteady a × IsSteady b
  IsSteady (call p k f as_) = Unit {0}
  IsSteady (condact p k a f as_ ds) = Unit {0}
  IsSteady (mode_name p d m) = Unit {0}

-- a part is the translation's term of the expression
abbrev pub PartsAreTerms : Type 0
PartsAreTerms = (s : Sight) (ms : List Mode) (g : Stage) (e : Expression) → IsSightOf s ms g → IsSteady (constants_of g.place) e
    → part_of s ms e ≡ term_of g e

-- so are those of a right side
abbrev pub RightPartsAreTerms : Type 0
RightPartsAreTerms = (s : Sight) (ms : List Mode) (g : Stage) (e : Expression) → IsSightOf s ms g → IsSteady (constants_of g.place) e
    → right_parts s ms e ≡ right_terms g e

-- a clock is on where the translation says that it is
abbrev pub PresenceIsPresence : Type 0
PresenceIsPresence = (s : Sight) (ms : List Mode) (g : Stage) (c : Clock) → IsSightOf s ms g → x.present s c ≡ present g c
