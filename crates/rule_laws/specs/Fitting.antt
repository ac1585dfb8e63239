-- What the rules of types and clocks give of each expression of a checked program where it stands.
use Rattle.std.specs.Prelude.{◌≡◌, Bool, false, ◌&&◌, ◌||◌, is_some, pred, ◌≤◌, true, Contains, List, [], ◌∷◌, map, Option, Some, None, option_map, option_to_list}
use Rattle.std.specs.List.{AllByRecursion, list_any}
use Rattle.std.specs.Map.{lookup}
use Rattle.std.specs.Str.{bytes_eq}
use Rattle.lus_tree.specs.declared.expression.Operator.{Operator}
use Rattle.lus_tree.specs.declared.expression.Operator.TheVariants.{Mul, Div, Mod}
use Rattle.lus_tree.specs.declared.place.Sort.{Sort}
use Rattle.lus_tree.specs.declared.place.Sort.TheVariants.{Bool as Flags, Int as Numbers}
use Rattle.lus_tree.specs.Tree.{Name, text_of, Expression, truth, number, name, negation, minus, pre, arrow, binary, choice, sampled, merged, call, condact, mode_name, Variable}
use Rattle.lus_meaning.specs.Value.{Value, has_sort}
use Rattle.lus_meaning.specs.Scene.{Clock, base, sampled_by, plain, while_true, Site, Instance, component_of, constants_of, calls_of, call_instance, instance_called, clock_of}
use Rattle.lus_meaning.specs.Meaning.{mode_key}
use Rattle.lus_meaning.specs.Contract.{ModeTerms, terms}
use Rattle.lus_meaning.specs.Program.{listed, constant_value, instance_of}
use Rattle.lus_meaning.specs.Run.{Takes, sort_of, sort_of_name}
use Rattle.lus_meaning.specs.Occurrences.{Standing, Occurrence, all_occurrences}
use Rattle.lus_meaning.specs.ClockFaults.{name_clock}
use Rattle.lus_meaning.specs.RuleLaws.{OfEach}
use Rattle.rule_laws.specs.Laws.{site_at}

abbrev pub sorts_of : List Variable → List Sort
sorts_of vs = map (λ v. v.sort) vs

-- a constant of its type, or a declared stream on that clock
abbrev pub NameFits : Instance → Option Value → Clock → Name → Type 0
NameFits i None c x = name_clock (component_of i) x ≡ Some c
NameFits i (Some v) c x = has_sort (sort_of_name i x) v ≡ true

-- a declared stream on that clock, of that type
pub record IsStreamOn (i : Instance) (c : Clock) (q : Sort) (x : Name) : Type 0 where
  pub stream : lookup (bytes_eq x) (constants_of i) ≡ None
  pub clock : name_clock (component_of i) x ≡ Some c
  pub sort : sort_of_name i x ≡ q

abbrev pub IsFlagOn : Instance → Clock → Name → Type 0
IsFlagOn i c x = IsStreamOn i c Flags x

abbrev pub NotEmpty : {A : Type 0} → List A → Type 0
NotEmpty [] = ⊥
NotEmpty (x ∷ xs) = Unit {0}

abbrev pub OnBase : List Variable → Type 0
OnBase vs = AllByRecursion (λ v. v.clock ≡ None) vs

-- a call occurrence has the place of its number, arguments of the types of its callee's inputs, and some output
pub record CallFits (i : Instance) (s : Site) : Type 0 where
  pub number : 1 ≤ s.number
  pub site : site_at (calls_of i) (pred s.number) ≡ Some s
  pub callee : component_of (instance_called i s.callee) ≡ component_of (call_instance i s.number)
  pub arguments : map (sort_of i) s.arguments ≡ sorts_of (component_of (call_instance i s.number)).inputs
  pub outputs : NotEmpty (component_of (call_instance i s.number)).outputs
  pub on_base : OnBase (component_of (call_instance i s.number)).outputs

-- made of literals, constants and operators alone
abbrev pub is_fixed : List (Name × Value) → Expression → Bool
is_fixed cs (truth p b) = true
is_fixed cs (number p n) = true
is_fixed cs (name p x) = is_some (lookup (bytes_eq x) cs)
is_fixed cs (negation p a) = is_fixed cs a
is_fixed cs (minus p a) = is_fixed cs a
is_fixed cs (binary p o a b) = is_fixed cs a && is_fixed cs b
is_fixed cs (choice p a b d) = is_fixed cs a && (is_fixed cs b && is_fixed cs d)
is_fixed cs _ = false

-- a product has a constant operand, and a quotient and a remainder a constant divisor
abbrev pub HasConstant : List (Name × Value) → Operator → Expression → Expression → Type 0
HasConstant cs Mul a b = (is_fixed cs a || is_fixed cs b) ≡ true
HasConstant cs Div a b = is_fixed cs b ≡ true
HasConstant cs Mod a b = is_fixed cs b ≡ true
HasConstant cs o a b = Unit {0}

-- a mode of the contract, or of an import by way of its contract
abbrev pub has_key : List Name × Name → List ModeTerms → Type 0
has_key key ms = list_any (λ m. mode_key key m.key) ms ≡ true

-- an expression where it stands, its parts left aside
abbrev pub Fits : Instance → Standing → Expression → Type 0
Fits i t (truth p b) = Unit {0}
Fits i t (number p n) = Unit {0}
Fits i t (name p x) = NameFits i (lookup (bytes_eq x) (constants_of i)) t.clock x
Fits i t (negation p a) = sort_of i a ≡ Flags
Fits i t (minus p a) = sort_of i a ≡ Numbers
Fits i t (pre p k a) = Unit {0}
Fits i t (arrow p k a b) = sort_of i b ≡ sort_of i a
Fits i t (binary p o a b) = Takes o (sort_of i a) × (sort_of i b ≡ sort_of i a) × HasConstant (constants_of i) o a b
Fits i t (choice p a b d) = (sort_of i a ≡ Flags) × (sort_of i d ≡ sort_of i b)
Fits i t (sampled p a q x) = (t.clock ≡ sampled_by q x.text) × IsFlagOn i (clock_of (component_of i) x.text) x.text
Fits i t (merged p x a b) = IsFlagOn i t.clock x.text × (sort_of i b ≡ sort_of i a)
Fits i t (call p k f as_) =
    CallFits i record { number = k; callee = f.text; clock = t.clock; arguments = listed as_; defaults = []; manner = plain }
Fits i t (condact p k a f as_ ds) =
    CallFits i record { number = k; callee = f.text; clock = t.clock; arguments = listed as_; defaults = listed ds; manner = while_true a }
    × (sort_of i a ≡ Flags)
    × (map (sort_of i) (listed ds) ≡ sorts_of (component_of (call_instance i k)).outputs)
    × AllByRecursion (λ d. is_fixed (constants_of i) d ≡ true) (listed ds)
Fits i t (mode_name p d m) = (t.clock ≡ base) × has_key (option_to_list (option_map text_of d), m.text) (terms i).modes

abbrev pub FitsThere : Instance → Occurrence → Type 0
FitsThere i o = Fits i o.standing o.expression

-- In a checked program each expression of a declaration has operands of the types that it takes, at places of their clocks.
abbrev pub ExpressionsFit : Type 0
ExpressionsFit = OfEach (λ p n. (o : Occurrence) → Contains (all_occurrences n) o → FitsThere (instance_of p n) o)

-- A constant expression has in the instance a value of its type.
abbrev pub ConstantsTyped : Type 0
ConstantsTyped =
    OfEach (λ p n. (o : Occurrence) → Contains (all_occurrences n) o → is_fixed (constants_of (instance_of p n)) o.expression ≡ true →
    has_sort (sort_of (instance_of p n) o.expression) (constant_value (constants_of (instance_of p n)) o.expression) ≡ true)
