-- What the rules of types and clocks give of the items of a declaration: streams, equations, flags and imports.
use Rattle.std.specs.Prelude.{◌≡◌, Bool, List, [], ◌∷◌, ◌++◌, map, flat_map, Option, Some, None}
use Rattle.std.specs.List.{AllByRecursion}
use Rattle.lus_tree.specs.declared.place.Sort.{Sort}
use Rattle.lus_tree.specs.declared.place.Sort.TheVariants.{Bool as Flags}
use Rattle.lus_tree.specs.Tree.{Spelled, Expression, call, condact, Variable, Labelled, Statement, assertion, property, ContractStatement, assume, guarantee, mode, Component}
use Rattle.lus_meaning.specs.Scene.{base, Manner, plain, while_true, as_import, Site, Instance, component_of, call_instance, clock_from, clock_of, clock_of_names, contract_statements, variables}
use Rattle.lus_meaning.specs.Program.{import_site, instance_of}
use Rattle.lus_meaning.specs.Run.{Equation, equations, sort_of, sort_of_name}
use Rattle.lus_meaning.specs.RuleLaws.{OfEach}
use Rattle.rule_laws.specs.Fitting.{sorts_of, IsStreamOn, IsFlagOn}

-- ---- streams

-- the name of a clock is a stream of truth values
abbrev pub ClockFits : Instance → Option (Bool × Spelled) → Type 0
ClockFits i None = Unit {0}
ClockFits i (Some c) = IsFlagOn i (clock_of (component_of i) c.1.text) c.1.text

-- a stream has its clock and its type under its name, and no constant has this name
pub record StreamFits (i : Instance) (v : Variable) : Type 0 where
  pub name : IsStreamOn i (clock_from v.clock) v.sort v.name.text
  pub clock : ClockFits i v.clock

-- ---- equations

-- the types of a right side: those of a call's outputs, or one
abbrev pub right_sorts : Instance → Expression → List Sort
right_sorts i (call p k f as_) = sorts_of (component_of (call_instance i k)).outputs
right_sorts i (condact p k a f as_ ds) = sorts_of (component_of (call_instance i k)).outputs
right_sorts i e = sort_of i e ∷ []

-- the left names are streams on one clock, and have the types of the right side
pub record EquationFits (i : Instance) (e : Equation) : Type 0 where
  pub names : AllByRecursion (λ x. IsStreamOn i (clock_of_names (component_of i) e.names) (sort_of_name i x) x) e.names
  pub sorts : map (sort_of_name i) e.names ≡ right_sorts i e.right

-- ---- flags

abbrev pub values_of : List Labelled → List Expression
values_of ls = map (λ l. l.value) ls

abbrev pub contract_flags : ContractStatement → List Expression
contract_flags (assume l) = l.value ∷ []
contract_flags (guarantee l) = l.value ∷ []
contract_flags (mode m rs es) = values_of rs ++ values_of es
contract_flags _ = []

abbrev pub statement_flags : Statement → List Expression
statement_flags (assertion e) = e ∷ []
statement_flags (property l) = l.value ∷ []
statement_flags _ = []

-- what a declaration assumes, guarantees, requires, ensures, asserts and checks
abbrev pub flags_in : Component → List Expression
flags_in n = flat_map contract_flags (contract_statements n) ++ flat_map statement_flags n.body

-- ---- imports

-- names that stand for outputs of an import are streams of their types on the base clock
abbrev pub OutputsFit : Instance → Manner → List Variable → Type 0
OutputsFit i (as_import xs) vs =
    (map (sort_of_name i) xs ≡ sorts_of vs) × AllByRecursion (λ x. IsStreamOn i base (sort_of_name i x) x) xs
OutputsFit i plain vs = Unit {0}
OutputsFit i (while_true a) vs = Unit {0}

pub record ImportFits (i : Instance) (s : Site) : Type 0 where
  pub arguments : map (sort_of i) s.arguments ≡ sorts_of (component_of (call_instance i s.number)).inputs
  pub outputs : OutputsFit i s.manner (component_of (call_instance i s.number)).outputs

-- ---- declarations

pub record DeclarationFits (i : Instance) : Type 0 where
  pub streams : AllByRecursion (StreamFits i) (variables (component_of i))
  pub equations : AllByRecursion (EquationFits i) (equations (component_of i))
  pub flags : AllByRecursion (λ e. sort_of i e ≡ Flags) (flags_in (component_of i))
  pub imports : AllByRecursion (ImportFits i) (flat_map import_site (contract_statements (component_of i)))

-- In a checked program the items of each declaration have their types and clocks.
abbrev pub DeclarationsFit : Type 0
DeclarationsFit = OfEach (λ p n. DeclarationFits (instance_of p n))
