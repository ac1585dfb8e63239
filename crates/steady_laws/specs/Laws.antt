-- The laws of the texts of checked programs, over the constants of each declaration.
use Rattle.std.specs.Prelude.{◌≡◌, true, List, []}
use Rattle.std.specs.List.{AllByRecursion}
use Rattle.std.specs.Map.{lookup}
use Rattle.std.specs.Str.{bytes_eq}
use Rattle.lus_tree.specs.Tree.{Name, Expression, Component, Program}
use Rattle.lus_meaning.specs.Value.{Value}
use Rattle.lus_meaning.specs.Scene.{Site, Instance, component_of, constants_of, call_instance, contract_statements}
use Rattle.lus_meaning.specs.Program.{in_order, all_sites, constant_value, constant_values, program_constants, constants_in, instance_of}
use Rattle.lus_meaning.specs.Run.{Equation, equations}
use Rattle.lus_meaning.specs.Occurrences.{Text, texts, Occurrence, all_occurrences, Memory, memories}
use Rattle.lus_meaning.specs.Refusals.{IsChecked}
use Rattle.lus_meaning.specs.RuleLaws.{OfEach}
use Rattle.sys_meaning.specs.Defaults.{is_constant}
use Rattle.sys_meaning.specs.System.{held_first}
use Rattle.sys_meaning.specs.Translate.{Stage}
use Rattle.sys_parts.specs.Values.{is_small}
use Rattle.sys_texts.specs.Laws.{IsSteady}
use Rattle.sys_texts.specs.Sights.{Sight, Mode}
use Rattle.sys_texts.specs.Texts.{known, folded}
use Rattle.sys_conditions.specs.Laws.{IsSteadyItem}
use Rattle.sys_contracts.specs.Laws.{IsSteadyStatement}
use Rattle.steady_laws.specs.Kept.{kept_value, kept_values, own_constants, constants_for}
use Rattle.steady_laws.specs.Steady.{IsSteadySite, HasDefaults, first_held}

-- ---- texts

-- each expression that an item has
abbrev pub TextsAreSteady : Type 0
TextsAreSteady = OfEach (λ p n. AllByRecursion (λ (x : Text). IsSteady (constants_in p n) x.1) (texts n))

-- each part of one
abbrev pub PartsAreSteady : Type 0
PartsAreSteady = OfEach (λ p n. AllByRecursion (λ (o : Occurrence). IsSteady (constants_in p n) o.expression) (all_occurrences n))

-- what stands under each `pre`, in text order and by number
abbrev pub MemoriesAreSteady : Type 0
MemoriesAreSteady = OfEach (λ p n. AllByRecursion (λ (u : Memory). IsSteady (constants_in p n) u.operand) (memories n))

abbrev pub MemoriesInOrder : Type 0
MemoriesInOrder =
    OfEach (λ p n. AllByRecursion (λ (u : Memory). IsSteady (constants_in p n) u.operand) (in_order (λ (u : Memory). u.number) (memories n)))

-- the arguments, conditions and defaults of calls and imports
abbrev pub SitesAreSteady : Type 0
SitesAreSteady = OfEach (λ p n. AllByRecursion (IsSteadySite (constants_in p n)) (all_sites n))

abbrev pub EquationsAreSteady : Type 0
EquationsAreSteady = OfEach (λ p n. AllByRecursion (λ (e : Equation). IsSteady (constants_in p n) e.right) (equations n))

-- what a body asserts, and its properties
abbrev pub ItemsAreSteady : Type 0
ItemsAreSteady = OfEach (λ p n. AllByRecursion (IsSteadyItem (constants_in p n)) n.body)

-- what a contract says
abbrev pub StatementsAreSteady : Type 0
StatementsAreSteady = OfEach (λ p n. AllByRecursion (IsSteadyStatement (constants_in p n)) (contract_statements n))

-- ---- values

-- a steady constant expression has by kept values its own value
abbrev pub ValuesAreKept : Type 0
ValuesAreKept = (cs : List (Name × Value)) (e : Expression) → IsSteady cs e → is_constant cs e ≡ true
    → kept_value cs e ≡ constant_value cs e

-- and this is what it comes to by tables that find the constants
abbrev pub FoldedIsKnown : Type 0
FoldedIsKnown = (s : Sight) (ms : List Mode) (cs : List (Name × Value)) → ((x : Name) → s.constant x ≡ lookup (bytes_eq x) cs)
    → (e : Expression) → IsSteady cs e → is_constant cs e ≡ true → folded s ms e ≡ known (constant_value cs e)

-- the translation gives the outputs of a held call the values of its defaults, in their order
abbrev pub DefaultsInOrder : Type 0
DefaultsInOrder = OfEach (λ p n. AllByRecursion (λ (s : Site). HasDefaults (instance_of p n) s s.manner) (all_sites n))

-- and so holds of what it gives them at first
abbrev pub FirstIsHeld : Type 0
FirstIsHeld = (g : Stage) (s : Site) (i : Instance) → HasDefaults g.place s s.manner
    → component_of (call_instance g.place s.number) ≡ component_of i → first_held g s s.manner i ≡ held_first g s s.manner i

-- ---- constants

-- the kept values of constants in text order are their values: those of the program, those of a declaration by these, and all
abbrev pub OuterConstantsAreKept : Type 0
OuterConstantsAreKept = (p : Program) → IsChecked p → kept_values [] (program_constants p) ≡ constant_values [] (program_constants p)

abbrev pub OwnConstantsAreKept : Type 0
OwnConstantsAreKept =
    OfEach (λ p n. kept_values (constant_values [] (program_constants p)) (own_constants n) ≡ constants_in p n)

abbrev pub ConstantsAreKept : Type 0
ConstantsAreKept = OfEach (λ p n. kept_values [] (constants_for p n) ≡ constants_in p n)

-- none is a number that is too great
abbrev pub ConstantsAreSmall : Type 0
ConstantsAreSmall = OfEach (λ p n. AllByRecursion (λ (c : Name × Value). is_small c.1 ≡ true) (constants_in p n))

-- the instance of a declaration has its constants
abbrev pub ConstantsOfInstances : Type 0
ConstantsOfInstances = (p : Program) (n : Component) → constants_of (instance_of p n) ≡ constants_in p n
