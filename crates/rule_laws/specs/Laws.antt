-- The laws of the programs that follow the rules.
use Rattle.std.specs.Prelude.{◌≡◌, ℕ, zero, suc, pred, ◌≤◌, cond, true, List, [], ◌∷◌, ◌++◌, flat_map, ◌==◌, find, Contains, Option, Some, None}
use Rattle.std.specs.Map.{lookup}
use Rattle.std.specs.Str.{bytes_eq}
use Rattle.lus_tree.specs.Tree.{Name, Component, declared_constant, declared_node, declared_contract, Program}
use Rattle.lus_meaning.specs.Value.{has_sort}
use Rattle.lus_meaning.specs.Frame.{Frame, firsts_of, first_value}
use Rattle.lus_meaning.specs.Scene.{Site, Instance, Instances, instance, no_instances, with_instance, component_of, constants_of, calls_of, call_instance, instance_called, contract_statements, clock_of}
use Rattle.lus_meaning.specs.Program.{site_in, import_site, all_sites, component_named, constants_in, instance_of}
use Rattle.lus_meaning.specs.Run.{sort_of_name, sort_of, first_sorts, have_sorts, is_typed}
use Rattle.lus_meaning.specs.Occurrences.{Memory, Start, gathered, memories, starts}
use Rattle.lus_meaning.specs.Scope.{Entry, is_constant_role, own_names, outer_names, node_named, contract_named}
use Rattle.lus_meaning.specs.NameFaults.{home}
use Rattle.lus_meaning.specs.ClockFaults.{name_clock, components}
use Rattle.lus_meaning.specs.Grammatical.{IsGrammatical}
use Rattle.lus_meaning.specs.Refusals.{IsTyped, IsChecked}
use Rattle.lus_meaning.specs.RuleLaws.{OfEach}

-- a tree of the grammar that breaks no rule of names, types and numbers, whatever its clocks and equations
pub record IsTypedTree (p : Program) : Type 0 where
  pub grammatical : IsGrammatical p
  pub typed : IsTyped p

-- what holds of each declaration of such a tree
abbrev pub OfEachTyped : (Program → Component → Type 0) → Type 0
OfEachTyped P = (p : Program) → IsTypedTree p → (n : Component) → Contains (components p) n → P p n

-- An instance that is unfolded to its end: it has the constants of its declaration, and for each call occurrence and
-- import, in their order, an instance of the declaration that is named, which is unfolded to its end.
abbrev mutual
  pub IsUnfolded : Program → Instance → Type 0
  IsUnfolded p (instance n cs is) = (cs ≡ constants_in p n) × AreUnfolded p (all_sites n) is

  pub AreUnfolded : Program → List Site → Instances → Type 0
  AreUnfolded p [] no_instances = Unit {0}
  AreUnfolded p [] (with_instance c k is) = ⊥
  AreUnfolded p (s ∷ ss) no_instances = ⊥
  AreUnfolded p (s ∷ ss) (with_instance c k is) =
      (c ≡ s) × (component_named p s.callee ≡ Some (component_of k)) × IsUnfolded p k × AreUnfolded p ss is

-- As many levels as the program has declarations reach the end of each call chain.
abbrev pub Unfolding : Type 0
Unfolding = OfEach (λ p n. IsUnfolded p (instance_of p n))

-- An unfolded instance of a declaration is the instance of the declaration: what holds of this one holds at every depth.
abbrev pub OneInstance : Type 0
OneInstance =
    (p : Program) → IsChecked p → (i : Instance) → IsUnfolded p i → Contains (components p) (component_of i) → instance_of p (component_of i) ≡ i

-- What is found by a name is declared.
abbrev pub NamedIsDeclared : Type 0
NamedIsDeclared = (p : Program) (x : Name) (n : Component) → component_named p x ≡ Some n → Contains (components p) n

-- the declarations, and how many constants of the program stand before each
abbrev pub placed : ℕ → Program → List (ℕ × Component)
placed k [] = []
placed k (declared_constant c ∷ ds) = placed (suc k) ds
placed k (declared_node n ∷ ds) = (k, n) ∷ placed k ds
placed k (declared_contract n ∷ ds) = (k, n) ∷ placed k ds

-- the names of a declaration, and behind them the program's constants as they are known where it stands
abbrev pub table : Program → ℕ × Component → List Entry
table p h = own_names (home p h.0 h.1) ++ outer_names p h.0

-- An entry says of a name what the instance says: its type, its clock, which the rules read of streams alone, whether
-- it is a constant, and then its value, which is of that type.
pub record Agrees (i : Instance) (x : Name) (e : Entry) : Type 0 where
  pub sort : e.sort ≡ Some (sort_of_name i x)
  pub clock : e.clock ≡ clock_of (component_of i) x
  pub stream : name_clock (component_of i) x ≡ cond (is_constant_role e.role) None (Some e.clock)
  pub constant : lookup (bytes_eq x) (constants_of i) ≡ cond (is_constant_role e.role) (Some e.value) None
  pub typed : is_typed (sort_of_name i x) (is_constant_role e.role) e.value ≡ true

-- What the rules see of a name of a declaration is what its instance has.
abbrev pub TablesAgree : Type 0
TablesAgree =
    (p : Program) → IsChecked p → (h : ℕ × Component) → Contains (placed 0 p) h → (x : Name) (e : Entry)
    → find (λ a. bytes_eq x a.word.text) (table p h) ≡ Some e → Agrees (instance_of p h.1) x e

abbrev pub site_at : Instances → ℕ → Option Site
site_at no_instances k = None
site_at (with_instance s i is) zero = Some s
site_at (with_instance s i is) (suc k) = site_at is k

-- A call occurrence has the place of its number among the calls of the instance, and there an instance of what it names;
-- so has the first call of that callee.
pub record HasItsPlace (i : Instance) (named : Option Component) (s : Site) : Type 0 where
  pub number : 1 ≤ s.number
  pub site : site_at (calls_of i) (pred s.number) ≡ Some s
  pub callee : named ≡ Some (component_of (call_instance i s.number))
  pub by_name : named ≡ Some (component_of (instance_called i s.callee))

-- Calls name nodes and functions, and imports contract nodes.
abbrev pub CallsInPlace : Type 0
CallsInPlace =
    OfEach (λ p n. (s : Site) → Contains (gathered site_in n) s → HasItsPlace (instance_of p n) (node_named p s.callee) s)

abbrev pub ImportsInPlace : Type 0
ImportsInPlace =
    OfEach (λ p n. (s : Site) → Contains (flat_map import_site (contract_statements n)) s
    → HasItsPlace (instance_of p n) (contract_named p s.callee) s)

-- First values of the types of an instance have each the type of what stands under the `pre` of its number.
abbrev pub FirstsInPlace : Type 0
FirstsInPlace =
    OfEach (λ p n. (f : Frame) → have_sorts (first_sorts (instance_of p n)) (firsts_of f) ≡ true
    → (m : Memory) → Contains (memories n) m → has_sort (sort_of (instance_of p n) m.operand) (first_value f m.number) ≡ true)

-- A `pre` and an `->` are found by their numbers.
abbrev pub MemoriesFound : Type 0
MemoriesFound = OfEach (λ p n. (m : Memory) → Contains (memories n) m → find (λ x. x.number == m.number) (memories n) ≡ Some m)

abbrev pub StartsFound : Type 0
StartsFound = OfEach (λ p n. (a : Start) → Contains (starts n) a → find (λ x. x.number == a.number) (starts n) ≡ Some a)
