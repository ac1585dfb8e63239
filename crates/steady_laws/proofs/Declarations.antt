-- The texts of each declaration of a checked program are steady.
use Rattle.std.proofs.Common.{◌≡◌, ℕ, zero, suc, ◌≤◌, List, [], ◌∷◌, ◌++◌, map, flat_map, refl, sym, subst, length}
use Rattle.std.specs.Prelude.{Contains}
use Rattle.std.specs.List.{AllByRecursion}
use Rattle.lus_tree.specs.Tree.{Name, Expression, Labelled, Statement, equation, assertion, property, main_mark, ContractStatement, assume, guarantee, ghost_variable, constant, mode, «import», Component, Program}
use Rattle.lus_meaning.specs.Value.{Value}
use Rattle.lus_meaning.specs.Scene.{base, Site, Instance, component_of, constants_of, contract_statements}
use Rattle.lus_meaning.specs.Program.{site_in, import_site, all_sites, constants_in, instance_of, instance_within}
use Rattle.lus_meaning.specs.Run.{Equation, equations, ghost_equations, body_equations}
use Rattle.lus_meaning.specs.Occurrences.{on_clock, on_base, Occurrence, Text, contract_statement_texts, statement_texts, constant_texts, texts, all_occurrences, gathered, Memory, memory_in, memories}
use Rattle.lus_meaning.specs.ClockFaults.{components}
use Rattle.lus_meaning.specs.Refusals.{IsChecked}
use Rattle.lus_meaning.proofs.InOrder.{in_order_all}
use Rattle.lus_meaning.proofs.Lists.{all_from, all_from_both, both_parts}
use Rattle.lus_meaning.proofs.Now.{left_part, right_part}
use Rattle.rule_laws.specs.Laws.{IsUnfolded}
use Rattle.rule_laws.proofs.Lists.{all_flat}
use Rattle.rule_laws.proofs.Unfolded.{component_within, each_unfolded}
use Rattle.path_laws.proofs.Places.{KnownText, known_texts, ImportThere, imports_there, stand}
use Rattle.term_laws.proofs.Lights.{GoodText, good_texts, Both, all_both}
use Rattle.sys_texts.specs.Laws.{IsSteady}
use Rattle.sys_conditions.specs.Laws.{IsSteadyItem}
use Rattle.sys_contracts.specs.Laws.{IsSteadyStatement}
use Rattle.steady_laws.specs.Laws.{TextsAreSteady, PartsAreSteady, MemoriesAreSteady, MemoriesInOrder, SitesAreSteady, EquationsAreSteady, ItemsAreSteady, StatementsAreSteady, DefaultsInOrder, ConstantsOfInstances}
use Rattle.steady_laws.specs.Steady.{IsSteadySite, HasDefaults}
use Rattle.steady_laws.proofs.Steady.{steady, memories_steady, sites_steady, defaults_there}

-- ---- lists of texts

module _ (cs : List (Name × Value)) where
  abbrev SteadyText : Text → Type 0
  SteadyText x = IsSteady cs x.1

  abbrev SteadyRight : Equation → Type 0
  SteadyRight e = IsSteady cs e.right

  labels : (ls : List Labelled) → AllByRecursion SteadyText (on_base ls) → AllByRecursion (λ (l : Labelled). IsSteady cs l.value) ls
  labels [] a = tt
  labels (l ∷ ls) a = (a.0, labels ls a.1)

  arguments : (as_ : List Expression) → AllByRecursion SteadyText (map (λ e. (on_clock base, e)) as_) → AllByRecursion (IsSteady cs) as_
  arguments [] a = tt
  arguments (e ∷ as_) a = (a.0, arguments as_ a.1)

  statements : (xs : List ContractStatement) → AllByRecursion SteadyText (flat_map contract_statement_texts xs) →
      AllByRecursion (λ (s : Site). 1 ≤ s.number) (flat_map import_site xs) → AllByRecursion (IsSteadyStatement cs) xs
  statements [] a n = tt
  statements (assume l ∷ xs) a n = (a.0, statements xs a.1 n)
  statements (guarantee l ∷ xs) a n = (a.0, statements xs a.1 n)
  statements (ghost_variable x e ∷ xs) a n = (tt, statements xs a.1 n)
  statements (constant k ∷ xs) a n = (tt, statements xs a.1 n)
  statements (mode m rs es ∷ xs) a n =
      let here = left_part SteadyText (on_base rs ++ on_base es) (flat_map contract_statement_texts xs) a in (
        (labels rs (left_part SteadyText (on_base rs) (on_base es) here), labels es (right_part SteadyText (on_base rs) (on_base es) here)),
        statements xs (right_part SteadyText (on_base rs ++ on_base es) (flat_map contract_statement_texts xs) a) n,
      )
  statements («import» k c as_ ys ∷ xs) a n =
      (n.0, statements xs (right_part SteadyText (map (λ e. (on_clock base, e)) as_) (flat_map contract_statement_texts xs) a) n.1)

  imports : (xs : List ContractStatement) → AllByRecursion SteadyText (flat_map contract_statement_texts xs) →
      AllByRecursion (IsSteadySite cs) (flat_map import_site xs)
  imports [] a = tt
  imports (assume l ∷ xs) a = imports xs a.1
  imports (guarantee l ∷ xs) a = imports xs a.1
  imports (ghost_variable x e ∷ xs) a = imports xs a.1
  imports (constant k ∷ xs) a = imports xs a.1
  imports (mode m rs es ∷ xs) a =
      imports xs (right_part SteadyText (on_base rs ++ on_base es) (flat_map contract_statement_texts xs) a)
  imports («import» k c as_ ys ∷ xs) a = (
    record {
      arguments = arguments as_ (left_part SteadyText (map (λ e. (on_clock base, e)) as_) (flat_map contract_statement_texts xs) a);
      manner = tt;
      defaults = tt;
    },
    imports xs (right_part SteadyText (map (λ e. (on_clock base, e)) as_) (flat_map contract_statement_texts xs) a),
  )

  ghosts : (xs : List ContractStatement) → AllByRecursion SteadyText (flat_map contract_statement_texts xs) →
      AllByRecursion SteadyRight (ghost_equations xs)
  ghosts [] a = tt
  ghosts (assume l ∷ xs) a = ghosts xs a.1
  ghosts (guarantee l ∷ xs) a = ghosts xs a.1
  ghosts (ghost_variable x e ∷ xs) a = (a.0, ghosts xs a.1)
  ghosts (constant k ∷ xs) a = ghosts xs a.1
  ghosts (mode m rs es ∷ xs) a =
      ghosts xs (right_part SteadyText (on_base rs ++ on_base es) (flat_map contract_statement_texts xs) a)
  ghosts («import» k c as_ ys ∷ xs) a =
      ghosts xs (right_part SteadyText (map (λ e. (on_clock base, e)) as_) (flat_map contract_statement_texts xs) a)

  module _ (n : Component) where
    rights : (ss : List Statement) → AllByRecursion SteadyText (flat_map (statement_texts n) ss) →
        AllByRecursion SteadyRight (body_equations ss)
    rights [] a = tt
    rights (equation xs e ∷ ss) a = (a.0, rights ss a.1)
    rights (assertion e ∷ ss) a = rights ss a.1
    rights (property l ∷ ss) a = rights ss a.1
    rights (main_mark w ∷ ss) a = rights ss a

    items : (ss : List Statement) → AllByRecursion SteadyText (flat_map (statement_texts n) ss) → AllByRecursion (IsSteadyItem cs) ss
    items [] a = tt
    items (equation xs e ∷ ss) a = (tt, items ss a.1)
    items (assertion e ∷ ss) a = (a.0, items ss a.1)
    items (property l ∷ ss) a = (a.0, items ss a.1)
    items (main_mark w ∷ ss) a = (tt, items ss a)

    pub of_contract : AllByRecursion SteadyText (texts n) → AllByRecursion SteadyText (flat_map contract_statement_texts (contract_statements n))
    of_contract a = left_part SteadyText (flat_map contract_statement_texts (contract_statements n)) _ a

    of_body : AllByRecursion SteadyText (texts n) → AllByRecursion SteadyText (flat_map (statement_texts n) n.body)
    of_body a = right_part SteadyText (constant_texts n.constants) _
        (right_part SteadyText (flat_map contract_statement_texts (contract_statements n)) _ a)

    equations_of : AllByRecursion SteadyText (texts n) → AllByRecursion SteadyRight (equations n)
    equations_of a = both_parts SteadyRight (ghost_equations (contract_statements n)) (body_equations n.body)
        (ghosts (contract_statements n) (of_contract a)) (rights n.body (of_body a))

    items_of : AllByRecursion SteadyText (texts n) → AllByRecursion (IsSteadyItem cs) n.body
    items_of a = items n.body (of_body a)

-- no import is held
import_defaults : (i : Instance) (xs : List ContractStatement) →
    AllByRecursion (λ (s : Site). HasDefaults i s s.manner) (flat_map import_site xs)
import_defaults i [] = tt
import_defaults i (assume l ∷ xs) = import_defaults i xs
import_defaults i (guarantee l ∷ xs) = import_defaults i xs
import_defaults i (ghost_variable x e ∷ xs) = import_defaults i xs
import_defaults i (constant k ∷ xs) = import_defaults i xs
import_defaults i (mode m rs es ∷ xs) = import_defaults i xs
import_defaults i («import» k c as_ ys ∷ xs) = (tt, import_defaults i xs)

-- ---- an instance of a declaration

module _ (p : Program) (c : IsChecked p) (i : Instance) (u : IsUnfolded p i) (j : Contains (components p) (component_of i)) where
  abbrev here : Component
  here = component_of i

  abbrev Here : Expression → Type 0
  Here e = IsSteady (constants_of i) e

  texts_here : AllByRecursion (λ (x : Text). IsSteady (constants_of i) x.1) (texts (component_of i))
  texts_here = all_from_both (KnownText p c i u j) (GoodText i) (λ x. Here x.1) (λ x k g. steady i x.0 x.1 k g.1) (texts here)
      (known_texts p c i u j) (good_texts p c i u j)

  parts_here : AllByRecursion (λ (o : Occurrence). IsSteady (constants_of i) o.expression) (all_occurrences (component_of i))
  parts_here = all_from (Both p c i u j) (λ o. Here o.expression) (λ o a. steady i o.standing o.expression a.0 a.1) (all_occurrences here)
      (all_both p c i u j)

  memories_here : AllByRecursion (λ (m : Memory). IsSteady (constants_of i) m.operand) (memories (component_of i))
  memories_here = all_flat (λ (m : Memory). Here m.operand) (λ o. memory_in o.standing o.expression) (all_occurrences here)
      (all_from (Both p c i u j) (λ o. AllByRecursion (λ (m : Memory). Here m.operand) (memory_in o.standing o.expression))
      (λ o a. memories_steady i o.standing o.expression a.0 a.1) (all_occurrences here) (all_both p c i u j))

  sites_here : AllByRecursion (IsSteadySite (constants_of i)) (all_sites (component_of i))
  sites_here =
      in_order_all (λ s. s.number) (IsSteadySite (constants_of i)) (gathered site_in here ++ flat_map import_site (contract_statements here))
      (both_parts (IsSteadySite (constants_of i)) (gathered site_in here) (flat_map import_site (contract_statements here))
      (all_flat (IsSteadySite (constants_of i)) (λ o. site_in o.standing o.expression) (all_occurrences here)
      (all_from (Both p c i u j) (λ o. AllByRecursion (IsSteadySite (constants_of i)) (site_in o.standing o.expression))
      (λ o a. sites_steady i o.standing o.expression a.0 a.1) (all_occurrences here) (all_both p c i u j)))
      (imports (constants_of i) (contract_statements here) (of_contract (constants_of i) here texts_here)))

  statements_here : AllByRecursion (IsSteadyStatement (constants_of i)) (contract_statements (component_of i))
  statements_here = statements (constants_of i) (contract_statements here) (of_contract (constants_of i) here texts_here)
      (all_from (ImportThere p c i u j) (λ (s : Site). 1 ≤ s.number) (λ s h. h.number) (flat_map import_site (contract_statements here))
      (imports_there p c i u j))

  abbrev Held : Site → Type 0
  Held s = HasDefaults i s s.manner

  defaults_here : AllByRecursion (λ (s : Site). HasDefaults i s s.manner) (all_sites (component_of i))
  defaults_here =
      in_order_all (λ s. s.number) Held (gathered site_in here ++ flat_map import_site (contract_statements here))
      (both_parts Held (gathered site_in here) (flat_map import_site (contract_statements here))
      (all_flat Held (λ o. site_in o.standing o.expression) (all_occurrences here)
      (all_from (Both p c i u j) (λ o. AllByRecursion Held (site_in o.standing o.expression))
      (λ o a. defaults_there i o.standing o.expression (stand p c i u j o.standing o.expression a.0)) (all_occurrences here)
      (all_both p c i u j)))
      (import_defaults i (contract_statements here)))

-- ---- each declaration

-- the instance of a declaration has its constants and is one of it
as_declared : (d : ℕ) (p : Program) (n : Component) (P : List (Name × Value) → Component → Type 0) →
    P (constants_of (instance_within d p n)) (component_of (instance_within d p n)) → P (constants_in p n) n
as_declared zero p n P h = h
as_declared (suc d) p n P h = h

same_constants : (d : ℕ) (p : Program) (n : Component) → constants_of (instance_within d p n) ≡ constants_in p n
same_constants zero p n = refl
same_constants (suc d) p n = refl

pub constants_of_instances : ConstantsOfInstances
constants_of_instances p n = same_constants (length p) p n

is_there : (p : Program) (n : Component) → Contains (components p) n → Contains (components p) (component_of (instance_of p n))
is_there p n j = subst (Contains (components p)) (sym (component_within (length p) p n)) j

pub texts_are_steady : TextsAreSteady
texts_are_steady p c n j =
    as_declared (length p) p n (λ cs m. AllByRecursion (λ (x : Text). IsSteady cs x.1) (texts m))
    (texts_here p c (instance_of p n) (each_unfolded p c n j) (is_there p n j))

pub parts_are_steady : PartsAreSteady
parts_are_steady p c n j =
    as_declared (length p) p n (λ cs m. AllByRecursion (λ (o : Occurrence). IsSteady cs o.expression) (all_occurrences m))
    (parts_here p c (instance_of p n) (each_unfolded p c n j) (is_there p n j))

pub memories_are_steady : MemoriesAreSteady
memories_are_steady p c n j =
    as_declared (length p) p n (λ cs m. AllByRecursion (λ (u : Memory). IsSteady cs u.operand) (memories m))
    (memories_here p c (instance_of p n) (each_unfolded p c n j) (is_there p n j))

pub memories_in_order : MemoriesInOrder
memories_in_order p c n j =
    in_order_all (λ (u : Memory). u.number) (λ (u : Memory). IsSteady (constants_in p n) u.operand) (memories n) (memories_are_steady p c n j)

pub sites_are_steady : SitesAreSteady
sites_are_steady p c n j =
    as_declared (length p) p n (λ cs m. AllByRecursion (IsSteadySite cs) (all_sites m))
    (sites_here p c (instance_of p n) (each_unfolded p c n j) (is_there p n j))

pub equations_are_steady : EquationsAreSteady
equations_are_steady p c n j = equations_of (constants_in p n) n (texts_are_steady p c n j)

pub items_are_steady : ItemsAreSteady
items_are_steady p c n j = items_of (constants_in p n) n (texts_are_steady p c n j)

pub statements_are_steady : StatementsAreSteady
statements_are_steady p c n j =
    as_declared (length p) p n (λ cs m. AllByRecursion (IsSteadyStatement cs) (contract_statements m))
    (statements_here p c (instance_of p n) (each_unfolded p c n j) (is_there p n j))

pub defaults_in_order : DefaultsInOrder
defaults_in_order p c n j =
    subst (λ m. AllByRecursion (λ (s : Site). HasDefaults (instance_of p n) s s.manner) (all_sites m)) (component_within (length p) p n)
    (defaults_here p c (instance_of p n) (each_unfolded p c n j) (is_there p n j))
