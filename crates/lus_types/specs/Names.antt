-- Tables of the names that a typed program declares, and what is found in them.
use Rattle.std.specs.Prelude.{◌≡◌, ℕ, suc, cond, List, [], ◌∷◌, map, Option, Some, None, option_map, slice_get}
use Rattle.std.specs.Option.{option_and_then, option_or}
use Rattle.std.specs.Str.{bytes_eq}
use Rattle.std.specs.declared.string.String.{String}
use Rattle.indexmap.specs.IndexMap.{IndexMap, get_by_text}
use Rattle.lus_tree.specs.declared.place.Sort.{Sort}
use Rattle.lus_tree.specs.declared.place.Sort.TheVariants.{Bool as Flags, Int as Numbers}
use Rattle.lus_tree.specs.Tree.{Name, Expression, truth, number, name, negation, minus, pre, arrow, binary, choice, sampled, merged, call, condact, mode_name, Declaration, declared_constant, declared_node, declared_contract, Program}
use Rattle.lus_meaning.specs.Run.{sort_of_operator}
use Rattle.lus_meaning.specs.Scope.{Entry, Role, an_input, an_output, a_local, a_ghost, a_constant, Scope, body_scope, constants_declared, entries_from, only_sort, own_names, type_of}
use Rattle.lus_meaning.specs.NameFaults.{home, outer_scope}
use Rattle.lus_types.specs.Declarations.{after}
use Rattle.lus_types.specs.declared.found.Kind.{Kind}
use Rattle.lus_types.specs.declared.found.Kind.TheVariants.{Input, Output, Local, Ghost, Constant}
use Rattle.lus_types.specs.declared.found.Found.{Found}
use Rattle.lus_types.specs.declared.found.Named.{Named}
use Rattle.lus_types.specs.declared.tables.Tables.{Tables}

-- ---- the names of a list by their numbers

-- what a name is, its number, and its type where it has one
pub record Known : Type 0 where
  pub role : Role
  pub number : ℕ
  pub sort : Option Sort

-- the first entry of that name, the entries numbered from i on
abbrev pub known_from : ℕ → List Entry → Name → Option Known
known_from i [] x = None
known_from i (e ∷ es) x =
    cond (bytes_eq x e.word.text) (Some record { role = e.role; number = i; sort = e.sort }) (known_from (suc i) es x)

abbrev pub known_among : List Entry → Name → Option Known
known_among es x = known_from 0 es x

-- ---- the names of declarations

-- behind so many constants of the program; a constant declares no names of its own
abbrev pub names_of : Program → ℕ → Declaration → List Entry
names_of p k (declared_constant c) = []
names_of p k (declared_node n) = own_names (home p k n)
names_of p k (declared_contract n) = own_names (home p k n)

abbrev pub names_from : Program → ℕ → List Declaration → List (List Entry)
names_from p k [] = []
names_from p k (d ∷ ds) = names_of p k d ∷ names_from p (after k d) ds

-- a name of the declaration of that number, constants included, counted from 0 in text order
abbrev pub name_in : Program → ℕ → Name → Option Known
name_in p d x = option_and_then (λ es. known_among es x) (slice_get (names_from p 0 p) d)

-- the constants of a program
abbrev pub constant_entries : Program → List Entry
constant_entries p = entries_from p [] [] (constants_declared p)

abbrev pub constant_in : Program → Name → Option Known
constant_in p x = known_among (constant_entries p) x

-- the number of the first declaration with parts of that name, the declarations numbered from i on
abbrev pub declared_from : ℕ → List Declaration → Name → Option ℕ
declared_from i [] x = None
declared_from i (declared_constant c ∷ ds) x = declared_from (suc i) ds x
declared_from i (declared_node n ∷ ds) x = cond (bytes_eq x n.name.text) (Some i) (declared_from (suc i) ds x)
declared_from i (declared_contract n ∷ ds) x = cond (bytes_eq x n.name.text) (Some i) (declared_from (suc i) ds x)

abbrev pub declaration_named : Program → Name → Option ℕ
declaration_named p x = declared_from 0 p x

-- ---- types

-- where the right sides of the body of a declaration stand, and where a constant's value stands
abbrev pub scope_of : Program → ℕ → Declaration → Scope
scope_of p k (declared_constant c) = outer_scope p k
scope_of p k (declared_node n) = body_scope (home p k n)
scope_of p k (declared_contract n) = body_scope (home p k n)

abbrev pub scopes_from : Program → ℕ → List Declaration → List Scope
scopes_from p k [] = []
scopes_from p k (d ∷ ds) = scope_of p k d ∷ scopes_from p (after k d) ds

-- the type of an expression in the declaration of that number
abbrev pub sort_in : Program → ℕ → Expression → Option Sort
sort_in p d e = option_and_then (λ s. type_of s e) (slice_get (scopes_from p 0 p) d)

-- by what names and callees have
abbrev pub sort_by : (Name → Option Sort) → (Name → Option Sort) → Expression → Option Sort
sort_by names calls (truth p b) = Some Flags
sort_by names calls (number p n) = Some Numbers
sort_by names calls (name p x) = names x
sort_by names calls (negation p a) = Some Flags
sort_by names calls (minus p a) = Some Numbers
sort_by names calls (pre p k a) = sort_by names calls a
sort_by names calls (arrow p k a b) = sort_by names calls a
sort_by names calls (binary p o a b) = Some (sort_of_operator o)
sort_by names calls (choice p a b c) = sort_by names calls b
sort_by names calls (sampled p a b x) = sort_by names calls a
sort_by names calls (merged p x a b) = sort_by names calls a
sort_by names calls (call p k f as_) = calls f.text
sort_by names calls (condact p k a f as_ ds) = calls f.text
sort_by names calls (mode_name p c m) = Some Flags

-- ---- tables

abbrev pub kind_view : Kind → Role
kind_view Input = an_input
kind_view Output = an_output
kind_view Local = a_local
kind_view Ghost = a_ghost
kind_view Constant = a_constant

abbrev pub found_view : Found → Known
found_view f = record { role = kind_view f.kind; number = f.number; sort = f.sort }

abbrev pub named_view : Named → Known
named_view n = record { role = kind_view n.kind; number = n.number; sort = Some n.sort }

abbrev pub found_in : {A S : Type 0} → IndexMap (String A) Found S → Name → Option Known
found_in t x = option_map found_view (get_by_text t x)

-- a table finds what these entries have
abbrev pub Finds : {A S : Type 0} → IndexMap (String A) Found S → List Entry → Type 0
Finds t es = (x : Name) → found_in t x ≡ known_among es x

-- the tables have the names of a program: of each declaration, of its constants, and of the declarations with parts
pub record HaveNames (p : Program) (t : Tables) : Type 0 where
  pub own : (x : Name) → map (λ t. found_in t x) t.own.items ≡ map (λ es. known_among es x) (names_from p 0 p)
  pub constants : Finds t.constants (constant_entries p)
  pub declared : (x : Name) → get_by_text t.declared x ≡ declaration_named p x

-- the type of the one output of a node or function
abbrev pub output_sort : Declaration → Option Sort
output_sort (declared_constant c) = None
output_sort (declared_node n) = only_sort n.outputs
output_sort (declared_contract n) = None

abbrev pub call_sort_in : Program → Name → Option Sort
call_sort_in p f = option_and_then (λ i. option_and_then output_sort (slice_get p i)) (declaration_named p f)

abbrev pub name_sort_in : Program → ℕ → Name → Option Sort
name_sort_in p d x = option_and_then (λ q. q.sort) (option_or (name_in p d x) (constant_in p x))
