-- What the names of an expression mean where it stands, its type, whether it is constant, and its weight.
use Rattle.std.specs.Prelude.{ℕ, pred, max, nat_lt, ◌^◌, length, take_while, drop, ◌+◌, ◌*◌, Bool, true, false, cond, not, ◌&&◌, ◌||◌, pos, nat_abs, List, [], ◌∷◌, ◌++◌, map, flat_map, Option, Some, None, find, option_map, option_and_then, unwrap_or, ◌==◌}
use Rattle.std.specs.Str.{bytes_eq}
use Rattle.std.specs.Ordering.{int_eq}
use Rattle.lus_tree.specs.declared.place.Pos.{Pos}
use Rattle.lus_tree.specs.declared.place.Sort.{Sort}
use Rattle.lus_tree.specs.declared.place.Sort.TheVariants.{Bool as Flags, Int as Numbers}
use Rattle.lus_tree.specs.declared.expression.Operator.{Operator}
use Rattle.lus_tree.specs.declared.expression.Operator.TheVariants.{Add, Sub, Mul, Div, Mod}
use Rattle.lus_tree.specs.Tree.{Name, Spelled, Expression, truth, number, name, negation, minus, pre, arrow, binary, choice, sampled, merged, call, condact, mode_name, Variable, Constant, ContractStatement, ghost_variable, constant, mode, «import», Component, declared_constant, declared_node, declared_contract, Program}
use Rattle.lus_meaning.specs.Value.{Value, absent, flag, whole, not_value, minus_value, apply, choose}
use Rattle.lus_meaning.specs.Scene.{Clock, base, clock_from, contract_statements, no_component}
use Rattle.lus_meaning.specs.Program.{contract_statement_constants}
use Rattle.lus_meaning.specs.Run.{sort_of_operator}

-- ---- declarations by name

-- the first declaration with parts of that name, where it is a node or function; where it is a contract node
abbrev pub node_if : Bool → Component → Option Component
node_if wanted n = cond wanted (Some n) None

abbrev pub component_where : Bool → Program → Name → Option Component
component_where node [] x = None
component_where node (declared_constant c ∷ ds) x = component_where node ds x
component_where node (declared_node n ∷ ds) x =
    cond (bytes_eq x n.name.text) (node_if node n) (component_where node ds x)
component_where node (declared_contract n ∷ ds) x =
    cond (bytes_eq x n.name.text) (node_if (not node) n) (component_where node ds x)

abbrev pub node_named : Program → Name → Option Component
node_named p x = component_where true p x

abbrev pub contract_named : Program → Name → Option Component
contract_named p x = component_where false p x

-- ---- names

pub data Role : Type 0 where
  an_input : Role
  an_output : Role
  a_local : Role
  a_ghost : Role
  a_constant : Role

-- a declared name: what it is, its type where it has one, its clock, a constant's value, and whether it may be used at a place
pub record Entry : Type 0 where
  pub word : Spelled
  pub role : Role
  pub sort : Option Sort
  pub clock : Clock
  pub value : Value
  pub known : Bool

abbrev pub is_constant_role : Role → Bool
is_constant_role a_constant = true
is_constant_role _ = false

abbrev pub is_output_role : Role → Bool
is_output_role an_output = true
is_output_role _ = false

abbrev pub is_ghost_role : Role → Bool
is_ghost_role a_ghost = true
is_ghost_role _ = false

-- where an expression stands: the program, the declaration, what names mean there, and the modes and imports before it
pub record Scope : Type 0 where
  pub program : Program
  pub owner : Component
  pub names : List Entry
  pub modes : List Name
  pub imports : List Name

abbrev pub entry_of : Scope → Name → Option Entry
entry_of s x = find (λ e. bytes_eq x e.word.text) s.names

abbrev pub holds_of : (Entry → Bool) → Scope → Name → Bool
holds_of test s x = unwrap_or (option_map test (entry_of s x)) false

abbrev pub is_known : Scope → Name → Bool
is_known = holds_of (λ e. e.known)

abbrev pub is_constant_name : Scope → Name → Bool
is_constant_name = holds_of (λ e. is_constant_role e.role)

abbrev pub sort_of_entry : Scope → Name → Option Sort
sort_of_entry s x = option_and_then (λ e. e.sort) (entry_of s x)

-- a constant has a value only where it may be used
abbrev pub value_where_known : Entry → Value
value_where_known e = cond e.known e.value absent

abbrev pub value_of_entry : Scope → Name → Value
value_of_entry s x = unwrap_or (option_map value_where_known (entry_of s x)) absent

-- ---- types

abbrev pub only_sort : List Variable → Option Sort
only_sort (v ∷ []) = Some v.sort
only_sort _ = None

abbrev pub call_sort : Scope → Name → Option Sort
call_sort s f = option_and_then (λ n. only_sort n.outputs) (node_named s.program f)

-- the type of an expression, by its operator or its first branch; it has none where a part of that is unknown
abbrev pub type_of : Scope → Expression → Option Sort
type_of s (truth p b) = Some Flags
type_of s (number p n) = Some Numbers
type_of s (name p x) = sort_of_entry s x
type_of s (negation p a) = Some Flags
type_of s (minus p a) = Some Numbers
type_of s (pre p k a) = type_of s a
type_of s (arrow p k a b) = type_of s a
type_of s (binary p o a b) = Some (sort_of_operator o)
type_of s (choice p a b c) = type_of s b
type_of s (sampled p a b x) = type_of s a
type_of s (merged p x a b) = type_of s a
type_of s (call p k f as_) = call_sort s f.text
type_of s (condact p k a f as_ ds) = call_sort s f.text
type_of s (mode_name p c m) = Some Flags

-- ---- constants

-- by its form: literals, constants, and operators on them
abbrev pub is_constant : Scope → Expression → Bool
is_constant s (truth p b) = true
is_constant s (number p n) = true
is_constant s (name p x) = is_constant_name s x
is_constant s (negation p a) = is_constant s a
is_constant s (minus p a) = is_constant s a
is_constant s (binary p o a b) = is_constant s a && is_constant s b
is_constant s (choice p a b c) = is_constant s a && (is_constant s b && is_constant s c)
is_constant s _ = false

abbrev pub is_zero : Value → Bool
is_zero (whole n) = int_eq n (pos 0)
is_zero _ = false

-- a division by 0 has no value
abbrev pub apply_total : Operator → Value → Value → Value
apply_total Div v w = cond (is_zero w) absent (apply Div v w)
apply_total Mod v w = cond (is_zero w) absent (apply Mod v w)
apply_total o v w = apply o v w

-- whether there are two values, of one type
abbrev pub are_alike : Value → Value → Bool
are_alike (flag a) (flag b) = true
are_alike (whole a) (whole b) = true
are_alike _ _ = false

-- a choice between values of two types has no value, as an operator on them has none
abbrev pub choose_total : Value → Value → Value → Value
choose_total c v w = cond (are_alike v w) (choose c v w) absent

-- ---- values and weights

-- the size of a number
abbrev pub size_of : Value → Option ℕ
size_of (whole n) = Some (nat_abs n)
size_of _ = None

-- what two weights give, where there are both
abbrev pub both_weights : (ℕ → ℕ → ℕ) → Option ℕ → Option ℕ → Option ℕ
both_weights f (Some v) (Some w) = Some (f v w)
both_weights f _ _ = None

abbrev pub greater : Option ℕ → Option ℕ → Option ℕ
greater = both_weights (λ v w. max 1 (max v w))

abbrev pub greatest_weight : ℕ
greatest_weight = 2 ^ 63

abbrev pub is_heavy : Option ℕ → Bool
is_heavy None = false
is_heavy (Some w) = nat_lt greatest_weight w

-- what the rules know of an expression: its value where it is constant, and its weight where it is an integer; each is
-- absent where a part that it needs has none
pub record Worth : Type 0 where
  pub value : Value
  pub weight : Option ℕ

-- what is too heavy has no value
abbrev pub worth : Value → Option ℕ → Worth
worth v w = record { value = cond (is_heavy w) absent v; weight = w }

-- no constant
abbrev pub weighing : Option ℕ → Worth
weighing w = record { value = absent; weight = w }

abbrev pub name_weight : Scope → Name → Option ℕ
name_weight s x = cond (is_constant_name s x) (size_of (value_of_entry s x)) (Some 1)

-- a division by 0 has no value and no weight
abbrev pub divided_weight : Value → Option ℕ → Option ℕ
divided_weight v w = cond (is_zero v) None w

-- of two constant factors the first one's value counts
abbrev pub operator_weight : Operator → Bool → Worth → Worth → Option ℕ
operator_weight Add c a b = both_weights (λ v w. v + w) a.weight b.weight
operator_weight Sub c a b = both_weights (λ v w. v + w) a.weight b.weight
operator_weight Mul true a b = both_weights (λ v w. v * w) (size_of a.value) b.weight
operator_weight Mul false a b = both_weights (λ v w. v * w) (size_of b.value) a.weight
operator_weight Div c a b = divided_weight b.value (option_map (max 1) a.weight)
operator_weight Mod c a b = divided_weight b.value (size_of b.value)
operator_weight _ c a b = None

abbrev pub operator_worth : Operator → Bool → Worth → Worth → Worth
operator_worth o c a b = worth (apply_total o a.value b.value) (operator_weight o c a b)

abbrev pub choice_worth : Worth → Worth → Worth → Worth
choice_worth a b c = worth (choose_total a.value b.value c.value) (greater b.weight c.weight)

abbrev pub worth_of : Scope → Expression → Worth
worth_of s (truth p b) = worth (flag b) None
worth_of s (number p n) = worth (whole (pos n)) (Some n)
worth_of s (name p x) = worth (value_of_entry s x) (name_weight s x)
worth_of s (negation p a) = worth (not_value (worth_of s a).value) None
worth_of s (minus p a) = let w : Worth = worth_of s a in worth (minus_value w.value) w.weight
worth_of s (pre p k a) = weighing (Some 1)
worth_of s (arrow p k a b) = weighing (greater (worth_of s a).weight (worth_of s b).weight)
worth_of s (binary p o a b) = operator_worth o (is_constant s a) (worth_of s a) (worth_of s b)
worth_of s (choice p a b c) = choice_worth (worth_of s a) (worth_of s b) (worth_of s c)
worth_of s (sampled p a b x) = weighing (worth_of s a).weight
worth_of s (merged p x a b) = weighing (greater (worth_of s a).weight (worth_of s b).weight)
worth_of s (call p k f as_) = weighing (Some 1)
worth_of s (condact p k a f as_ ds) = weighing (Some 1)
worth_of s (mode_name p c m) = weighing None

-- the value of a constant expression; absent where a part has none
abbrev pub constant_of : Scope → Expression → Value
constant_of s e = (worth_of s e).value

-- the weight of an integer expression
abbrev pub weight_of : Scope → Expression → Option ℕ
weight_of s e = (worth_of s e).weight

-- ---- the names of a declaration, in text order

pub data Declared : Type 0 where
  a_stream : Role → Variable → Declared
  a_fixed : Constant → Declared

abbrev pub contract_statement_names : ContractStatement → List Declared
contract_statement_names (ghost_variable v e) = a_stream a_ghost v ∷ []
contract_statement_names (constant c) = a_fixed c ∷ []
contract_statement_names _ = []

abbrev pub is_before : Pos → Pos → Bool
is_before a b = nat_lt a.line b.line || ((a.line == b.line) && nat_lt a.column b.column)

abbrev pub word_of : Declared → Spelled
word_of (a_stream r v) = v.name
word_of (a_fixed c) = c.name

-- two lists of names in one, by their places; each keeps its order
abbrev pub interleaved : List Declared → List Declared → List Declared
interleaved xs [] = xs
interleaved xs (y ∷ ys) =
    let first : List Declared = take_while (λ x. is_before (word_of x).at (word_of y).at) xs in
    first ++ (y ∷ interleaved (drop (length first) xs) ys)

-- locals and constants of a node stand among each other
abbrev pub local_names : Component → List Declared
local_names n = interleaved (map a_fixed n.constants) (map (a_stream a_local) n.locals)

abbrev pub declared_in : Component → List Declared
declared_in n =
    map (a_stream an_input) n.inputs
    ++ (map (a_stream an_output) n.outputs ++ (flat_map contract_statement_names (contract_statements n) ++ local_names n))

-- ---- what they mean

abbrev pub names_only : Program → List Entry → Scope
names_only p es = record { program = p; owner = no_component; names = es; modes = []; imports = [] }

abbrev pub given_or_found : Option Sort → Option Sort → Option Sort
given_or_found (Some q) found = Some q
given_or_found None found = found

abbrev pub entry_for : Scope → Declared → Entry
entry_for s (a_stream r v) =
    record { word = v.name; role = r; sort = Some v.sort; clock = clock_from v.clock; value = absent; known = true }
entry_for s (a_fixed c) =
    record {
      word = c.name;
      role = a_constant;
      sort = given_or_found c.sort (type_of s c.value);
      clock = base;
      value = constant_of s c.value;
      known = true;
    }

-- each by those before it, and by the outer ones
abbrev pub entries_from : Program → List Entry → List Entry → List Declared → List Entry
entries_from p outer so_far [] = so_far
entries_from p outer so_far (x ∷ xs) =
    entries_from p outer (so_far ++ entry_for (names_only p (so_far ++ outer)) x ∷ []) xs

abbrev pub constants_declared : Program → List Declared
constants_declared [] = []
constants_declared (declared_constant c ∷ ds) = a_fixed c ∷ constants_declared ds
constants_declared (_ ∷ ds) = constants_declared ds

-- of constants only the first so many may be used
abbrev pub known_after : ℕ → Entry → Entry
known_after k e = record e { known = not (is_constant_role e.role) || nat_lt 0 k }

abbrev pub left_after : ℕ → Entry → ℕ
left_after k e = cond (is_constant_role e.role) (pred k) k

abbrev pub first_constants : ℕ → List Entry → List Entry
first_constants k [] = []
first_constants k (e ∷ es) = known_after k e ∷ first_constants (left_after k e) es

-- a node's contract may not use its locals
abbrev pub is_local_role : Role → Bool
is_local_role a_local = true
is_local_role _ = false

abbrev pub hide_local : Entry → Entry
hide_local e = record e { known = e.known && not (is_local_role e.role) }

-- ---- the scopes of a declaration

-- a declaration, and the program's constants as they are known there
pub record Home : Type 0 where
  pub program : Program
  pub owner : Component
  pub outer : List Entry

abbrev pub own_names : Home → List Entry
own_names h = entries_from h.program h.outer [] (declared_in h.owner)

abbrev pub mode_names : List ContractStatement → List Name
mode_names [] = []
mode_names (mode m rs es ∷ cs) = m.text ∷ mode_names cs
mode_names (_ ∷ cs) = mode_names cs

abbrev pub import_names : List ContractStatement → List Name
import_names [] = []
import_names («import» k c as_ xs ∷ cs) = c.text ∷ import_names cs
import_names (_ ∷ cs) = import_names cs

-- behind these contract statements, with so many constants known
abbrev pub scope_with : Home → ℕ → List ContractStatement → Scope
scope_with h k cs =
    record {
      program = h.program;
      owner = h.owner;
      names = first_constants k (own_names h)
          ++ h.outer;
      modes = mode_names cs;
      imports = import_names cs;
    }

abbrev pub contract_statement_scope : Home → List ContractStatement → Scope
contract_statement_scope h cs =
    let s : Scope = scope_with h (length (contract_statement_constants cs)) cs in record s { names = map hide_local s.names }

-- where the constant of that number stands, behind the contract
abbrev pub constant_scope : Home → ℕ → Scope
constant_scope h k = scope_with h (length (contract_statement_constants (contract_statements h.owner)) + k) (contract_statements h.owner)

abbrev pub body_scope : Home → Scope
body_scope h = constant_scope h (length h.owner.constants)

-- the constants of a program, as they are known behind the first so many
abbrev pub outer_names : Program → ℕ → List Entry
outer_names p k = first_constants k (entries_from p [] [] (constants_declared p))
