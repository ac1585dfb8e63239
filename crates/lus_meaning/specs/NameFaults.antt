-- The faults of names, types and numbers of a program: phase 3.
use Rattle.std.specs.Prelude.{ℕ, zero, suc, Bool, true, false, cond, not, ◌&&◌, ◌==◌, List, [], ◌∷◌, ◌++◌, map, flat_map, length, filter, option_to_list, option_map, Option, Some, None}
use Rattle.std.specs.List.{list_any}
use Rattle.std.specs.Str.{bytes_eq}
use Rattle.lus_tree.specs.declared.place.Pos.{Pos}
use Rattle.lus_tree.specs.Tree.{Name, text_of, Spelled, Expression, name, pre, arrow, sampled, merged, call, condact, Variable, Constant, Labelled, Statement, equation, assertion, property, main_mark, ContractStatement, assume, guarantee, ghost_variable, constant, mode, «import», Component, Declaration, declared_constant, declared_node, declared_contract, Program}
use Rattle.lus_tree.specs.Lookup.{nodes_of}
use Rattle.lus_tree.specs.Reason.{Refused, name_twice, name_unknown, type_clash, arity_clash, node_recursion, not_stateless, assume_reads_output, no_node}
use Rattle.lus_meaning.specs.Scene.{base, contract_statements, variables, no_component, clock_of_names}
use Rattle.lus_meaning.specs.Program.{contract_statement_constants}
use Rattle.lus_meaning.specs.Depends.{named_in}
use Rattle.lus_meaning.specs.Occurrences.{Standing, on_clock, occurrences, gathered, begin}
use Rattle.lus_meaning.specs.Scope.{is_output_role, is_ghost_role, Scope, holds_of, sort_of_entry, node_named, contract_named, Home, contract_statement_scope, constant_scope, body_scope, outer_names}
use Rattle.lus_meaning.specs.Faults.{fault, faults_at, if_so, differ, meets, twice, same_word, words_twice}
use Rattle.lus_meaning.specs.ExpressionFaults.{used_as_clock, arguments_fit, expression_faults, flag_faults, equation_faults, definition_faults}

-- ---- names that stand twice

-- inputs, outputs, ghost variables, locals and constants
abbrev pub own_words : Component → List Spelled
own_words n =
    map (λ v. v.name) (variables n) ++ (map (λ c. c.name) (contract_statement_constants (contract_statements n)) ++ map (λ c. c.name) n.constants)

-- a name that is a program constant
abbrev pub outer_twice : List Spelled → List Spelled → List Refused
outer_twice outer ws = flat_map (λ w. meets same_word (λ w. w.at) name_twice w outer) ws

abbrev pub mode_words : List ContractStatement → List Spelled
mode_words [] = []
mode_words (mode m rs es ∷ cs) = m ∷ mode_words cs
mode_words (_ ∷ cs) = mode_words cs

-- ---- labels that stand twice

-- what the label of a kind is said of: nothing, or the mode of an ensure
abbrev pub Tag : Type 0
Tag = Name × Name × Pos

abbrev pub tag : Name → Labelled → List Tag
tag m l = option_to_list (option_map (λ x. (m, x, begin l.value)) l.label)

abbrev pub same_tag : Tag → Tag → Bool
same_tag a b = bytes_eq a.0 b.0 && bytes_eq a.1 b.1

abbrev pub tags_twice : List Tag → List Refused
tags_twice ts = twice same_tag (λ t. t.2) name_twice ts

abbrev pub assume_tags : ContractStatement → List Tag
assume_tags (assume l) = tag [] l
assume_tags _ = []

abbrev pub guarantee_tags : ContractStatement → List Tag
guarantee_tags (guarantee l) = tag [] l
guarantee_tags _ = []

abbrev pub ensure_tags : ContractStatement → List Tag
ensure_tags (mode m rs es) = flat_map (tag m.text) es
ensure_tags _ = []

abbrev pub property_tags : Statement → List Tag
property_tags (property l) = tag [] l
property_tags _ = []

abbrev pub labels_twice : Component → List Refused
labels_twice n =
    tags_twice (flat_map assume_tags (contract_statements n))
    ++ (tags_twice (flat_map guarantee_tags (contract_statements n))
    ++ (tags_twice (flat_map ensure_tags (contract_statements n))
    ++ tags_twice (flat_map property_tags n.body)))

-- ---- contracts

abbrev pub flags_of : Scope → List Labelled → List Refused
flags_of s ls = flat_map (λ l. flag_faults s l.value) ls

-- an output of an import is an output of the declaration
abbrev pub output_known : Scope → Spelled → List Refused
output_known s w = if_so (not (holds_of (λ e. is_output_role e.role) s w.text)) name_unknown w.at

abbrev pub output_sorts : Scope → List Variable → List Spelled → List Refused
output_sorts s (v ∷ vs) (w ∷ ws) =
    if_so (differ (Some v.sort) (sort_of_entry s w.text)) type_clash w.at ++ output_sorts s vs ws
output_sorts s _ _ = []

abbrev pub import_fits : Scope → Spelled → List Expression → List Spelled → Option Component → List Refused
import_fits s c as_ ws None = fault name_unknown c.at ∷ []
import_fits s c as_ ws (Some n) =
    if_so (not ((length n.inputs == length as_) && (length n.outputs == length ws))) arity_clash c.at
    ++ (arguments_fit s n.inputs as_
    ++ cond (length n.outputs == length ws) (output_sorts s n.outputs ws) [])

abbrev pub contract_statement_faults : Scope → ContractStatement → List Refused
contract_statement_faults s (assume l) = flag_faults s l.value
contract_statement_faults s (guarantee l) = flag_faults s l.value
contract_statement_faults s (ghost_variable v e) = equation_faults s base (v.name ∷ []) e
contract_statement_faults s (constant c) = definition_faults s c.sort c.value
contract_statement_faults s (mode m rs es) = flags_of s rs ++ flags_of s es
contract_statement_faults s («import» k c as_ ws) =
    flat_map (expression_faults s (on_clock base)) as_
    ++ (flat_map (output_known s) ws
    ++ import_fits s c as_ ws (contract_named s.program c.text))

abbrev pub contract_faults : Home → List ContractStatement → List ContractStatement → List Refused
contract_faults h before [] = []
contract_faults h before (c ∷ cs) =
    contract_statement_faults (contract_statement_scope h before) c ++ contract_faults h (before ++ c ∷ []) cs

-- ---- bodies

abbrev pub clock_words : Variable → List Spelled
clock_words v = option_to_list (option_map (λ c. c.1) v.clock)

abbrev pub local_constant_faults : Home → ℕ → List Constant → List Refused
local_constant_faults h k [] = []
local_constant_faults h k (c ∷ cs) =
    definition_faults (constant_scope h k) c.sort c.value ++ local_constant_faults h (suc k) cs

abbrev pub statement_faults : Scope → Statement → List Refused
statement_faults s (equation xs e) = equation_faults s (clock_of_names s.owner (map text_of xs)) xs e
statement_faults s (assertion e) = flag_faults s e
statement_faults s (property l) = flag_faults s l.value
statement_faults s (main_mark p) = []

abbrev pub body_faults : Home → List Refused
body_faults h =
    flat_map (used_as_clock (body_scope h)) (flat_map clock_words h.owner.locals)
    ++ (local_constant_faults h 0 h.owner.constants
    ++ flat_map (statement_faults (body_scope h)) h.owner.body)

-- ---- functions have no state

abbrev pub callee_has_state : Option Component → Bool
callee_has_state None = false
callee_has_state (Some n) = not n.function

abbrev pub state_in : Program → Standing → Expression → List Pos
state_in p s (pre q k a) = q.at ∷ []
state_in p s (arrow q k a b) = q.at ∷ []
state_in p s (condact q k a f as_ ds) = q.at ∷ []
state_in p s (call q k f as_) = cond (callee_has_state (node_named p f.text)) (f.at ∷ []) []
state_in p s _ = []

abbrev pub state_faults : Program → Component → List Refused
state_faults p n = cond n.function (faults_at not_stateless (gathered (state_in p) n)) []

-- ---- circles of declarations

-- the callee's name of a call, or the contract's of an import
abbrev pub callee_in : Standing → Expression → List Spelled
callee_in s (call p k f as_) = f ∷ []
callee_in s (condact p k a f as_ ds) = f ∷ []
callee_in s _ = []

abbrev pub import_words : ContractStatement → List Spelled
import_words («import» k c as_ ws) = c ∷ []
import_words _ = []

abbrev pub is_declared : Option Component → Bool
is_declared None = false
is_declared (Some n) = true

-- the nodes and functions that it calls, and the contracts that it imports
abbrev pub callees : Program → Component → List Spelled
callees p n =
    filter (λ f. is_declared (node_named p f.text)) (gathered callee_in n)
    ++ filter (λ c. is_declared (contract_named p c.text)) (flat_map import_words (contract_statements n))

abbrev pub Graph : Type 0
Graph = List (Name × List Name)

abbrev pub graph_of : Program → Program → Graph
graph_of p [] = []
graph_of p (declared_constant c ∷ ds) = graph_of p ds
graph_of p (declared_node n ∷ ds) = (n.name.text, map text_of (callees p n)) ∷ graph_of p ds
graph_of p (declared_contract n ∷ ds) = (n.name.text, map text_of (callees p n)) ∷ graph_of p ds

abbrev pub next_in : Graph → List Name → List Name
next_in [] xs = []
next_in (r ∷ rs) xs = cond (named_in r.0 xs) r.1 [] ++ next_in rs xs

-- those that are not among the others yet
abbrev pub new_among : List Name → List Name → List Name
new_among known [] = []
new_among known (x ∷ xs) = cond (named_in x known) [] (x ∷ []) ++ new_among (known ++ x ∷ []) xs

-- what is reached from these names by at most so many calls, these included
abbrev pub reached : ℕ → Graph → List Name → List Name
reached zero g xs = xs
reached (suc k) g xs = reached k g (xs ++ new_among xs (next_in g xs))

-- a callee from which the declaration itself is reached
abbrev pub recursion_faults : Program → Component → List Refused
recursion_faults p n =
    map (λ f. fault node_recursion f.at)
    (filter (λ f. named_in n.name.text (reached (length p) (graph_of p p) (f.text ∷ []))) (callees p n))

-- ---- what an assumption reads

abbrev pub read_now : Standing → Expression → List Spelled
read_now s (name p x) = cond s.under_pre [] (record { text = x; at = p.at } ∷ [])
read_now s (sampled p a b x) = cond s.under_pre [] (x ∷ [])
read_now s (merged p x a b) = cond s.under_pre [] (x ∷ [])
read_now s _ = []

-- the names that an expression reads at its own instant, as they are written
abbrev pub names_now : Component → Expression → List Spelled
names_now n e = flat_map (λ o. read_now o.standing o.expression) (occurrences n (on_clock base) e)

abbrev pub reads_some : Component → List Name → Expression → Bool
reads_some n xs e = list_any (λ w. named_in w.text xs) (names_now n e)

abbrev pub ghost_reading : Scope → List Name → ContractStatement → List Name
ghost_reading s xs (ghost_variable v e) =
    cond (holds_of (λ e. is_ghost_role e.role) s v.name.text && reads_some s.owner xs e) (v.name.text ∷ []) []
ghost_reading s xs _ = []

-- the outputs, and the ghost variables that read one of them now, directly or through at most so many others
abbrev pub given_now : ℕ → Scope → List Name
given_now zero s = map (λ v. v.name.text) s.owner.outputs
given_now (suc k) s =
    let xs : List Name = given_now k s in xs ++ new_among xs (flat_map (ghost_reading s xs) (contract_statements s.owner))

abbrev pub restricted : ContractStatement → List Expression
restricted (assume l) = l.value ∷ []
restricted («import» k c as_ ws) = as_
restricted _ = []

abbrev pub assumption_faults : Scope → List Refused
assumption_faults s =
    let xs : List Name = given_now (length (contract_statements s.owner)) s in
    flat_map (λ w. if_so (named_in w.text xs) assume_reads_output w.at)
    (flat_map (names_now s.owner) (flat_map restricted (contract_statements s.owner)))

-- ---- declarations

abbrev pub component_faults : Home → List Spelled → List Refused
component_faults h outer =
    words_twice name_twice (own_words h.owner)
    ++ (outer_twice outer (own_words h.owner)
    ++ (words_twice name_twice (mode_words (contract_statements h.owner))
    ++ (labels_twice h.owner
    ++ (contract_faults h [] (contract_statements h.owner)
    ++ (body_faults h
    ++ (state_faults h.program h.owner
    ++ (recursion_faults h.program h.owner
    ++ assumption_faults (body_scope h))))))))

abbrev pub constant_words : Program → List Spelled
constant_words [] = []
constant_words (declared_constant c ∷ ds) = c.name ∷ constant_words ds
constant_words (_ ∷ ds) = constant_words ds

abbrev pub outer_scope : Program → ℕ → Scope
outer_scope p k =
    record { program = p; owner = no_component; names = outer_names p k; modes = []; imports = [] }

abbrev pub home : Program → ℕ → Component → Home
home p k n = record { program = p; owner = n; outer = outer_names p k }

-- the declarations in turn, behind so many constants
abbrev pub declaration_faults : Program → ℕ → List Declaration → List Refused
declaration_faults p k [] = []
declaration_faults p k (declared_constant c ∷ ds) =
    definition_faults (outer_scope p k) c.sort c.value ++ declaration_faults p (suc k) ds
declaration_faults p k (declared_node n ∷ ds) =
    component_faults (home p k n) (constant_words p) ++ declaration_faults p k ds
declaration_faults p k (declared_contract n ∷ ds) =
    component_faults (home p k n) (constant_words p) ++ declaration_faults p k ds

abbrev pub declaration_word : Declaration → Spelled
declaration_word (declared_constant c) = c.name
declaration_word (declared_node n) = n.name
declaration_word (declared_contract n) = n.name

abbrev pub start_of_text : Pos
start_of_text = record { line = 1; column = 1 }

abbrev pub typing_faults : Program → List Refused
typing_faults p =
    if_so (length (nodes_of p) == 0) no_node start_of_text
    ++ (words_twice name_twice (map declaration_word p)
    ++ declaration_faults p 0 p)
