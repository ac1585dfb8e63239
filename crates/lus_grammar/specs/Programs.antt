-- The tree of a declaration's text, and of a program's. The last clauses never come.
use Rattle.std.specs.Prelude.{◌-◌, Bool, true, false, List, [], ◌∷◌, ◌++◌, Option, Some, None, map, length, take, drop}
use Rattle.lus_tree.specs.declared.place.Sort.{Sort}
use Rattle.lus_tree.specs.declared.place.Sort.TheVariants as Q
use Rattle.lus_tree.specs.Tree.{Name, Spelled, Expression, Variable, Constant, Labelled, Statement, equation, assertion, property, main_mark, ContractStatement, assume, guarantee, ghost_variable, constant, mode, «import», Declaration, declared_constant, declared_node, declared_contract, Program}
use Rattle.lus_lexer.specs.declared.token.Class.{Class}
use Rattle.lus_lexer.specs.declared.token.Class.TheVariants as C
use Rattle.lus_lexer.specs.declared.token.Keyword.TheVariants as K
use Rattle.lus_grammar.specs.Stream.{Mark}
use Rattle.lus_grammar.specs.Phrase as P
use Rattle.lus_grammar.specs.Syntax.{Syntax, leaf, numbered, node, ◌·◌, this, that, absent, present, some}
use Rattle.lus_grammar.specs.Trees.{spelled, expression_of}

-- the text between its quotes
abbrev pub unquoted : Name → Name
unquoted w = take (length w - 2) (drop 1 w)

-- [ TEXT ]
abbrev pub label_of : Syntax → Option Name
label_of (present (leaf t)) = Some (unquoted t.text)
label_of _ = None

-- [ TEXT ] expr ";" behind the first token of its item
abbrev pub labelled_of : Mark → Syntax → Labelled
labelled_of t (l · a · _) = record { label = label_of l; at = t.at; value = expression_of a }
labelled_of t x = record { label = None; at = t.at; value = expression_of x }

-- { "," ID }
abbrev pub more_names_of : Syntax → List Spelled
more_names_of (some (_ · leaf t) xs) = spelled t ∷ more_names_of xs
more_names_of _ = []

-- names = ID { "," ID }
abbrev pub names_of : Syntax → List Spelled
names_of (node P.Names (leaf t · xs)) = spelled t ∷ more_names_of xs
names_of _ = []

-- [ names ]
abbrev pub optional_names_of : Syntax → List Spelled
optional_names_of (present xs) = names_of xs
optional_names_of _ = []

abbrev pub sort_of_class : Option Class → Sort
sort_of_class (Some (C.Keyword K.Bool)) = Q.Bool
sort_of_class _ = Q.Int

-- sort = "bool" | "int"
abbrev pub sort_of : Syntax → Sort
sort_of (node P.Sort (leaf t)) = sort_of_class t.class
sort_of _ = Q.Int

-- [ "when" [ "not" ] ID ]
abbrev pub clock_of : Syntax → Option (Bool × Spelled)
clock_of (present (_ · absent · leaf c)) = Some (true, spelled c)
clock_of (present (_ · present _ · leaf c)) = Some (false, spelled c)
clock_of _ = None

abbrev pub variable_of : Sort → Option (Bool × Spelled) → Spelled → Variable
variable_of q c x = record { name = x; sort = q; clock = c }

-- group = names ":" sort, on a clock
abbrev pub group_of : Option (Bool × Spelled) → Syntax → List Variable
group_of c (node P.Group (xs · _ · q)) = map (variable_of (sort_of q) c) (names_of xs)
group_of c _ = []

-- groups = group [ ";" [ groups ] ]
abbrev pub groups_of : Syntax → List Variable
groups_of (node P.Groups (g · present (_ · present gs))) = group_of None g ++ groups_of gs
groups_of (node P.Groups (g · _)) = group_of None g
groups_of _ = []

-- params = "(" [ groups ] ")"
abbrev pub parameters_of : Syntax → List Variable
parameters_of (node P.Parameters (_ · present gs · _)) = groups_of gs
parameters_of _ = []

-- lgroup = group [ "when" [ "not" ] ID ]
abbrev pub local_group_of : Syntax → List Variable
local_group_of (node P.LocalGroup (g · c)) = group_of (clock_of c) g
local_group_of _ = []

-- { lgroup ";" }
abbrev pub local_groups_of : Syntax → List Variable
local_groups_of (some (g · _) gs) = local_group_of g ++ local_groups_of gs
local_groups_of _ = []

-- [ ":" sort ]
abbrev pub optional_sort_of : Syntax → Option Sort
optional_sort_of (present (_ · q)) = Some (sort_of q)
optional_sort_of _ = None

-- const = "const" ID [ ":" sort ] "=" expr ";"
abbrev pub constants_of : Syntax → List Constant
constants_of (node P.Constant (_ · leaf x · q · _ · a · _)) = record { name = spelled x; sort = optional_sort_of q; value = expression_of a } ∷ []
constants_of _ = []

-- locals = "var" lgroup ";" { lgroup ";" } | const: their streams
abbrev pub local_variables_of : Syntax → List Variable
local_variables_of (some (node P.Locals (this (_ · g · _ · gs))) ls) = local_group_of g ++ local_groups_of gs ++ local_variables_of ls
local_variables_of (some _ ls) = local_variables_of ls
local_variables_of _ = []

-- and their constants
abbrev pub local_constants_of : Syntax → List Constant
local_constants_of (some (node P.Locals (that c)) ls) = constants_of c ++ local_constants_of ls
local_constants_of (some _ ls) = local_constants_of ls
local_constants_of _ = []

-- left = names | "(" names ")"
abbrev pub left_of : Syntax → List Spelled
left_of (node P.Left (this xs)) = names_of xs
left_of (node P.Left (that (_ · xs · _))) = names_of xs
left_of _ = []

-- item = left "=" expr ";" | "assert" expr ";" | ("check" | "--%PROPERTY") [ TEXT ] expr ";" | "--%MAIN" [";"]
abbrev pub items_of : Syntax → List Statement
items_of (some (node P.Item (this (xs · _ · a · _))) is) = equation (left_of xs) (expression_of a) ∷ items_of is
items_of (some (node P.Item (that (this (_ · a · _)))) is) = assertion (expression_of a) ∷ items_of is
items_of (some (node P.Item (that (that (this (leaf t · l))))) is) = property (labelled_of t l) ∷ items_of is
items_of (some (node P.Item (that (that (that (leaf t · _))))) is) = main_mark t.at ∷ items_of is
items_of _ = []

abbrev pub if_required : Option Class → List Labelled → List Labelled
if_required (Some (C.Keyword K.Require)) ls = ls
if_required _ ls = []

abbrev pub if_ensured : Option Class → List Labelled → List Labelled
if_ensured (Some (C.Keyword K.Ensure)) ls = ls
if_ensured _ ls = []

-- { ("require" | "ensure") [ TEXT ] expr ";" }: what it requires
abbrev pub requires_of : Syntax → List Labelled
requires_of (some (node P.ModeItem (leaf t · l)) is) = if_required t.class (labelled_of t l ∷ []) ++ requires_of is
requires_of _ = []

-- and what it ensures
abbrev pub ensures_of : Syntax → List Labelled
ensures_of (some (node P.ModeItem (leaf t · l)) is) = if_ensured t.class (labelled_of t l ∷ []) ++ ensures_of is
ensures_of _ = []

abbrev pub assumption_or_guarantee : Option Class → Labelled → ContractStatement
assumption_or_guarantee (Some (C.Keyword K.Assume)) l = assume l
assumption_or_guarantee _ l = guarantee l

-- { "," expr } of an import
abbrev pub more_arguments_of : Syntax → List Expression
more_arguments_of (some (_ · a) as_) = expression_of a ∷ more_arguments_of as_
more_arguments_of _ = []

-- [ exprs ] of an import
abbrev pub import_arguments_of : Syntax → List Expression
import_arguments_of (present (node P.Arguments (a · as_))) = expression_of a ∷ more_arguments_of as_
import_arguments_of _ = []

-- citem = ("assume" | "guarantee") [ TEXT ] expr ";" | "var" ID ":" sort "=" expr ";" | const | "mode" ID "(" .. ")" ";" | "import" ID "(" [ exprs ] ")" "returns" "(" [ names ] ")" ";"
abbrev pub contract_statements_of : Syntax → List ContractStatement
contract_statements_of (some (node P.ContractItem (this (leaf t · l))) is) = assumption_or_guarantee t.class (labelled_of t l) ∷ contract_statements_of is
contract_statements_of (some (node P.ContractItem (that (this (_ · leaf x · _ · q · _ · a · _)))) is) = ghost_variable
    (variable_of (sort_of q) None (spelled x)) (expression_of a) ∷ contract_statements_of is
contract_statements_of (some (node P.ContractItem (that (that (this c)))) is) = map constant (constants_of c) ++ contract_statements_of is
contract_statements_of (some (node P.ContractItem (that (that (that (this (_ · leaf m · _ · rs · _ · _)))))) is) = mode (spelled m)
    (requires_of rs) (ensures_of rs) ∷ contract_statements_of is
contract_statements_of (some (node P.ContractItem (that (that (that (that (numbered t k · leaf c · _ · as_ · _ · _ · _ · xs · _ · _))))))
    is) = «import» k (spelled c) (import_arguments_of as_) (optional_names_of xs) ∷ contract_statements_of is
contract_statements_of _ = []

-- [ contract ], with contract = "(*@contract" { citem } "*)" | "/*@contract" { citem } "*/"
abbrev pub contract_of : Syntax → Option (List ContractStatement)
contract_of (present (node P.Contract (this (_ · is · _)))) = Some (contract_statements_of is)
contract_of (present (node P.Contract (that (_ · is · _)))) = Some (contract_statements_of is)
contract_of _ = None

abbrev pub is_function : Option Class → Bool
is_function (Some (C.Keyword K.Function)) = true
is_function _ = false

abbrev pub nodes_of : Syntax → List Declaration
-- node = ("node" | "function") ID params "returns" params [";"] [ contract ] { locals } "let" { item } "tel" [";"]
nodes_of (node P.Node (leaf t · leaf x · ps · _ · qs · _ · c · ls · _ · is · _ · _)) = declared_node (record {
  name = spelled x;
  function = is_function t.class;
  inputs = parameters_of ps;
  outputs = parameters_of qs;
  locals = local_variables_of ls;
  constants = local_constants_of ls;
  contract = contract_of c;
  body = items_of is;
}) ∷ []
nodes_of _ = []

-- cnode = "contract" ID params "returns" params ";" "let" { citem } "tel" [";"]
abbrev pub contract_nodes_of : Syntax → List Declaration
contract_nodes_of (node P.ContractNode (_ · leaf x · ps · _ · qs · _ · _ · is · _ · _)) = declared_contract (record {
  name = spelled x;
  function = false;
  inputs = parameters_of ps;
  outputs = parameters_of qs;
  locals = [];
  constants = [];
  contract = Some (contract_statements_of is);
  body = [];
}) ∷ []
contract_nodes_of _ = []

-- decl = const | node | cnode
abbrev pub declaration_of : Syntax → List Declaration
declaration_of (node P.Declaration (this c)) = map declared_constant (constants_of c)
declaration_of (node P.Declaration (that (this d))) = nodes_of d
declaration_of (node P.Declaration (that (that d))) = contract_nodes_of d
declaration_of _ = []

-- { decl }
abbrev pub declarations_of : Syntax → Program
declarations_of (some d ds) = declaration_of d ++ declarations_of ds
declarations_of _ = []

-- program = { decl }
abbrev pub program_of : Syntax → Program
program_of (node P.Program ds) = declarations_of ds
program_of _ = []
