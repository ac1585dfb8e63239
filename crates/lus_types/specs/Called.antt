-- What a declaration calls and imports, by the numbers of names.
use Rattle.std.specs.Prelude.{ℕ, ◌==◌, Bool, cond, nat_le, List, [], ◌∷◌, ◌++◌, map, flat_map, filter, get_or}
use Rattle.std.specs.List.{list_all}
use Rattle.lus_tree.specs.Tree.{Name, Spelled, Expression, call, condact, Constant, Labelled, Statement, equation, assertion, property, main_mark, ContractStatement, assume, guarantee, ghost_variable, constant, mode, «import», Component, declared_constant, declared_node, declared_contract, Program}
use Rattle.lus_tree.specs.Reason.{Refused, node_recursion}
use Rattle.lus_meaning.specs.Depends.{named_in}
use Rattle.lus_meaning.specs.Faults.{if_so}
use Rattle.lus_meaning.specs.Occurrences.{gathered}
use Rattle.lus_meaning.specs.Scene.{contract_statements}
use Rattle.lus_meaning.specs.Scope.{contract_named, node_named}
use Rattle.lus_meaning.specs.NameFaults.{callee_in, import_words, is_declared}
use Rattle.name_table.specs.Names.{add, number_of}
use Rattle.lus_types.specs.Marks.{Link, Row, is_marked}

-- the callee's name of an expression, its parts left aside
abbrev pub callee_of : Expression → List Spelled
callee_of (call p k f as_) = f ∷ []
callee_of (condact p k a f as_ ds) = f ∷ []
callee_of _ = []

-- the expressions of items
abbrev pub values_of : List Labelled → List Expression
values_of ls = map (λ l. l.value) ls

abbrev pub contract_sides : ContractStatement → List Expression
contract_sides (assume l) = l.value ∷ []
contract_sides (guarantee l) = l.value ∷ []
contract_sides (ghost_variable x e) = e ∷ []
contract_sides (constant c) = c.value ∷ []
contract_sides (mode m rs es) = values_of rs ++ values_of es
contract_sides («import» k c as_ xs) = as_

abbrev pub statement_sides : Statement → List Expression
statement_sides (equation xs e) = e ∷ []
statement_sides (assertion e) = e ∷ []
statement_sides (property l) = l.value ∷ []
statement_sides (main_mark p) = []

abbrev pub constant_sides : List Constant → List Expression
constant_sides cs = map (λ c. c.value) cs

-- the names of declarations with parts, each once, behind others
abbrev pub names_behind : List Name → Program → List Name
names_behind t [] = t
names_behind t (declared_constant c ∷ ds) = names_behind t ds
names_behind t (declared_node n ∷ ds) = names_behind (add t n.name.text) ds
names_behind t (declared_contract n ∷ ds) = names_behind (add t n.name.text) ds

-- a name that has a number
abbrev pub link_of : List Name → Spelled → List Link
link_of t w = cond (named_in w.text t) ((number_of t w.text, w.at) ∷ []) []

abbrev pub node_links : Program → List Name → List Spelled → List Link
node_links p t ws = flat_map (link_of t) (filter (λ f. is_declared (node_named p f.text)) ws)

abbrev pub contract_links : Program → List Name → List Spelled → List Link
contract_links p t ws = flat_map (link_of t) (filter (λ f. is_declared (contract_named p f.text)) ws)

-- a row by the words that a declaration calls and those that it imports
abbrev pub row_by : Program → List Name → Name → List Spelled → List Spelled → Row
row_by p t x calls imports = (number_of t x, node_links p t calls ++ contract_links p t imports)

abbrev pub row_of : Program → List Name → Component → Row
row_of p t n = row_by p t n.name.text (gathered callee_in n) (flat_map import_words (contract_statements n))

-- the faults of a row where these numbers are marked
abbrev pub marked_faults : List Bool → List Link → List Refused
marked_faults marks ls = flat_map (λ l. if_so (is_marked marks l.0) node_recursion l.1) ls

-- whether no number leads to one of a greater rank
abbrev pub rank_of : List ℕ → ℕ → ℕ
rank_of ranks j = get_or ranks j 0

abbrev pub stays_below : List ℕ → ℕ → List Link → Bool
stays_below ranks k ls = list_all (λ l. nat_le (rank_of ranks l.0) k) ls

abbrev pub none_rises : List ℕ → List Row → Bool
none_rises ranks rs = list_all (λ r. stays_below ranks (rank_of ranks r.0) r.1) rs

-- the faults that the links to numbers of that rank would be, and those of all links to numbers of equal rank
abbrev pub level_faults : List ℕ → ℕ → List Link → List Refused
level_faults ranks k ls = flat_map (λ l. if_so (rank_of ranks l.0 == k) node_recursion l.1) ls

abbrev pub all_level_faults : List ℕ → List Row → List Refused
all_level_faults ranks rs = flat_map (λ r. level_faults ranks (rank_of ranks r.0) r.1) rs
