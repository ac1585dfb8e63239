-- What contracts see of a declaration with parts, and of its expressions.
use Rattle.std.specs.Prelude.{◌≡◌, ◌++◌, List, [], ◌∷◌, map, flat_map, Option, unwrap_or}
use Rattle.std.specs.Borrow.{Bor}
use Rattle.lus_tree.specs.declared.expression.Expr.{Expr}
use Rattle.lus_tree.specs.Tree.{Expression, Constant, Labelled, Statement, equation, assertion, property, main_mark, ContractStatement, assume, guarantee, ghost_variable, constant, mode, «import», Component}
use Rattle.lus_tree.specs.View.{expr_view}
use Rattle.lus_meaning.specs.Scene.{contract_statements}

abbrev pub statements_of : Option (List ContractStatement) → List ContractStatement
statements_of c = unwrap_or c []

-- ---- expressions

abbrev pub sides_view : List (Bor Expr) → List Expression
sides_view es = map (λ e. expr_view e.now) es

-- the expressions are those before, and these behind them
abbrev pub Adds : List (Bor Expr) → List (Bor Expr) → List Expression → Type 0
Adds old new es = sides_view new ≡ sides_view old ++ es

abbrev pub values_of : List Labelled → List Expression
values_of ls = map (λ l. l.value) ls

abbrev pub contract_sides : ContractStatement → List Expression
contract_sides (assume l) = l.value ∷ []
contract_sides (guarantee l) = l.value ∷ []
contract_sides (ghost_variable x e) = e ∷ []
contract_sides (constant c) = c.value ∷ []
contract_sides (mode m rs es) = values_of rs ++ values_of es
contract_sides («import» k c as_ xs) = as_

abbrev pub statement_sides : Statement → List Expression
statement_sides (equation xs e) = e ∷ []
statement_sides (assertion e) = e ∷ []
statement_sides (property l) = l.value ∷ []
statement_sides (main_mark p) = []

abbrev pub constant_sides : List Constant → List Expression
constant_sides cs = map (λ c. c.value) cs

-- every expression of a declaration's items and constants
abbrev pub sides : Component → List Expression
sides n = flat_map contract_sides (contract_statements n) ++ (constant_sides n.constants ++ flat_map statement_sides n.body)
