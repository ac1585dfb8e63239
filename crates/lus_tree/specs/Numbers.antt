-- The numbers of the occurrences of `pre`, of `->` and of calls.
use Rattle.std.specs.Prelude.{◌≡◌, ℕ, zero, suc, Bool, true, cond, eqb, ◌==◌, List, [], ◌∷◌, ◌++◌, map, flat_map, length, unwrap_or}
use Rattle.std.specs.List.{AllByRecursion, list_all}
use Rattle.lus_tree.specs.Tree.{Expression, Expressions, truth, number, name, negation, minus, pre, arrow, binary, choice, sampled, merged, call, condact, mode_name, no_more, more, Statement, equation, assertion, property, main_mark, ContractStatement, assume, guarantee, ghost_variable, constant, mode, «import», Component, Declaration, declared_constant, declared_node, declared_contract, Program}

-- the numbers from k on, as many as said
abbrev pub counting : ℕ → ℕ → List ℕ
counting k zero = []
counting k (suc n) = k ∷ counting (suc k) n

-- ---- in an expression

-- What is read of the expression and of all that stand in it, in text order of their own tokens.
abbrev mutual
  pub numbers : (Expression → List ℕ) → Expression → List ℕ
  numbers own (truth p b) = own (truth p b)
  numbers own (number p k) = own (number p k)
  numbers own (name p x) = own (name p x)
  numbers own (negation p a) = own (negation p a) ++ numbers own a
  numbers own (minus p a) = own (minus p a) ++ numbers own a
  numbers own (pre p k a) = own (pre p k a) ++ numbers own a
  numbers own (arrow p k a b) = numbers own a ++ (own (arrow p k a b) ++ numbers own b)
  numbers own (binary p o a b) = numbers own a ++ (own (binary p o a b) ++ numbers own b)
  numbers own (choice p a b c) = own (choice p a b c) ++ ((numbers own a ++ numbers own b) ++ numbers own c)
  numbers own (sampled p a b x) = numbers own a ++ own (sampled p a b x)
  numbers own (merged p x a b) = own (merged p x a b) ++ (numbers own a ++ numbers own b)
  numbers own (call p k f as_) = own (call p k f as_) ++ numbers_among own as_
  numbers own (condact p k a f as_ ds) =
      own (condact p k a f as_ ds) ++ ((numbers own a ++ numbers_among own as_) ++ numbers_among own ds)
  numbers own (mode_name p c m) = own (mode_name p c m)

  pub numbers_among : (Expression → List ℕ) → Expressions → List ℕ
  numbers_among own no_more = []
  numbers_among own (more a as_) = numbers own a ++ numbers_among own as_

-- what is numbered, each by itself
pub data Counted : Type 0 where
  a_pre : Counted
  an_arrow : Counted
  a_call : Counted

abbrev pub if_same : Counted → Counted → ℕ → List ℕ
if_same a_pre a_pre k = k ∷ []
if_same an_arrow an_arrow k = k ∷ []
if_same a_call a_call k = k ∷ []
if_same _ _ k = []

-- The number of an expression of that kind, those in it left aside. `condact` and `activate` are numbered at their own word.
abbrev pub own_number : Counted → Expression → List ℕ
own_number c (pre p k a) = if_same c a_pre k
own_number c (arrow p k a b) = if_same c an_arrow k
own_number c (call p k f as_) = if_same c a_call k
own_number c (condact p k a f as_ ds) = if_same c a_call k
own_number c (truth p b) = []
own_number c (number p k) = []
own_number c (name p x) = []
own_number c (negation p a) = []
own_number c (minus p a) = []
own_number c (binary p o a b) = []
own_number c (choice p a b d) = []
own_number c (sampled p a b x) = []
own_number c (merged p x a b) = []
own_number c (mode_name p d m) = []

abbrev pub pre_number : Expression → List ℕ
pre_number = own_number a_pre

abbrev pub arrow_number : Expression → List ℕ
arrow_number = own_number an_arrow

abbrev pub call_number : Expression → List ℕ
call_number = own_number a_call

abbrev pub pres : Expression → List ℕ
pres e = numbers pre_number e

abbrev pub arrows : Expression → List ℕ
arrows e = numbers arrow_number e

abbrev pub calls : Expression → List ℕ
calls e = numbers call_number e

-- ---- in a body

-- the expressions of a body, in text order
abbrev pub statement_expressions : Statement → List Expression
statement_expressions (equation xs e) = e ∷ []
statement_expressions (assertion e) = e ∷ []
statement_expressions (property l) = l.value ∷ []
statement_expressions (main_mark p) = []

abbrev pub body_expressions : List Statement → List Expression
body_expressions ss = flat_map statement_expressions ss

-- ---- in a declaration

abbrev pub contract_statement_expressions : ContractStatement → List Expression
contract_statement_expressions (assume l) = l.value ∷ []
contract_statement_expressions (guarantee l) = l.value ∷ []
contract_statement_expressions (ghost_variable x e) = e ∷ []
contract_statement_expressions (constant c) = c.value ∷ []
contract_statement_expressions (mode m rs es) = map (λ l. l.value) rs ++ map (λ l. l.value) es
contract_statement_expressions («import» k c as_ xs) = as_

-- an import is numbered among the calls
abbrev pub import_number : Counted → ContractStatement → List ℕ
import_number c («import» k f as_ xs) = if_same c a_call k
import_number c (assume l) = []
import_number c (guarantee l) = []
import_number c (ghost_variable x e) = []
import_number c (constant d) = []
import_number c (mode m rs es) = []

abbrev pub contract_of : Component → List ContractStatement
contract_of n = unwrap_or n.contract []

-- the expressions of its contract, its constants and its body
abbrev pub all_expressions : Component → List Expression
all_expressions n = flat_map contract_statement_expressions (contract_of n) ++ (map (λ c. c.value) n.constants ++ body_expressions n.body)

abbrev pub all_numbers : (Expression → List ℕ) → Component → List ℕ
all_numbers own n = flat_map (numbers own) (all_expressions n)

-- how often a number stands in a list
abbrev pub times : ℕ → List ℕ → ℕ
times k [] = 0
times k (j ∷ js) = cond (eqb k j) (suc (times k js)) (times k js)

-- each of the numbers from 1 on, up to how many there are, stands once, in whatever order
abbrev pub are_counted : List ℕ → Bool
are_counted ks = list_all (λ k. times k ks == 1) (counting 1 (length ks))

-- the numbers of a kind in a declaration
abbrev pub numbers_in : Counted → Component → List ℕ
numbers_in c n = all_numbers (own_number c) n ++ flat_map (import_number c) (contract_of n)

-- The occurrences of a declaration are numbered, each kind by itself: the `pre`, the `->`, and the calls with the imports.
pub record IsNumbered (n : Component) : Type 0 where
  pub each : (c : Counted) → are_counted (numbers_in c n) ≡ true

abbrev pub IsNumberedDeclaration : Declaration → Type 0
IsNumberedDeclaration (declared_constant c) = Unit {0}
IsNumberedDeclaration (declared_node n) = IsNumbered n
IsNumberedDeclaration (declared_contract n) = IsNumbered n

-- each declaration of a program is
abbrev pub AreNumbered : Program → Type 0
AreNumbered p = AllByRecursion IsNumberedDeclaration p
