-- The faults of clocks: phase 4, of a program whose names and types have none.
use Rattle.std.specs.Prelude.{Bool, true, false, not, ◌&&◌, List, [], ◌∷◌, ◌++◌, map, flat_map, Option, Some, None, find, option_map, unwrap_or}
use Rattle.std.specs.List.{list_any}
use Rattle.std.specs.Bool.{beq}
use Rattle.std.specs.Str.{bytes_eq}
use Rattle.lus_tree.specs.Tree.{Name, text_of, Expression, Expressions, truth, number, name, negation, minus, pre, arrow, binary, choice, sampled, merged, call, condact, mode_name, no_more, more, Labelled, Statement, equation, assertion, property, main_mark, ContractStatement, assume, guarantee, ghost_variable, constant, mode, «import», Component, declared_constant, declared_node, declared_contract, Program}
use Rattle.lus_tree.specs.Reason.{Refused, clock_clash}
use Rattle.lus_meaning.specs.Scene.{Clock, base, sampled_by, clock_from, clock_of, contract_statements, variables, clock_of_names}
use Rattle.lus_meaning.specs.Program.{listed}
use Rattle.lus_meaning.specs.Occurrences.{on_clock, occurrences, begin}
use Rattle.lus_meaning.specs.Faults.{if_so}

abbrev pub same_clock : Clock → Clock → Bool
same_clock base base = true
same_clock (sampled_by b x) (sampled_by c y) = beq b c && bytes_eq x y
same_clock _ _ = false

-- ---- the clock of an expression

-- a constant has none
abbrev pub name_clock : Component → Name → Option Clock
name_clock n x = option_map (λ v. clock_from v.clock) (find (λ v. bytes_eq x v.name.text) (variables n))

abbrev pub or_else : Option Clock → Option Clock → Option Clock
or_else (Some c) d = Some c
or_else None d = d

-- That of its first operand that holds a name or call. An expression without one has none, and takes the clock of its place.
abbrev mutual
  pub clock_in : Component → Expression → Option Clock
  clock_in n (truth p b) = None
  clock_in n (number p k) = None
  clock_in n (name p x) = name_clock n x
  clock_in n (negation p a) = clock_in n a
  clock_in n (minus p a) = clock_in n a
  clock_in n (pre p k a) = clock_in n a
  clock_in n (arrow p k a b) = or_else (clock_in n a) (clock_in n b)
  clock_in n (binary p o a b) = or_else (clock_in n a) (clock_in n b)
  clock_in n (choice p a b c) = or_else (clock_in n a) (or_else (clock_in n b) (clock_in n c))
  clock_in n (sampled p a b x) = Some (sampled_by b x.text)
  clock_in n (merged p x a b) = Some (clock_of n x.text)
  clock_in n (call p k f as_) = Some (unwrap_or (clock_among n as_) base)
  clock_in n (condact p k a f as_ ds) = Some (unwrap_or (clock_among n as_) base)
  clock_in n (mode_name p c m) = Some base

  pub clock_among : Component → Expressions → Option Clock
  clock_among n no_more = None
  clock_among n (more a as_) = or_else (clock_in n a) (clock_among n as_)

-- ---- faults

abbrev pub is_other : Clock → Option Clock → Bool
is_other c None = false
is_other c (Some d) = not (same_clock c d)

-- an expression stands on that clock
abbrev pub stands_on : Component → Clock → Expression → List Refused
stands_on n c e = if_so (is_other c (clock_in n e)) clock_clash (begin e)

-- operands that are to be on one clock, where it is known
abbrev pub all_on : Component → Option Clock → List Expression → List Refused
all_on n None es = []
all_on n (Some c) es = flat_map (stands_on n c) es

abbrev pub clock_form_faults : Component → Expression → List Refused
clock_form_faults n (arrow p k a b) = all_on n (clock_in n (arrow p k a b)) (a ∷ b ∷ [])
clock_form_faults n (binary p o a b) = all_on n (clock_in n (binary p o a b)) (a ∷ b ∷ [])
clock_form_faults n (choice p a b c) = all_on n (clock_in n (choice p a b c)) (a ∷ b ∷ c ∷ [])
clock_form_faults n (sampled p a b x) = stands_on n (clock_of n x.text) a
clock_form_faults n (merged p x a b) =
    stands_on n (sampled_by true x.text) a ++ stands_on n (sampled_by false x.text) b
clock_form_faults n (call p k f as_) = all_on n (clock_among n as_) (listed as_)
clock_form_faults n (condact p k a f as_ ds) =
    all_on n (clock_among n as_) (listed as_) ++ stands_on n (unwrap_or (clock_among n as_) base) a
clock_form_faults n _ = []

-- an expression at a place of that clock
abbrev pub clock_faults_of : Component → Clock → Expression → List Refused
clock_faults_of n c e =
    stands_on n c e ++ flat_map (λ o. clock_form_faults n o.expression) (occurrences n (on_clock c) e)

-- all left names of an equation are on the clock of its right side
abbrev pub side_faults : Component → List Name → Expression → List Refused
side_faults n xs e =
    if_so (list_any (λ x. not (same_clock (clock_of_names n xs) (clock_of n x))) xs) clock_clash (begin e)
    ++ clock_faults_of n (clock_of_names n xs) e

abbrev pub all_on_base : Component → List Labelled → List Refused
all_on_base n ls = flat_map (λ l. clock_faults_of n base l.value) ls

abbrev pub contract_statement_clock_faults : Component → ContractStatement → List Refused
contract_statement_clock_faults n (assume l) = clock_faults_of n base l.value
contract_statement_clock_faults n (guarantee l) = clock_faults_of n base l.value
contract_statement_clock_faults n (ghost_variable v e) = clock_faults_of n base e
contract_statement_clock_faults n (constant c) = []
contract_statement_clock_faults n (mode m rs es) = all_on_base n rs ++ all_on_base n es
contract_statement_clock_faults n («import» k c as_ xs) = flat_map (clock_faults_of n base) as_

abbrev pub statement_clock_faults : Component → Statement → List Refused
statement_clock_faults n (equation xs e) = side_faults n (map text_of xs) e
statement_clock_faults n (assertion e) = clock_faults_of n base e
statement_clock_faults n (property l) = clock_faults_of n base l.value
statement_clock_faults n (main_mark p) = []

abbrev pub component_clock_faults : Component → List Refused
component_clock_faults n =
    flat_map (contract_statement_clock_faults n) (contract_statements n) ++ flat_map (statement_clock_faults n) n.body

-- the nodes, functions and contract nodes, in text order
abbrev pub components : Program → List Component
components [] = []
components (declared_constant c ∷ ds) = components ds
components (declared_node n ∷ ds) = n ∷ components ds
components (declared_contract n ∷ ds) = n ∷ components ds

abbrev pub clock_faults : Program → List Refused
clock_faults p = flat_map component_clock_faults (components p)
