-- The faults of the items of a program in the order in which they are noted.
use Rattle.std.specs.Prelude.{Bool, not, List, [], ◌++◌, map, flat_map}
use Rattle.std.specs.List.{list_any}
use Rattle.lus_tree.specs.Tree.{Name, text_of, Component, Expression, Labelled, Statement, equation, assertion, property, main_mark, ContractStatement, assume, guarantee, ghost_variable, constant, mode, «import», Declaration, declared_constant, declared_node, declared_contract}
use Rattle.lus_tree.specs.Reason.{Refused, clock_clash}
use Rattle.lus_meaning.specs.Scene.{Clock, base, clock_of, clock_of_names, contract_statements}
use Rattle.lus_meaning.specs.Occurrences.{begin}
use Rattle.lus_meaning.specs.Faults.{if_so}
use Rattle.lus_meaning.specs.ClockFaults.{same_clock, stands_on}
use Rattle.lus_clocks.specs.Walk.{walk}

-- an expression at a place of that clock
abbrev pub placed_walk : Component → Clock → Expression → List Refused
placed_walk n c e = walk n e ++ stands_on n c e

-- whether one of these names is on another clock
abbrev pub some_other : Component → Clock → List Name → Bool
some_other n c xs = list_any (λ x. not (same_clock c (clock_of n x))) xs

abbrev pub side_walk : Component → List Name → Expression → List Refused
side_walk n xs e = if_so (some_other n (clock_of_names n xs) xs) clock_clash (begin e) ++ placed_walk n (clock_of_names n xs) e

abbrev pub labelled_walk : Component → List Labelled → List Refused
labelled_walk n ls = flat_map (λ l. placed_walk n base l.value) ls

abbrev pub contract_statement_walk : Component → ContractStatement → List Refused
contract_statement_walk n (assume l) = placed_walk n base l.value
contract_statement_walk n (guarantee l) = placed_walk n base l.value
contract_statement_walk n (ghost_variable v e) = placed_walk n base e
contract_statement_walk n (constant c) = []
contract_statement_walk n (mode m rs es) = labelled_walk n rs ++ labelled_walk n es
contract_statement_walk n («import» k c as_ xs) = flat_map (placed_walk n base) as_

abbrev pub statement_walk : Component → Statement → List Refused
statement_walk n (equation xs e) = side_walk n (map text_of xs) e
statement_walk n (assertion e) = placed_walk n base e
statement_walk n (property l) = placed_walk n base l.value
statement_walk n (main_mark p) = []

abbrev pub component_walk : Component → List Refused
component_walk n = flat_map (contract_statement_walk n) (contract_statements n) ++ flat_map (statement_walk n) n.body

-- a declaration, where it is no constant
abbrev pub declaration_walk : Declaration → List Refused
declaration_walk (declared_constant c) = []
declaration_walk (declared_node n) = component_walk n
declaration_walk (declared_contract n) = component_walk n
