-- The faults of left names, declaration by declaration.
use Rattle.std.specs.Prelude.{not, List, [], flat_map}
use Rattle.lus_tree.specs.Tree.{Name, Spelled, Declaration, declared_constant, declared_node, declared_contract}
use Rattle.lus_tree.specs.Reason.{Refused, input_defined}
use Rattle.lus_meaning.specs.Depends.{named_in}
use Rattle.lus_meaning.specs.EquationFaults.{left_faults}
use Rattle.lus_meaning.specs.Faults.{if_so}

-- the words that are none of these names
abbrev pub outside : List Name → List Spelled → List Refused
outside xs ws = flat_map (λ w. if_so (not (named_in w.text xs)) input_defined w.at) ws

abbrev pub lefts_of : Declaration → List Refused
lefts_of (declared_constant c) = []
lefts_of (declared_node n) = left_faults n
lefts_of (declared_contract n) = left_faults n
