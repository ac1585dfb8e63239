-- Left names that stand twice, from the last one on.
use Rattle.std.specs.Prelude.{List, [], ◌∷◌, ◌++◌}
use Rattle.lus_tree.specs.Tree.{Spelled}
use Rattle.lus_tree.specs.Reason.{Refused, equation_twice}
use Rattle.lus_meaning.specs.Faults.{meets, same_word}

abbrev pub met : Spelled → List Spelled → List Refused
met w ws = meets same_word (λ w. w.at) equation_twice w ws

abbrev pub twice_from_last : List Spelled → List Refused
twice_from_last [] = []
twice_from_last (w ∷ ws) = twice_from_last ws ++ met w ws
