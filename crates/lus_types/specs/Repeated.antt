-- Words that stand twice, from the last one on.
use Rattle.std.specs.Prelude.{◌≡◌, List, [], ◌∷◌, ◌++◌, map}
use Rattle.lus_tree.specs.Tree.{Name, Spelled, text_of}
use Rattle.lus_tree.specs.Reason.{Refused, name_twice}
use Rattle.lus_meaning.specs.Depends.{named_in}
use Rattle.lus_meaning.specs.Faults.{meets, same_word}

-- the table has the texts of these words
abbrev pub HasSeen : List Name → List Spelled → Type 0
HasSeen t ws = (x : Name) → named_in x t ≡ named_in x (map text_of ws)

abbrev pub twice_from_last : List Spelled → List Refused
twice_from_last [] = []
twice_from_last (w ∷ ws) = twice_from_last ws ++ meets same_word (λ w. w.at) name_twice w ws
