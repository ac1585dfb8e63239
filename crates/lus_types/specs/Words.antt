-- Words that are kept by references to them.
use Rattle.std.specs.Prelude.{◌≡◌, ◌++◌, List, map}
use Rattle.std.specs.Borrow.{Bor}
use Rattle.lus_tree.specs.declared.place.PlacedName.{PlacedName}
use Rattle.lus_tree.specs.Tree.{Spelled}
use Rattle.lus_tree.specs.View.{word_view}

abbrev pub words_view : List (Bor PlacedName) → List Spelled
words_view ws = map (λ w. word_view w.now) ws

-- the words are those before, and these behind them
abbrev pub Adds : List (Bor PlacedName) → List (Bor PlacedName) → List Spelled → Type 0
Adds old new ws = words_view new ≡ words_view old ++ ws
