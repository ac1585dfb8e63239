-- Words that are kept by references to them, and which names a table has.
use Rattle.std.specs.Prelude.{◌≡◌, ◌++◌, List, map}
use Rattle.std.specs.Borrow.{Bor}
use Rattle.lus_tree.specs.declared.place.PlacedName.{PlacedName}
use Rattle.lus_tree.specs.Tree.{Name, Spelled, text_of}
use Rattle.lus_tree.specs.View.{word_view}
use Rattle.lus_meaning.specs.Depends.{named_in}

abbrev pub words_view : List (Bor PlacedName) → List Spelled
words_view ws = map (λ w. word_view w.now) ws

-- the words are those before, and these behind them
abbrev pub Adds : List (Bor PlacedName) → List (Bor PlacedName) → List Spelled → Type 0
Adds old new ws = words_view new ≡ words_view old ++ ws

-- the table has these names
abbrev pub HasNames : List Name → List Name → Type 0
HasNames t xs = (x : Name) → named_in x t ≡ named_in x xs

-- the table has the names that it had, and these
abbrev pub AddsNames : List Name → List Name → List Name → Type 0
AddsNames old new xs = HasNames new (old ++ xs)

-- the table has the texts of these words
abbrev pub HasSeen : List Name → List Spelled → Type 0
HasSeen t ws = HasNames t (map text_of ws)
