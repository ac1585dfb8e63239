-- What each mode reads, by what all modes of the contract read.
use Rattle.std.specs.Prelude.{◌≡◌, false, List, [], ◌∷◌, ◌++◌, Some}
use Rattle.std.specs.Map.{lookup}
use Rattle.std.specs.Str.{bytes_eq}
use Rattle.lus_tree.specs.Tree.{Name, ContractStatement, assume, guarantee, ghost_variable, constant, mode, «import», Component}
use Rattle.lus_meaning.specs.Depends.{named_in}
use Rattle.way_laws.specs.OwnGraph.{Summaries, ModeReads, known_reads, asked_reads, listed_read, shared_read}

-- Of these statements, behind modes and imports of these names: a mode reads what its requires read, and a mode of an
-- import what comes back of the names that the contract's summary lists. The first mode and import of a name count.
abbrev pub ReadAsAsked : Component → Summaries → ModeReads → List Name → List Name → List ContractStatement → Type 0
ReadAsAsked n g all own imports [] = Unit {0}
ReadAsAsked n g all own imports (mode m rs es ∷ cs) =
    (named_in m.text own ≡ false → known_reads all ([], m.text) ≡ asked_reads n g all rs)
    × ReadAsAsked n g all (own ++ m.text ∷ []) imports cs
ReadAsAsked n g all own imports («import» k c as_ xs ∷ cs) =
    (named_in c.text imports ≡ false → (x : Name) (list : List Name) → lookup (bytes_eq x) (g c.text).modes ≡ Some list →
    known_reads all (c.text ∷ [], x) ≡ listed_read n g all list (g c.text).inputs as_ ++ shared_read n g list (g c.text).outputs xs)
    × ReadAsAsked n g all own (imports ++ c.text ∷ []) cs
ReadAsAsked n g all own imports (assume l ∷ cs) = ReadAsAsked n g all own imports cs
ReadAsAsked n g all own imports (guarantee l ∷ cs) = ReadAsAsked n g all own imports cs
ReadAsAsked n g all own imports (ghost_variable x e ∷ cs) = ReadAsAsked n g all own imports cs
ReadAsAsked n g all own imports (constant c ∷ cs) = ReadAsAsked n g all own imports cs
