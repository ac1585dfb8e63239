-- A graph of numbers that stands for edges between names.
use Rattle.std.specs.Prelude.{◌≡◌, ◌↔◌, ℕ, ◌<◌, ◌≤◌, true, false, List, [], length, get_or}
use Rattle.lus_tree.specs.Tree.{Name}
use Rattle.lus_meaning.specs.Depends.{named_in}
use Rattle.way_laws.specs.OwnGraph.{Edges, Finds}
use Rattle.number_graphs.specs.Graphs.{Rows, leads, LeadsTo}

abbrev pub name_at : List Name → ℕ → Name
name_at names i = get_or names i []

-- The first numbers are those of the names; the others stand for lists of names that are read, as equations and modes do.
-- Each number has the list of names that it reads.
pub record IsNumbered (edges : Edges) (names : List Name) (list : ℕ → List Name) (rows : Rows) : Type 0 where
  pub within : length names ≤ length rows
  -- a name reads those to which its edges lead, and one without a number none
  pub own : (i : ℕ) → i < length names → (y : Name) → named_in y (list i) ≡ named_in y (edges (name_at names i))
  pub outside : (x : Name) → named_in x names ≡ false → (y : Name) → named_in y (edges x) ≡ false
  -- a number leads by one step to names that it reads, and to others whose names it reads too
  pub to_name : (v w : ℕ) → v < length rows → w < length names → leads rows v w ≡ true → named_in (name_at names w) (list v) ≡ true
  pub to_other : (v w : ℕ) → v < length rows → length names ≤ w → w < length rows → leads rows v w ≡ true
      → (y : Name) → named_in y (list w) ≡ true → named_in y (list v) ≡ true
  -- it leads to each name that it reads
  pub found : (v j : ℕ) → v < length rows → j < length names → named_in (name_at names j) (list v) ≡ true → LeadsTo rows v j

-- a number leads to a name exactly where a way along edges leads there from one that it reads
abbrev pub WaysAreNumbered : Type 0
WaysAreNumbered =
    (edges : Edges) (names : List Name) (list : ℕ → List Name) (rows : Rows) → IsNumbered edges names list rows
    → (v j : ℕ) → v < length rows → j < length names → LeadsTo rows v j ↔ Finds edges (list v) (name_at names j)
