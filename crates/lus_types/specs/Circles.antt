-- What is known of a program's graph of declarations.
use Rattle.std.specs.Prelude.{◌≡◌, ℕ, Bool, false, true, ◌<◌, List, [], map, length}
use Rattle.lus_tree.specs.Tree.{Program}
use Rattle.lus_meaning.specs.ClockFaults.{components}
use Rattle.lus_types.specs.declared.recursion.Graph.{Graph}
use Rattle.lus_types.specs.Marks.{Row, Spreads, has_open, is_marked, row_view}
use Rattle.lus_types.specs.Called.{names_behind, row_of}

-- its rows are those of the declarations
pub record IsGraph (p : Program) (g : Graph) : Type 0 where
  pub rows : map row_view g.rows.items ≡ map (row_of p (names_behind [] p)) (components p)
  pub count : g.count ≡ length (names_behind [] p)

-- as many numbers, of which that one is marked and no other
pub record IsOne (count number : ℕ) (marks : List Bool) : Type 0 where
  pub length : length marks ≡ count
  pub here : number < count → is_marked marks number ≡ true
  pub only : (j : ℕ) → is_marked marks j ≡ true → j ≡ number

-- the numbers that lead to one
pub record IsLeading (rs : List Row) (count number : ℕ) (marks : List Bool) : Type 0 where
  pub length : length marks ≡ count
  pub here : number < count → is_marked marks number ≡ true
  pub settled : has_open marks rs ≡ false
  pub least : (start : List Bool) × IsOne count number start × Spreads rs start marks
