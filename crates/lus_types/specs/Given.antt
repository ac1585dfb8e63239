-- The outputs, and the ghost variables that read one at their own instant.
use Rattle.std.specs.Prelude.{◌≡◌, ℕ, Bool, false, List, [], map, length}
use Rattle.lus_tree.specs.Tree.{Name, Variable}
use Rattle.lus_types.specs.Marks.{Spreads, has_open, is_marked}
use Rattle.lus_types.specs.Reads.{Reading, added, names_read, reading_row, seeded}

abbrev pub output_names : List Variable → List Name
output_names vs = map (λ v. v.name.text) vs

-- by their numbers those names are marked that lead to outputs
pub record IsGiven (outs : List Name) (rs : List Reading) (t : List Name) (marks : List Bool) : Type 0 where
  pub names : t ≡ added (added [] outs) (names_read rs)
  pub start : List Bool
  pub length : length start ≡ length t
  pub none : (j : ℕ) → is_marked start j ≡ false
  pub settled : has_open marks (map (reading_row t) rs) ≡ false
  pub spread : Spreads (map (reading_row t) rs) (seeded t start outs) marks
