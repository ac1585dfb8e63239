-- Rows of numbers that stand for lists of names.
use Rattle.std.specs.Prelude.{◌≡◌, ℕ, ◌<◌, true, List, [], length, get_or}
use Rattle.lus_tree.specs.Tree.{Name}
use Rattle.lus_meaning.specs.Depends.{named_in}
use Rattle.lus_meaning.specs.Order.{is_listed}

-- of those names that have a number the row has exactly those that the list has
pub record Stands (names : List Name) (row : List ℕ) (ys : List Name) : Type 0 where
  pub below : (j : ℕ) → is_listed row j ≡ true → j < length names
  pub listed : (j : ℕ) → is_listed row j ≡ true → named_in (get_or names j []) ys ≡ true
  pub whole : (j : ℕ) → j < length names → named_in (get_or names j []) ys ≡ true → is_listed row j ≡ true
