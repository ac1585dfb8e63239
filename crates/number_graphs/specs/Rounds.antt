-- Numbers that are listed, and the entries of rows that are passed.
use Rattle.std.specs.Prelude.{◌≡◌, ℕ, ◌<◌, Bool, true, false, not, ◌&&◌, List, length, get_or, take}
use Rattle.std.specs.List.{list_all}
use Rattle.number_graphs.specs.Graphs.{Rows, row_at}

-- whether a number is listed; one past the end counts as listed
abbrev pub is_done : List Bool → ℕ → Bool
is_done done j = get_or done j true

abbrev pub are_done : List Bool → List ℕ → Bool
are_done done js = list_all (is_done done) js

-- not listed, and all that it leads to is
abbrev pub is_open : Rows → List Bool → ℕ → Bool
is_open rows done k = not (is_done done k) && are_done done (row_at rows k)

-- for each row a place before which all is listed
pub record ArePassed (rows : Rows) (done : List Bool) (passed : List ℕ) : Type 0 where
  pub whole : length passed ≡ length rows
  pub listed : (k : ℕ) → k < length rows → are_done done (take (get_or passed k 0) (row_at rows k)) ≡ true

-- the place in a row before which all is listed, and at which nothing listed stands
pub record IsPassed (done : List Bool) (row : List ℕ) (place : ℕ) : Type 0 where
  pub listed : are_done done (take place row) ≡ true
  pub stops : place < length row → is_done done (get_or row place 0) ≡ false
