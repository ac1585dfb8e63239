-- For each column the places of the rows that hold it.
use Rattle.std.specs.Prelude.{ℕ, ◌≡◌, ◌≢◌, ◌⊎◌, ◌<◌, ◌++◌, ◌∷◌, List, [], length, map, Some, Contains, slice_get, get_or}
use Rattle.std.specs.declared.vec.Vec.{Vec}
use Rattle.std.specs.declared.alloc.Global.{Global}
use lib.IntN.{ℤ, pos}
use Rattle.proof_steps.specs.Rows.{entry}

abbrev pub lists_of : List (Vec ℕ Global) → List (List ℕ)
lists_of lists = map (λ (v : Vec ℕ Global). v.items) lists

-- the places that the column lists
abbrev pub holders : List (List ℕ) → ℕ → List ℕ
holders lists c = get_or lists c []

-- each column in which the row at the place k has an entry lists it
abbrev pub IsHeld : List (List ℕ) → ℕ → List (ℕ × ℤ) → Type 0
IsHeld lists k row = (c : ℕ) → entry row c ≢ pos 0 → Contains (holders lists c) k

-- no other place than k goes, and none but k comes
pub record IsOnly (k : ℕ) (old new : List (List ℕ)) : Type 0 where
  pub count : length new ≡ length old
  pub stays : (c j : ℕ) → j ≢ k → Contains (holders old c) j → Contains (holders new c) j
  pub comes : (c j : ℕ) → Contains (holders new c) j → (j ≡ k) ⊎ Contains (holders old c) j

-- a place is put behind the column's list
pub record IsPut (column k : ℕ) (old new : List (List ℕ)) : Type 0 where
  pub count : length new ≡ length old
  pub here : holders new column ≡ holders old column ++ k ∷ []
  pub elsewhere : (c : ℕ) → c ≢ column → holders new c ≡ holders old c

-- a place is taken out of the column's list
pub record IsTaken (column k : ℕ) (old new : List (List ℕ)) : Type 0 where
  pub count : length new ≡ length old
  pub stays : (j : ℕ) → j ≢ k → Contains (holders old column) j → Contains (holders new column) j
  pub left : (j : ℕ) → Contains (holders new column) j → Contains (holders old column) j
  pub elsewhere : (c : ℕ) → c ≢ column → holders new c ≡ holders old c

-- in this one column the number was one and is another
pub record IsNoted (column k : ℕ) (was now : ℤ) (old new : List (List ℕ)) : Type 0 where
  pub only : IsOnly k old new
  pub elsewhere : (c : ℕ) → c ≢ column → holders new c ≡ holders old c
  pub here : now ≢ pos 0 → (was ≢ pos 0 → Contains (holders old column) k) → Contains (holders new column) k

pub record AreEmpty (n : ℕ) (lists : List (List ℕ)) : Type 0 where
  pub count : length lists ≡ n
  pub none : (c : ℕ) → holders lists c ≡ []

-- each row is listed in the columns that it holds, and what is listed are places of rows
pub record AreListed (n : ℕ) (rows : List (List (ℕ × ℤ))) (lists : List (List ℕ)) : Type 0 where
  pub count : length lists ≡ n
  pub held : (k : ℕ) (r : List (ℕ × ℤ)) → slice_get rows k ≡ Some r → IsHeld lists k r
  pub within : (c k : ℕ) → Contains (holders lists c) k → k < length rows
