-- Rows whose values are stale as a check begins.
use Rattle.std.specs.Prelude.{ℕ, ◌≡◌, ◌≢◌, ◌<◌, ◌≤◌, Bool, true, false, List, length, map, Contains, Some, slice_get, get_or}
use lib.IntN.{ℤ, pos}
use Rattle.int_simplex.specs.State.{places_of}
use Rattle.int_simplex.specs.Holding.{holders}
use Rattle.int_simplex.specs.Valued.{place_at, AreValues}

-- where the columns outside the basis stand
abbrev pub tops : List (ℤ × ℤ) → List ℤ
tops values = map (λ (v : ℤ × ℤ). v.0) values

-- the rows give the values, where each column outside the basis stands at its own
abbrev pub AreOwnValues : List ℕ → List (List (ℕ × ℤ)) → List (ℤ × ℤ) → Type 0
AreOwnValues basis rows values = AreValues basis rows (tops values) values

abbrev pub is_marked : List Bool → ℕ → Bool
is_marked marks k = get_or marks k false

-- the places in the list are marked, and what was marked stays so
pub record AreMarked (list : List ℕ) (old new : List Bool) : Type 0 where
  pub count : length new ≡ length old
  pub stays : (k : ℕ) → is_marked old k ≡ true → is_marked new k ≡ true
  pub comes : (k : ℕ) → Contains list k → is_marked new k ≡ true

-- of the first i columns those outside the basis stand at their places, and the rows that hold one that moved are
-- marked
pub record ArePlaced (basis : List ℕ) (lists : List (List ℕ)) (places : List ℤ) (old new : List (ℤ × ℤ)) (stale : List Bool) (i : ℕ) : Type 0 where
  pub inside : (c : ℕ) → Contains basis c → slice_get new c ≡ slice_get old c
  pub outside : (c : ℕ) → c < i → (Contains basis c → ⊥) → slice_get new c ≡ Some (place_at places c, pos 1)
  pub told : (c k : ℕ) → c < i → (Contains basis c → ⊥) → places_of old c ≢ place_at places c → Contains (holders lists c) k
      → is_marked stale k ≡ true
  pub ahead : (c : ℕ) → i ≤ c → slice_get new c ≡ slice_get old c
