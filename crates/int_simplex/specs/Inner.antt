-- The fields of a tableau.
use Prim.Native.Nat.{◌∣◌}
use Rattle.std.specs.Prelude.{ℕ, ◌≡◌, ◌≢◌, ◌<◌, Bool, true, false, List, map, length, take, Option, Some, slice_get, Contains, All, unsigned_abs}
use lib.IntN.{ℤ, pos, neg_ℤ}
use Rattle.proof_steps.specs.View.{row_view}
use Rattle.proof_steps.specs.Rows.{entry, combined}
use Rattle.int_simplex.specs.declared.table.Asserted.{Asserted}
use Rattle.int_simplex.specs.declared.table.Tableau.TheInside.{Inside}
use Rattle.int_simplex.specs.State.{Standing, State}
use Rattle.int_simplex.specs.Bounds.{tightest}
use Rattle.int_simplex.specs.Given.{last_column}
use Rattle.int_simplex.specs.Sparse.{IsSparse}
use Rattle.int_simplex.specs.Sound.{IsSound}
use Rattle.int_simplex.specs.Holding.{lists_of, AreListed}
use Rattle.int_simplex.specs.Seating.{AreSeats}
use Rattle.int_simplex.specs.Marks.{AreOwnValues}

abbrev pub standing : Asserted → Standing
standing a = record { column = a.column; upper = a.upper; limit = a.limit; literal = a.literal }

abbrev pub state_of : Inside → State
state_of i = record {
  given = map row_view i.given.items;
  columns = i.columns;
  basis = i.basis.items;
  values = i.values.items;
  bounds = map standing i.trail.items;
  usable = i.usable;
}

-- the multipliers of a whole combination of the given rows, by its entries in their last columns
abbrev pub read_off : (ℕ → ℤ) → List (List (ℕ × ℤ)) → List ℤ
read_off e rows = map (λ r. neg_ℤ (e (last_column r))) rows

abbrev pub IsCombination : List (List (ℕ × ℤ)) → (ℕ → ℤ) → Type 0
IsCombination given e = (c : ℕ) → e c ≡ combined (read_off e given) given c

-- the entries of the row of x in the basis
pub record IsRowAt (given : List (List (ℕ × ℤ))) (basis : List ℕ) (x : ℕ) (e : ℕ → ℤ) : Type 0 where
  pub combination : IsCombination given e
  pub has_entry : e x ≢ pos 0
  pub alone : (b : ℕ) → Contains basis b → b ≢ x → e b ≡ pos 0
  pub coprime : (d : ℕ) → ((c : ℕ) → d ∣ unsigned_abs (e c)) → d ≡ 1

-- a combination without an entry in the basis is 0
abbrev pub IsFree : List (List (ℕ × ℤ)) → List ℕ → Type 0
IsFree given basis = (e : ℕ → ℤ) → IsCombination given e → ((b : ℕ) → Contains basis b → e b ≡ pos 0) → (c : ℕ) → e c ≡ pos 0

-- sparse rows, each of the column of the basis at the same place
pub record AreRows (given : List (List (ℕ × ℤ))) (columns : ℕ) (basis : List ℕ) (rows : List (List (ℕ × ℤ))) : Type 0 where
  pub count : length rows ≡ length basis
  pub sparse : (k : ℕ) (r : List (ℕ × ℤ)) → slice_get rows k ≡ Some r → IsSparse columns r
  pub each : (k x : ℕ) (r : List (ℕ × ℤ)) → slice_get basis k ≡ Some x → slice_get rows k ≡ Some r → IsRowAt given basis x (entry r)

-- the tightest limits of each column
pub record AreLimits (columns : ℕ) (side : Bool) (bounds : List Standing) (limits : List (Option (ℤ × ℕ))) : Type 0 where
  pub count : length limits ≡ columns
  pub each : (c : ℕ) → c < columns → slice_get limits c ≡ Some (tightest bounds c side)

-- what is kept with a bound is the limit that counted before it came
abbrev pub AreBefore : List Asserted → Type 0
AreBefore trail = (k : ℕ) (a : Asserted) → slice_get trail k ≡ Some a
    → a.before ≡ tightest (map standing (take k trail)) a.column a.upper

abbrev pub IsWithinColumns : ℕ → List Asserted → Type 0
IsWithinColumns columns trail = All (λ (a : Asserted). a.column < columns) trail

pub record IsInner (i : Inside) : Type 0 where
  pub sound : i.usable ≡ true → IsSound (state_of i)
  pub rows : i.usable ≡ true → AreRows (map row_view i.given.items) i.columns i.basis.items (map row_view i.rows.items)
  pub free : i.usable ≡ true → IsFree (map row_view i.given.items) i.basis.items
  pub listed : i.usable ≡ true → AreListed i.columns (map row_view i.rows.items) (lists_of i.lists.items)
  pub seats : i.usable ≡ true → AreSeats i.columns i.basis.items i.seats.items
  pub own : i.usable ≡ true → AreOwnValues i.basis.items (map row_view i.rows.items) i.values.items
  pub lowers : AreLimits i.columns false (map standing i.trail.items) i.lowers.items
  pub uppers : AreLimits i.columns true (map standing i.trail.items) i.uppers.items
  pub before : AreBefore i.trail.items
  pub columns : IsWithinColumns i.columns i.trail.items
