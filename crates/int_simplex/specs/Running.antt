-- A run of pivots, by the fields that it changes.
use Rattle.std.specs.Prelude.{ℕ, suc, ◌≡◌, ◌≢◌, ◌<◌, ◌≤◌, Bool, true, false, cond, List, length, map, All, Contains, Option, Some, slice_get}
use lib.IntN.{ℤ, pos}
use Rattle.proof_steps.specs.Rows.{AllDiffer, entry}
use Rattle.proof_steps.specs.StopView.{past_view}
use Rattle.proof_steps.specs.Pivots.{Position, Misses, Pivots, CanPivot, exchanged, raised, lowered}
use Rattle.proof_steps.specs.Stopped.{IsPastStep}
use Rattle.int_simplex.specs.State.{Standing, plain, is_in, top_of}
use Rattle.int_simplex.specs.Given.{AreGiven}
use Rattle.int_simplex.specs.Inner.{AreRows, IsFree, AreLimits}
use Rattle.int_simplex.specs.Sound.{IsUncrossed}
use Rattle.int_simplex.specs.Farkas.{IsRefuted}
use Rattle.int_simplex.specs.Valued.{place_at, AreValues}
use Rattle.int_simplex.specs.Choosing.{bare, limit_at, on_side}
use Rattle.int_simplex.specs.Leads.{LeadsTo}
use Rattle.int_simplex.specs.declared.choosing.Exit.{Exit}
use Rattle.int_simplex.specs.declared.moving.Move.{Move}
use Rattle.int_simplex.specs.declared.moving.Move.TheVariants as m
use Rattle.int_simplex.specs.declared.run.Walked.{Walked}
use Rattle.int_simplex.specs.declared.run.Walked.TheVariants as w
use Rattle.int_simplex.specs.declared.trouble.Stopped.{Stopped}
use Rattle.int_simplex.specs.declared.trouble.Stopped.TheVariants as s

-- rows of a basis of given rows
pub record IsReady (given : List (List (ℕ × ℤ))) (columns : ℕ) (basis : List ℕ) (rows : List (List (ℕ × ℤ))) : Type 0 where
  pub given_rows : AreGiven given columns
  pub count : length basis ≡ length given
  pub different : AllDiffer basis
  pub in_range : All (λ c. c < columns) basis
  pub are_rows : AreRows given columns basis rows
  pub free : IsFree given basis

-- the tables of the bounds that stand
pub record AreTables (columns : ℕ) (bounds : List Standing) (lowers uppers : List (Option (ℤ × ℕ))) : Type 0 where
  pub lows : AreLimits columns false bounds lowers
  pub highs : AreLimits columns true bounds uppers
  pub uncrossed : IsUncrossed bounds
  pub of_columns : All (λ (b : Standing). b.column < columns) bounds

abbrev pub at : List ℕ → List ℤ → Position
at basis places = record { basis = basis; places = place_at places }

-- a leaving column and an entering one, with the entry that they cross in
pub record IsCrossing (basis : List ℕ) (rows : List (List (ℕ × ℤ))) (columns : ℕ) (l : Exit) (c : ℕ) : Type 0 where
  pub stands : slice_get basis l.at ≡ Some l.column
  pub differ : c ≢ l.column
  pub in_range : c < columns
  pub crosses : (r : List (ℕ × ℤ)) → slice_get rows l.at ≡ Some r → entry r c ≢ pos 0

pub record IsTurn (basis : List ℕ) (rows : List (List (ℕ × ℤ))) (lowers uppers : List (Option (ℤ × ℕ))) (columns : ℕ) (l : Exit) (c : ℕ) : Type 0 where
  pub crossing : IsCrossing basis rows columns l c
  pub limit : bare (on_side l.side (limit_at lowers l.column) (limit_at uppers l.column)) ≡ Some l.limit

-- what the next move is from a position
abbrev pub IsMove : List (List (ℕ × ℤ)) → ℕ → List Standing → Position → Move → Type 0
IsMove given columns bounds s m.Fits =
    (x : ℕ) (side : Bool) (limit : ℤ) (ms : List ℤ) → Misses given columns (map plain bounds) s x side limit ms → ⊥
IsMove given columns bounds s (m.Refuted f) =
    IsRefuted given columns bounds f.parts.items × ((t : Position) → Pivots given columns (map plain bounds) s t → ⊥)
IsMove given columns bounds s (m.Pivot l c) =
    (t : Position) → t.basis ≡ map (exchanged l.column c) s.basis → t.places l.column ≡ l.limit
    → ((k : ℕ) → k ≢ l.column → t.places k ≡ s.places k) → Pivots given columns (map plain bounds) s t

abbrev pub IsTurnOf : List ℕ → List (List (ℕ × ℤ)) → List (Option (ℤ × ℕ)) → List (Option (ℤ × ℕ)) → ℕ → Move → Type 0
IsTurnOf basis rows lowers uppers columns m.Fits = Unit
IsTurnOf basis rows lowers uppers columns (m.Refuted f) = Unit
IsTurnOf basis rows lowers uppers columns (m.Pivot l c) = IsTurn basis rows lowers uppers columns l c

-- by what numbers of kept rows are multiplied: places other than 0, and limits
abbrev pub ArePlacesOf : List ℤ → List ℤ → Type 0
ArePlacesOf numbers places = (c : ℕ) → place_at places c ≢ pos 0 → Contains numbers (place_at places c)

abbrev pub AreLimitsOf : List ℤ → List (Option (ℤ × ℕ)) → List (Option (ℤ × ℕ)) → Type 0
AreLimitsOf numbers lowers uppers =
    (side : Bool) (c : ℕ) (z : ℤ) → bare (on_side side (limit_at lowers c) (limit_at uppers c)) ≡ Some z → Contains numbers z

abbrev pub IsStopped : List (List (ℕ × ℤ)) → ℕ → List ℤ → Stopped → Type 0
IsStopped given columns numbers s.Memory = Unit
IsStopped given columns numbers (s.Past step) = IsPastStep given columns (Contains numbers) (past_view step)

-- the position after some pivots, and its values
pub record IsReached (given : List (List (ℕ × ℤ))) (columns : ℕ) (bounds : List Standing) (budget : ℕ) (start : Position)
    (basis : List ℕ) (places : List ℤ) : Type 0 where
  pub made : ℕ
  pub within : made ≤ budget
  pub leads : LeadsTo given columns (map plain bounds) made start (at basis places)

abbrev pub IsWalked : List (List (ℕ × ℤ)) → ℕ → List Standing → ℕ → Position → List ℕ → List ℤ → Walked → Type 0
IsWalked given columns bounds budget start basis places w.Fits =
    IsReached given columns bounds budget start basis places × IsMove given columns bounds (at basis places) m.Fits
IsWalked given columns bounds budget start basis places (w.Refuted f) =
    IsReached given columns bounds budget start basis places × IsMove given columns bounds (at basis places) (m.Refuted f)
IsWalked given columns bounds budget start basis places w.Long = CanPivot given columns (map plain bounds) (suc budget) start

-- what a move leaves
pub record IsKept (given : List (List (ℕ × ℤ))) (columns : ℕ) (basis : List ℕ) (rows : List (List (ℕ × ℤ))) (places : List ℤ)
    (values : List (ℤ × ℤ)) : Type 0 where
  pub ready : IsReady given columns basis rows
  pub width : length places ≡ columns
  pub are_values : AreValues basis rows places values

abbrev pub IsAnswer : Walked → Type 0
IsAnswer w.Fits = Unit
IsAnswer (w.Refuted f) = Unit
IsAnswer w.Long = ⊥

-- where the columns stand as a check begins
abbrev pub start_place : List ℕ → List (ℤ × ℤ) → ℕ → ℤ
start_place basis values c = cond (is_in basis c) (pos 0) (top_of (slice_get values c))

pub record AreFirst (basis : List ℕ) (values : List (ℤ × ℤ)) (lowers uppers : List (Option (ℤ × ℕ))) (places : List ℤ) : Type 0 where
  pub count : length places ≡ length values
  pub each : (c : ℕ) → c < length values
      → place_at places c ≡ lowered (bare (limit_at uppers c)) (raised (bare (limit_at lowers c)) (start_place basis values c))
