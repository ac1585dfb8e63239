-- Values that rows give.
use Rattle.std.specs.Prelude.{ℕ, ◌≡◌, ◌≢◌, ◌⊎◌, ◌==◌, false, cond, List, [], ◌∷◌, length, take, Option, Some, None, slice_get, Contains}
use lib.IntN.{ℤ, pos, ◌+ℤ◌, ◌-ℤ◌, ◌*ℤ◌}
use Rattle.kind_num.specs.Exact.{within}
use Rattle.kind_num.specs.declared.Past.{Past}
use Rattle.kind_num.specs.declared.Op.TheVariants.{Add, Sub, Mul}
use Rattle.proof_steps.specs.Rows.{entry, rest_below}
use Rattle.proof_steps.specs.StopView.{past_view}
use Rattle.int_simplex.specs.Points.{IsFraction}
use Rattle.int_simplex.specs.declared.trouble.Stopped.{Stopped}
use Rattle.int_simplex.specs.declared.trouble.Stopped.TheVariants as s

abbrev pub place_of : Option ℤ → ℤ
place_of None = pos 0
place_of (Some z) = z

abbrev pub place_at : List ℤ → ℕ → ℤ
place_at places c = place_of (slice_get places c)

-- the sum of the row's columns but x, each at its place
abbrev pub rest_in : ℕ → (ℕ → ℤ) → List (ℕ × ℤ) → ℤ
rest_in x places [] = pos 0
rest_in x places (t ∷ row) = cond (t.0 == x) (rest_in x places row) (t.1 *ℤ places t.0 +ℤ rest_in x places row)

-- rest + own * v is 0
abbrev pub IsQuotient : ℤ → ℤ → ℤ × ℤ → Type 0
IsQuotient rest own v = own ≢ pos 0 → (rest *ℤ v.1) +ℤ (own *ℤ v.0) ≡ pos 0

-- a number is outside: a product of a term with its place, or its sum with those of the terms before
pub record IsTermPast (x : ℕ) (places : ℕ → ℤ) (t : ℕ × ℤ) (sum : ℤ) (past : Past) : Type 0 where
  pub other : t.0 ≢ x
  pub placed : places t.0 ≢ pos 0
  pub operands : ((past ≡ record { op = Mul; left = t.1; right = places t.0 }) × (within (t.1 *ℤ places t.0) ≡ false))
      ⊎ ((past ≡ record { op = Add; left = t.1 *ℤ places t.0; right = sum }) × (within (t.1 *ℤ places t.0 +ℤ sum) ≡ false))

abbrev pub IsRestPast : ℕ → (ℕ → ℤ) → List (ℕ × ℤ) → Past → Type 0
IsRestPast x places row past =
    (k : ℕ) × (t : ℕ × ℤ) × (slice_get row k ≡ Some t) × IsTermPast x places t (rest_in x places (take k row)) past

-- the opposite of z is outside
abbrev pub IsOpposedPast : ℤ → Past → Type 0
IsOpposedPast z past = (past ≡ record { op = Sub; left = pos 0; right = z }) × (within (pos 0 -ℤ z) ≡ false)

-- a number of the value is outside
abbrev pub IsValuePast : ℕ → (ℕ → ℤ) → List (ℕ × ℤ) → Past → Type 0
IsValuePast x places row past =
    IsRestPast x places row past ⊎ (IsOpposedPast (entry row x) past ⊎ IsOpposedPast (rest_in x places row) past)

-- the value of x by its row
pub record IsRowValue (n x : ℕ) (places : ℕ → ℤ) (row : List (ℕ × ℤ)) (v : ℤ × ℤ) : Type 0 where
  pub fraction : IsFraction v
  pub quotient : IsQuotient (rest_below (entry row) places x n) (entry row x) v

-- the values of all columns: those outside the basis stand at their places
pub record AreValues (basis : List ℕ) (rows : List (List (ℕ × ℤ))) (places : List ℤ) (values : List (ℤ × ℤ)) : Type 0 where
  pub count : length values ≡ length places
  pub outside : (c : ℕ) (z : ℤ) → (Contains basis c → ⊥) → slice_get places c ≡ Some z → slice_get values c ≡ Some (z, pos 1)
  pub inside : (k x : ℕ) (r : List (ℕ × ℤ)) → slice_get basis k ≡ Some x → slice_get rows k ≡ Some r
      → (v : ℤ × ℤ) × (slice_get values x ≡ Some v) × IsRowValue (length places) x (place_at places) r v

-- the same but for the rows at these places
pub record AreValuesBut (basis : List ℕ) (rows : List (List (ℕ × ℤ))) (places : List ℤ) (values : List (ℤ × ℤ)) (touched : List ℕ) : Type 0 where
  pub count : length values ≡ length places
  pub outside : (c : ℕ) (z : ℤ) → (Contains basis c → ⊥) → slice_get places c ≡ Some z → slice_get values c ≡ Some (z, pos 1)
  pub inside : (k x : ℕ) (r : List (ℕ × ℤ)) → (Contains touched k → ⊥) → slice_get basis k ≡ Some x → slice_get rows k ≡ Some r
      → (v : ℤ × ℤ) × (slice_get values x ≡ Some v) × IsRowValue (length places) x (place_at places) r v

-- the operation is one over a row and the first given row
abbrev pub IsValuesPast : List (List (ℕ × ℤ)) → List ℕ → List (List (ℕ × ℤ)) → (ℕ → ℤ) → Stopped → Type 0
IsValuesPast given basis rows places s.Memory = Unit
IsValuesPast given basis rows places (s.Past step) =
    (k : ℕ) × (x : ℕ) × (row : List (ℕ × ℤ)) × (g : List (ℕ × ℤ)) × (past : Past) × (slice_get basis k ≡ Some x)
    × (slice_get rows k ≡ Some row) × (slice_get given 0 ≡ Some g)
    × (past_view step ≡ record { rows = row ∷ g ∷ []; past = past }) × IsValuePast x places row past
