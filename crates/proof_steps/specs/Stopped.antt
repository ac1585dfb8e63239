-- When a stop is true of a query in clause form.
use Rattle.std.specs.Prelude.{ℕ, suc, ◌≡◌, ◌≢◌, ◌⊎◌, ◌<◌, Bool, true, false, List, [], ◌∷◌, ◌++◌, length, map, Some, All, Contains, slice_get}
use lib.IntN.{ℤ, pos, ◌+ℤ◌, ◌-ℤ◌, ◌*ℤ◌, neg_ℤ}
use Rattle.kind_num.specs.declared.Shape.TheVariants as k
use Rattle.kind_num.specs.declared.Op.{Op}
use Rattle.kind_num.specs.declared.Op.TheVariants.{Add, Sub, Mul, Div}
use Rattle.kind_num.specs.Exact.{within}
use Rattle.proof_steps.specs.declared.Literal.{Literal}
use Rattle.proof_steps.specs.declared.Literal.TheVariants as l
use Rattle.proof_steps.specs.declared.stops.Budgets.{Budgets}
use Rattle.proof_steps.specs.View.{Inequality}
use Rattle.proof_steps.specs.StopView.{Halt, conflicts, splits, pivots, past, Beginning, Operation}
use Rattle.proof_steps.specs.Meaning.{Values, Solves, clause_true, opposite}
use Rattle.proof_steps.specs.Rows.{Form, IsRow, IsBasis, AllDiffer, combined, entry, rows_of, columns_of}
use Rattle.proof_steps.specs.Bounds.{Bound, IsBound, atoms_with}
use Rattle.proof_steps.specs.Splits.{AreSplits}
use Rattle.proof_steps.specs.Pivots.{CanPivot, first_position, ArePlaces}

-- a literal over the flags of the query, its atoms and those of the splits
abbrev pub IsOver : Form → List (ℕ × ℤ) → Literal → Type 0
IsOver f pairs (l.Flag n b) = slice_get f.shapes n ≡ Some k.Flag
IsOver f pairs (l.Atom n b) = (0 < n) × (n < suc (length (atoms_with f pairs)))

-- one clause has all literals of the other
abbrev pub Includes : List Literal → List Literal → Type 0
Includes clause other = All (λ m. Contains clause m) other

-- a clause that says something new: it follows from the query, and no known clause is a part of it
pub record IsLearnt (f : Form) (pairs : List (ℕ × ℤ)) (known : List (List Literal)) (clause : List Literal) : Type 0 where
  pub over : All (IsOver f pairs) clause
  pub follows : (v : Values) → Solves f.atoms v f.clauses → clause_true (atoms_with f pairs) v clause ≡ true
  pub literals : clause ≢ []
  pub no_opposites : All (λ m. ¬ Contains clause (opposite m)) clause
  pub fresh : All (λ other. ¬ Includes clause other) known

abbrev pub AreLearnt : Form → List (ℕ × ℤ) → List (List Literal) → List (List Literal) → Type 0
AreLearnt f pairs known [] = Unit
AreLearnt f pairs known (c ∷ rest) = IsLearnt f pairs known c × AreLearnt f pairs (known ++ c ∷ []) rest

abbrev pub bound_view : ℕ × Bool × ℤ → Bound
bound_view (c, side, z) = record { column = c; upper = side; limit = z }

-- from this start Bland's rule makes more pivots than the budget
pub record IsLong (f : Form) (pairs : List (ℕ × ℤ)) (start : Beginning) : Type 0 where
  pub is_basis : IsBasis (rows_of f) (columns_of f) start.basis
  pub bounds : All (λ b. IsBound f pairs (bound_view b)) start.bounds
  pub places : ArePlaces (columns_of f) start
  pub more : CanPivot (rows_of f) (columns_of f) start.bounds (suc start.pivots) (first_position start)

-- a kept row with its multipliers: the row of some column in some basis, each column listed once
pub record Row : Type 0 where
  pub entries : List (ℕ × ℤ)
  pub multipliers : List ℤ

abbrev pub IsRowOf : List (List (ℕ × ℤ)) → ℕ → Row → Type 0
IsRowOf given columns r =
    AllDiffer (map (λ (t : ℕ × ℤ). t.0) r.entries)
    × (basis : List ℕ) × (x : ℕ) × IsBasis given columns basis × IsRow given basis x r.multipliers
    × ((c : ℕ) → entry r.entries c ≡ combined r.multipliers given c)

-- the entries of a row, and its multipliers
abbrev pub numbers : Row → List ℤ
numbers r = map (λ (t : ℕ × ℤ). t.1) r.entries ++ r.multipliers

abbrev pub IsCoefficient : Form → ℤ → Type 0
IsCoefficient f z = (i : Inequality) × Contains f.atoms i × Contains (map (λ (t : ℕ × ℤ). t.1) i.terms) z

abbrev pub IsLimit : Form → ℤ → Type 0
IsLimit f z = (b : Bound) × IsBound f [] b × (b.limit ≡ z)

abbrev pub IsSplitEnd : List (ℕ × ℤ) → ℤ → Type 0
IsSplitEnd pairs z = (x : ℕ) × (Contains pairs (x, z) ⊎ Contains pairs (x, z -ℤ pos 1))

abbrev pub IsOfOther : List Row → ℕ → ℤ → Type 0
IsOfOther rows i z = (j : ℕ) × (r : Row) × (j ≢ i) × (slice_get rows j ≡ Some r) × Contains (numbers r) z

-- by what a number of a kept row of the query is multiplied, beside the numbers of other kept rows:
-- an atom's coefficient, a bound of the query's literals, or an end of a split
abbrev pub IsNumberOf : Form → List (ℕ × ℤ) → ℤ → Type 0
IsNumberOf f pairs z = IsCoefficient f z ⊎ (IsLimit f z ⊎ IsSplitEnd pairs z)

-- by what a number of row i is multiplied: a number of another kept row, or one of the others
abbrev pub IsFactor : (ℤ → Type 0) → List Row → ℕ → ℤ → Type 0
IsFactor others rows i z = IsOfOther rows i z ⊎ others z

-- a product in a sum over one row: which of its numbers, its factor, and whether it is taken away
pub record Product : Type 0 where
  pub place : ℕ
  pub number : ℤ
  pub factor : ℤ
  pub negative : Bool

pub record IsProduct (others : ℤ → Type 0) (rows : List Row) (i : ℕ) (r : Row) (p : Product) : Type 0 where
  pub of_row : slice_get (numbers r) p.place ≡ Some p.number
  pub by_factor : IsFactor others rows i p.factor

abbrev pub signed : Bool → ℤ → ℤ
signed true z = neg_ℤ z
signed false z = z

abbrev pub total : List Product → ℤ
total [] = pos 0
total (p ∷ rest) = signed p.negative (p.number *ℤ p.factor) +ℤ total rest

abbrev pub HasOperands : ℤ → ℤ → ℤ → ℤ → Type 0
HasOperands left right x y = ((left ≡ x) × (right ≡ y)) ⊎ ((left ≡ y) × (right ≡ x))

-- the operands are those of a product, or two sums of products over one row
abbrev pub AreOperands : (ℤ → Type 0) → List Row → ℕ → Row → Op → ℤ → ℤ → Type 0
AreOperands others rows i r Mul left right =
    (p : Product) × IsProduct others rows i r p × HasOperands left right p.number p.factor
AreOperands others rows i r Add left right =
    (ps : List Product) × (qs : List Product) × All (IsProduct others rows i r) (ps ++ qs)
    × AllDiffer (map (λ (p : Product). p.place) (ps ++ qs)) × (left ≡ total ps) × (right ≡ total qs)
AreOperands others rows i r Sub left right =
    (ps : List Product) × (qs : List Product) × All (IsProduct others rows i r) (ps ++ qs)
    × AllDiffer (map (λ (p : Product). p.place) (ps ++ qs)) × (left ≡ total ps) × (right ≡ total qs)
AreOperands others rows i r Div left right = ⊥

abbrev pub result_of : Op → ℤ → ℤ → ℤ
result_of Add x y = x +ℤ y
result_of Sub x y = x -ℤ y
result_of Mul x y = x *ℤ y
result_of Div x y = pos 0

-- an operation over kept rows is outside 128 bits; their numbers are multiplied by one another, and
-- by the others
pub record IsPastStep (given : List (List (ℕ × ℤ))) (columns : ℕ) (others : ℤ → Type 0) (step : Operation) : Type 0 where
  pub rows : List Row
  pub kept : map (λ (r : Row). r.entries) rows ≡ step.rows
  pub are_rows : All (IsRowOf given columns) rows
  pub place : ℕ
  pub row : Row
  pub is_row : slice_get rows place ≡ Some row
  pub operands : AreOperands others rows place row step.past.op step.past.left step.past.right
  pub outside : within (result_of step.past.op step.past.left step.past.right) ≡ false

-- the stop is true of the query with these budgets
abbrev pub IsTrueOf : Form → Budgets → Halt → Type 0
IsTrueOf f budgets (conflicts clauses pairs) =
    AreSplits f pairs × (length clauses ≡ budgets.conflicts) × AreLearnt f pairs f.clauses clauses
IsTrueOf f budgets (splits pairs) = AreSplits f pairs × (length pairs ≡ budgets.splits)
IsTrueOf f budgets (pivots start pairs) =
    AreSplits f pairs × (start.pivots ≡ budgets.pivots) × IsLong f pairs start
IsTrueOf f budgets (past step pairs) =
    AreSplits f pairs × IsPastStep (rows_of f) (columns_of f) (IsNumberOf f pairs) step
