-- Cuts of rows (R. E. Gomory, Outline of an algorithm for integer solutions to linear programs, 1958).
use Rattle.std.specs.Prelude.{ℕ, ◌≡◌, ◌≢◌, ◌⊎◌, ◌<◌, Bool, false, List, ◌++◌, map, All, Contains, Some, slice_get, unsigned_abs}
use Rattle.std.specs.Int.{int_div_euclid, int_rem_euclid}
use lib.IntN.{ℤ, pos, ◌+ℤ◌, ◌*ℤ◌, neg_ℤ}
use lib.Signed.{◌≤ℤ◌, ◌<ℤ◌}
use Rattle.kind_num.specs.Exact.{within}
use Rattle.kind_num.specs.declared.Past.{Past}
use Rattle.kind_num.specs.declared.Op.{Op}
use Rattle.kind_num.specs.declared.Op.TheVariants.{Add, Sub, Mul, Div}
use Rattle.proof_steps.specs.declared.Source.{Source}
use Rattle.proof_steps.specs.declared.Source.TheVariants.{Literal}
use Rattle.proof_steps.specs.View.{Inequality, Sum, atom_view, line_view}
use Rattle.proof_steps.specs.Meaning.{sum_of, as_said}
use Rattle.proof_steps.specs.Rows.{entry, combined, AllDiffer}
use Rattle.proof_steps.specs.Stopped.{Product, total, HasOperands, result_of}
use Rattle.int_simplex.specs.State.{Standing, State}
use Rattle.int_simplex.specs.Bounds.{tightest}
use Rattle.int_simplex.specs.Given.{last_column, last_columns, IsInOrder, HasNoZero}
use Rattle.int_simplex.specs.Points.{Point, HasValues}
use Rattle.int_simplex.specs.Farkas.{turned, weight, limits}
use Rattle.int_simplex.specs.Sound.{IsRowIn}
use Rattle.int_cuts.specs.Splits.{IsWhole, IsFirstBroken}
use Rattle.int_cuts.specs.declared.cuts.CutAnswer.{CutAnswer}
use Rattle.int_cuts.specs.declared.cuts.CutAnswer.TheVariants as a

-- the column stands at the limit that counts on one of its sides
abbrev pub IsAtBound : State → ℕ → Type 0
IsAtBound s c =
    (side : Bool) × (b : ℤ × ℕ) × (tightest s.bounds c side ≡ Some b) × (slice_get s.values c ≡ Some (b.0, pos 1))

-- each other column of the row does
abbrev pub NoneLoose : State → ℕ → List (ℕ × ℤ) → Type 0
NoneLoose s x row = (c : ℕ) → c ≢ x → entry row c ≢ pos 0 → IsAtBound s c

-- the least other column of the row that does not
pub record IsLoose (s : State) (x c : ℕ) : Type 0 where
  pub row : List (ℕ × ℤ)
  pub is_row : IsRowIn s.given s.basis x row
  pub other : c ≢ x
  pub has_entry : entry row c ≢ pos 0
  pub loose : ¬ IsAtBound s c
  pub first : (k : ℕ) → k < c → k ≢ x → entry row k ≢ pos 0 → IsAtBound s k

abbrev pub column_in : Standing → ℕ
column_in b = b.column

abbrev pub source_of : Standing → Source
source_of b = Literal b.literal

abbrev pub sources_in : Sum → List Source
sources_in line = map (λ (p : ℤ × Source). p.1) line.parts

abbrev pub multipliers_in : Sum → List ℤ
multipliers_in line = map (λ (p : ℤ × Source). p.0) line.parts

-- what a bound takes from the number (a lower one) or adds to it (an upper one) to come to a multiple of d
abbrev pub remainder : ℤ → Bool → ℤ → ℤ
remainder d side e = int_rem_euclid (turned (as_said side false) e) d

-- the line is that of the row of x: the divisor is the size of its entry, the bounds are of different
-- other columns, each of which stands at it and has the remainder of its entry as multiplier, and each
-- other column with a remainder has one
pub record IsGomory (s : State) (x : ℕ) (row : List (ℕ × ℤ)) (bounds : List Standing) (line : Sum) : Type 0 where
  pub own : entry row x ≡ neg_ℤ line.divisor
  pub at_bounds : All (λ (b : Standing). slice_get s.values b.column ≡ Some (b.limit, pos 1)) bounds
  pub others : All (λ (b : Standing). b.column ≢ x) bounds
  pub different : AllDiffer (map column_in bounds)
  pub multipliers : multipliers_in line ≡ map (λ (b : Standing). remainder line.divisor b.upper (entry row b.column)) bounds
  pub listed : (c : ℕ) → c ≢ x → int_rem_euclid (entry row c) line.divisor ≢ pos 0 → Contains (map column_in bounds) c

-- the line sums bounds that stand, and rows, to the atom: the atom's variables are those that no row
-- defines, the coefficients are divided without a remainder, and the bound is rounded down
pub record FollowsBy (s : State) (bounds : List Standing) (line : Sum) (atom : Inequality) : Type 0 where
  pub rows : List ℤ
  pub sources : sources_in line ≡ map source_of bounds
  pub stand : All (Contains s.bounds) bounds
  pub not_negative : All (λ (m : ℤ). pos 0 ≤ℤ m) (multipliers_in line)
  pub positive : pos 0 <ℤ line.divisor
  pub in_order : IsInOrder atom.terms
  pub entries : HasNoZero atom.terms
  pub undefined : All (λ (t : ℕ × ℤ). ¬ Contains (last_columns s.given) t.0) atom.terms
  pub sums : (c : ℕ) → weight (multipliers_in line) bounds c +ℤ combined rows s.given c ≡ line.divisor *ℤ entry atom.terms c
  pub rounded : atom.bound ≡ int_div_euclid (limits (multipliers_in line) bounds) line.divisor

-- the tableau's values break the atom
abbrev pub BreakAtom : List (ℤ × ℤ) → Inequality → Type 0
BreakAtom values atom = (p : Point) → HasValues p values → (atom.bound *ℤ p.bottom) <ℤ sum_of p.tops atom.terms

-- one list of bounds makes the line the row's cut, and the atom what follows by the line
pub record IsCut (s : State) (x : ℕ) (line : Sum) (atom : Inequality) : Type 0 where
  pub row : List (ℕ × ℤ)
  pub is_row : IsRowIn s.given s.basis x row
  pub none_loose : NoneLoose s x row
  pub bounds : List Standing
  pub gomory : IsGomory s x row bounds line
  pub follows : FollowsBy s bounds line atom
  pub broken : BreakAtom s.values atom

-- an entry of the row, or its remainder by the basis column's entry
abbrev pub IsNumber : List (ℕ × ℤ) → ℕ → ℕ → ℤ → Type 0
IsNumber row x c z =
    (z ≡ entry row c) ⊎ ((side : Bool) × (z ≡ remainder (pos (unsigned_abs (entry row x))) side (entry row c)))

-- a bound of the column that stands; its coefficient 1 in itself; or those of the given row that
-- defines it
abbrev pub IsFactor : State → ℕ → ℤ → Type 0
IsFactor s c z =
    ((b : Standing) × Contains s.bounds b × (b.column ≡ c) × (b.limit ≡ z))
    ⊎ ((z ≡ pos 1) ⊎ ((g : List (ℕ × ℤ)) × (v : ℕ) × Contains s.given g × (last_column g ≡ c) × (z ≡ entry g v)))

-- a product of a number of one column of the row with a factor of this column
pub record IsCutProduct (s : State) (row : List (ℕ × ℤ)) (x : ℕ) (p : Product) : Type 0 where
  pub has_entry : entry row p.place ≢ pos 0
  pub number : IsNumber row x p.place p.number
  pub factor : IsFactor s p.place p.factor

-- products over the row's columns, no column twice, the second ones after the first
abbrev pub AreCutProducts : State → List (ℕ × ℤ) → ℕ → List Product → List Product → Type 0
AreCutProducts s row x ps qs =
    All (IsCutProduct s row x) (ps ++ qs) × AllDiffer (map (λ (p : Product). p.place) (ps ++ qs))

abbrev pub AreCutOperands : State → List (ℕ × ℤ) → ℕ → Op → ℤ → ℤ → Type 0
AreCutOperands s row x Mul left right = (p : Product) × IsCutProduct s row x p × HasOperands left right p.number p.factor
AreCutOperands s row x Add left right =
    (ps : List Product) × (qs : List Product) × AreCutProducts s row x ps qs × (left ≡ total ps) × (right ≡ total qs)
AreCutOperands s row x Sub left right =
    (ps : List Product) × (qs : List Product) × AreCutProducts s row x ps qs × (left ≡ total ps) × (right ≡ total qs)
AreCutOperands s row x Div left right = ⊥

-- an operation over the row is outside 128 bits
pub record IsCutPast (s : State) (x : ℕ) (past : Past) : Type 0 where
  pub row : List (ℕ × ℤ)
  pub is_row : IsRowIn s.given s.basis x row
  pub none_loose : NoneLoose s x row
  pub operands : AreCutOperands s row x past.op past.left past.right
  pub outside : within (result_of past.op past.left past.right) ≡ false

-- what is answered of the row of x
abbrev pub IsAnswerFor : State → ℕ → CutAnswer → Type 0
IsAnswerFor s x a.Whole = ⊥
IsAnswerFor s x (a.Cut cut) = IsCut s x (line_view cut.line) (atom_view cut.atom)
IsAnswerFor s x (a.Loose c) = IsLoose s x c
IsAnswerFor s x (a.Past past) = IsCutPast s x past

-- whole values alone are answered so; else the row of the least column whose value is not whole counts
abbrev pub IsCutAnswer : State → CutAnswer → Type 0
IsCutAnswer s a.Whole = All IsWhole s.values
IsCutAnswer s (a.Cut cut) = (x : ℕ) × (z : ℤ) × IsFirstBroken s.values x z × IsAnswerFor s x (a.Cut cut)
IsCutAnswer s (a.Loose c) = (x : ℕ) × (z : ℤ) × IsFirstBroken s.values x z × IsAnswerFor s x (a.Loose c)
IsCutAnswer s (a.Past past) = (x : ℕ) × (z : ℤ) × IsFirstBroken s.values x z × IsAnswerFor s x (a.Past past)
