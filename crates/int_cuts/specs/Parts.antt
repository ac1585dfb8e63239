-- How a row's cut is made.
use Rattle.std.specs.Prelude.{ℕ, ◌≡◌, ◌≢◌, ◌⊎◌, ◌<◌, ◌==◌, Bool, true, false, cond, List, [], ◌∷◌, ◌++◌, length, map, take, All, Option, Some, None, slice_get}
use Rattle.std.specs.Int.{int_div_euclid, int_rem_euclid}
use lib.IntN.{ℤ, pos, ◌+ℤ◌, ◌-ℤ◌, ◌*ℤ◌, neg_ℤ}
use lib.Signed.{◌<ℤ◌}
use Rattle.kind_num.specs.Exact.{within}
use Rattle.kind_num.specs.declared.Past.{Past}
use Rattle.kind_num.specs.declared.Op.TheVariants.{Add, Sub, Mul}
use Rattle.proof_steps.specs.declared.Source.{Source}
use Rattle.proof_steps.specs.declared.Source.TheVariants.{Literal}
use Rattle.proof_steps.specs.View.{Sum, Inequality, line_view, atom_view}
use Rattle.proof_steps.specs.Rows.{entry, AllDiffer}
use Rattle.int_simplex.specs.State.{State}
use Rattle.int_simplex.specs.Bounds.{tightest}
use Rattle.int_simplex.specs.Given.{column_of, last_column, IsInOrder, IsWithin, HasNoZero}
use Rattle.int_simplex.specs.Farkas.{turned}
use Rattle.int_simplex.specs.Sound.{IsRowIn}
use Rattle.int_simplex.specs.Making.{IsMadeTo}
use Rattle.int_cuts.specs.Cuts.{IsAtBound, remainder}
use Rattle.int_cuts.specs.declared.cuts.Cut.{Cut}
use Rattle.int_cuts.specs.declared.parts.Part.{Part}
use Rattle.int_cuts.specs.declared.trouble.Trouble.{Trouble}
use Rattle.int_cuts.specs.declared.trouble.Trouble.TheVariants as t

abbrev pub IsAtLimit : ℤ × ℤ → Option (ℤ × ℕ) → Option (ℤ × ℕ) → Type 0
IsAtLimit v bound None = (b : ℤ × ℕ) → bound ≡ Some b → v ≡ (b.0, pos 1) → ⊥
IsAtLimit v bound (Some b) = (bound ≡ Some b) × (v ≡ (b.0, pos 1))

-- the side, limit and literal of the bound at which the column stands
abbrev pub IsBoundAt : State → ℕ → Option (Bool × ℤ × ℕ) → Type 0
IsBoundAt s c None = ¬ IsAtBound s c
IsBoundAt s c (Some b) = (tightest s.bounds c b.0 ≡ Some (b.1, b.2)) × (slice_get s.values c ≡ Some (b.1, pos 1))

abbrev pub IsLooseAt : State → ℕ → ℕ → Bool → Type 0
IsLooseAt s x c true = (c ≢ x) × (¬ IsAtBound s c)
IsLooseAt s x c false = c ≢ x → IsAtBound s c

-- the row's terms before place k, other than that of x, stand at bounds
abbrev pub StandTo : State → List (ℕ × ℤ) → ℕ → ℕ → Type 0
StandTo s row x k = (j : ℕ) (t : ℕ × ℤ) → j < k → slice_get row j ≡ Some t → t.0 ≢ x → IsAtBound s t.0

abbrev pub NoneLooseIn : State → List (ℕ × ℤ) → ℕ → Type 0
NoneLooseIn s row x = StandTo s row x (length row)

abbrev pub IsFirstLoose : State → List (ℕ × ℤ) → ℕ → Option ℕ → Type 0
IsFirstLoose s row x None = NoneLooseIn s row x
IsFirstLoose s row x (Some c) =
    (k : ℕ) × (t : ℕ × ℤ) × (slice_get row k ≡ Some t) × (t.0 ≡ c) × (c ≢ x) × (¬ IsAtBound s c) × StandTo s row x k

-- the row of a column in the basis, as a tableau answers it
pub record IsRowOf (s : State) (x : ℕ) (row : List (ℕ × ℤ)) : Type 0 where
  pub is_row : IsRowIn s.given s.basis x row
  pub in_order : IsInOrder row
  pub in_range : IsWithin s.columns row
  pub entries : HasNoZero row

-- the place of the given row whose greatest column it is
abbrev pub IsDefinedBy : List (List (ℕ × ℤ)) → ℕ → Option ℕ → Type 0
IsDefinedBy given c None = (k : ℕ) (g : List (ℕ × ℤ)) → slice_get given k ≡ Some g → last_column g ≢ c
IsDefinedBy given c (Some k) = (g : List (ℕ × ℤ)) × (slice_get given k ≡ Some g) × (last_column g ≡ c)

-- the term, or its opposite (true)
abbrev pub facing : Bool → ℕ × ℤ → ℕ × ℤ
facing true t = (t.0, neg_ℤ t.1)
facing false t = t

abbrev pub differ : Bool → Bool → Bool
differ true true = false
differ true false = true
differ false b = b

-- the part of a row's term
pub record IsPart (s : State) (x : ℕ) (d : ℤ) (t : ℕ × ℤ) (p : Part) : Type 0 where
  pub column : p.column ≡ t.0
  pub other : t.0 ≢ x
  pub bound : tightest s.bounds t.0 p.upper ≡ Some (p.limit, p.literal)
  pub place : slice_get s.values t.0 ≡ Some (p.limit, pos 1)
  pub multiplier : p.multiplier ≡ remainder d p.upper t.1
  pub row : IsDefinedBy s.given t.0 p.row

-- a term has no part where it is that of x, or stands at no bound, or its number is a multiple of d
abbrev pub IsPartOf : State → ℕ → ℤ → ℕ × ℤ → Option Part → Type 0
IsPartOf s x d t None = (t.0 ≡ x) ⊎ ((¬ IsAtBound s t.0) ⊎ (int_rem_euclid t.1 d ≡ pos 0))
IsPartOf s x d t (Some p) = IsPart s x d t p

abbrev pub IsPushed : Option Part → List Part → List Part → Type 0
IsPushed None old new = new ≡ old
IsPushed (Some p) old new = new ≡ old ++ p ∷ []

-- the parts of a row's terms, in order
abbrev pub AreParts : State → ℕ → ℤ → List (ℕ × ℤ) → List Part → Type 0
AreParts s x d [] parts = parts ≡ []
AreParts s x d (t ∷ row) parts =
    (IsPartOf s x d t None × AreParts s x d row parts)
    ⊎ ((p : Part) × (rest : List Part) × (parts ≡ p ∷ rest) × IsPart s x d t p × AreParts s x d row rest)

-- no given row lists a column twice
abbrev pub AreDistinct : List (List (ℕ × ℤ)) → Type 0
AreDistinct given = All (λ (r : List (ℕ × ℤ)). AllDiffer (map column_of r)) given

abbrev pub IsPlaceIn : ℕ → Option ℕ → Type 0
IsPlaceIn n None = Unit
IsPlaceIn n (Some k) = k < n

abbrev pub IsDefinedIn : ℕ → Part → Type 0
IsDefinedIn n p = IsPlaceIn n p.row

abbrev pub AreDefined : ℕ → List Part → Type 0
AreDefined n parts = All (IsDefinedIn n) parts

abbrev pub row_of : Option (List (ℕ × ℤ)) → List (ℕ × ℤ)
row_of None = []
row_of (Some g) = g

-- the coefficient of the variable in a column that the row at the place defines, or none does
abbrev pub coefficient_by : List (List (ℕ × ℤ)) → ℕ → Option ℕ → ℕ → ℤ
coefficient_by given c None v = cond (c == v) (pos 1) (pos 0)
coefficient_by given c (Some k) v = cond (c == v) (pos 0) (entry (row_of (slice_get given k)) v)

abbrev pub coefficient_of : List (List (ℕ × ℤ)) → Part → ℕ → ℤ
coefficient_of given p v = coefficient_by given p.column p.row v

abbrev pub factor_of : List (List (ℕ × ℤ)) → Option ℕ → Part → ℤ
factor_of given None p = p.limit
factor_of given (Some v) p = coefficient_of given p v

-- the sum of the parts' bounds, each times its multiplier
abbrev pub sum_by : List (List (ℕ × ℤ)) → Option ℕ → List Part → ℤ
sum_by given of [] = pos 0
sum_by given of (p ∷ parts) = turned p.upper (p.multiplier *ℤ factor_of given of p) +ℤ sum_by given of parts

abbrev pub step_op : Bool → ℤ → ℤ → Past → Type 0
step_op true x y past = (past ≡ record { op = Add; left = x; right = y }) × (within (x +ℤ y) ≡ false)
step_op false x y past = (past ≡ record { op = Sub; left = x; right = y }) × (within (x -ℤ y) ≡ false)

-- a number is outside: the product, or its sum with those before
abbrev pub IsStepPast : ℤ → Bool → ℤ → ℤ → Past → Type 0
IsStepPast sum upper m f past =
    (f ≢ pos 0) × (((past ≡ record { op = Mul; left = m; right = f }) × (within (m *ℤ f) ≡ false))
    ⊎ step_op upper sum (m *ℤ f) past)

abbrev pub IsSumPast : List (List (ℕ × ℤ)) → Option ℕ → List Part → Past → Type 0
IsSumPast given of parts past =
    (k : ℕ) × (p : Part) × (slice_get parts k ≡ Some p)
    × IsStepPast (sum_by given of (take k parts)) p.upper p.multiplier (factor_of given of p) past

-- the sum of some variable, or the right side
abbrev pub AreSumsPast : List (List (ℕ × ℤ)) → List Part → Past → Type 0
AreSumsPast given parts past = (of : Option ℕ) × IsSumPast given of parts past

abbrev pub AreTermsPast : List (List (ℕ × ℤ)) → List Part → Trouble → Type 0
AreTermsPast given parts t.Memory = Unit
AreTermsPast given parts (t.Past past) = AreSumsPast given parts past

abbrev pub IsNoMemory : Trouble → Type 0
IsNoMemory t.Memory = Unit
IsNoMemory (t.Past past) = ⊥

-- a term with a number other than 0 is put behind the others
abbrev pub IsGrown : ℕ → ℤ → List (ℕ × ℤ) → List (ℕ × ℤ) → Type 0
IsGrown x a old new = ((a ≡ pos 0) × (new ≡ old)) ⊎ ((a ≢ pos 0) × (new ≡ old ++ (x, a) ∷ []))

abbrev pub parts_line : List Part → List (ℤ × Source)
parts_line parts = map (λ (p : Part). (p.multiplier, Literal p.literal)) parts

-- the line and the atom of the parts
pub record IsMadeOf (s : State) (parts : List Part) (d : ℤ) (line : Sum) (atom : Inequality) : Type 0 where
  pub line_parts : line.parts ≡ parts_line parts
  pub divisor : line.divisor ≡ d
  pub terms : IsMadeTo s.columns (λ c. int_div_euclid (sum_by s.given (Some c) parts) d) atom.terms
  pub bound : atom.bound ≡ int_div_euclid (sum_by s.given None parts) d

abbrev pub IsCutMade : State → List Part → ℤ → Cut → Type 0
IsCutMade s parts d cut = IsMadeOf s parts d (line_view cut.line) (atom_view cut.atom)

abbrev pub IsSizePast : ℤ → Past → Type 0
IsSizePast z past = (z <ℤ pos 0) × (past ≡ record { op = Sub; left = pos 0; right = z }) × (within (pos 0 -ℤ z) ≡ false)
