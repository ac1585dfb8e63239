-- The parts of a refutation in the words of the code that adds them up.
use Rattle.std.specs.Prelude.{ℕ, ◌≡◌, ◌⊎◌, Bool, true, List, [], ◌∷◌, map, Option, Some, None, All}
use lib.IntN.{ℤ, pos, ◌+ℤ◌, ◌*ℤ◌}
use lib.Signed.{◌≤ℤ◌}
use Rattle.kind_num.specs.Exact.{within}
use Rattle.kind_num.specs.declared.Op.TheVariants.{Add, Mul}
use Rattle.kind_num.specs.declared.Past.{Past}
use Rattle.proof_steps.specs.declared.Literal.TheVariants.{Atom}
use Rattle.proof_steps.specs.declared.Atom.{Atom as Constraint}
use Rattle.proof_steps.specs.View.{atom_view}
use Rattle.proof_steps.specs.StopView.{Operation}
use Rattle.proof_steps.specs.Meaning.{at}
use Rattle.int_simplex.specs.Farkas.{turned}
use Rattle.int_simplex.specs.Given.{IsInOrder}
use Rattle.line_laws.specs.Lines.{Part}
use Rattle.line_laws.specs.PastSteps.{number_of, factor_in, IsOutside, IsSumPast, SumFits}
use Rattle.sat_core.specs.declared.assigned.Assigned.{Assigned}
use Rattle.sat_core.specs.Trail.{value_of}
use Rattle.smt_solver.specs.declared.numbers.meanings.Meaning.{Meaning}
use Rattle.smt_solver.specs.declared.numbers.sums.Share.{Share}
use Rattle.smt_solver.specs.Asserting.{signed_bound}
use Rattle.smt_solver.specs.States.{is_set}

abbrev pub share_of : Part → Share
share_of p = record { column = p.bound.column; number = number_of p; limit = p.bound.limit; atom = p.bound.literal }

abbrev pub no_share : Share
no_share = record { column = 0; number = pos 0; limit = pos 0; atom = 0 }

abbrev pub share_from : Bool → ℤ → ℕ → Option Meaning → Share
share_from sign m n None = no_share
share_from sign m n (Some k) = record {
  column = k.column;
  number = turned (signed_bound sign k).upper m;
  limit = (signed_bound sign k).limit;
  atom = n;
}

-- a multiplier with the number of an atom, whose literal is that which is true
abbrev pub share_by : List Assigned → List Meaning → ℤ × ℕ → Share
share_by trail ms p = share_from (is_set (value_of trail (Atom p.1 true))) p.0 p.1 (at ms p.1)

abbrev pub IsNotNegative : ℤ × ℕ → Type 0
IsNotNegative p = pos 0 ≤ℤ p.0

abbrev pub factor_at : Option Constraint → ℕ → ℤ
factor_at None x = pos 0
factor_at (Some a) x = factor_in (atom_view a).terms x

-- the products whose sum is the variable's coefficient, and those whose sum is the right side
abbrev pub products_by : List Constraint → ℕ → List Share → List (ℤ × ℤ)
products_by atoms x shares = map (λ (s : Share). (s.number, factor_at (at atoms s.atom) x)) shares

abbrev pub limits_by : List Share → List (ℤ × ℤ)
limits_by shares = map (λ (s : Share). (s.number, s.limit)) shares

abbrev pub row_by : List Share → List (ℕ × ℤ)
row_by shares = map (λ (s : Share). (s.column, s.number)) shares

-- a product added to a sum
pub record IsAdded (sum number factor z : ℤ) : Type 0 where
  pub product : within (number *ℤ factor) ≡ true
  pub whole : within (sum +ℤ number *ℤ factor) ≡ true
  pub is : z ≡ sum +ℤ number *ℤ factor

abbrev pub IsNotAdded : ℤ → ℤ → ℤ → Past → Type 0
IsNotAdded sum number factor past =
    IsOutside Mul number factor (number *ℤ factor) past ⊎ IsOutside Add sum (number *ℤ factor) (sum +ℤ number *ℤ factor) past

-- the sum fits, or the operation is one of it that is outside
abbrev pub FitsOrPast : List (ℤ × ℤ) → Option Past → Type 0
FitsOrPast products None = SumFits products
FitsOrPast products (Some past) = IsSumPast products past

-- the same of the sums of all variables of these terms
abbrev pub AllFitOrPast : List Constraint → List Share → List (ℕ × ℤ) → Option Past → Type 0
AllFitOrPast atoms shares terms None = All (λ (t : ℕ × ℤ). SumFits (products_by atoms t.0 shares)) terms
AllFitOrPast atoms shares terms (Some past) = (x : ℕ) × IsSumPast (products_by atoms x shares) past

abbrev pub terms_at : Option Constraint → List (ℕ × ℤ)
terms_at None = []
terms_at (Some a) = (atom_view a).terms

-- the same of the variables of all their atoms
abbrev pub SharesFitOrPast : List Constraint → List Share → List Share → Option Past → Type 0
SharesFitOrPast atoms shares of_these None =
    All (λ (s : Share). All (λ (t : ℕ × ℤ). SumFits (products_by atoms t.0 shares)) (terms_at (at atoms s.atom))) of_these
SharesFitOrPast atoms shares of_these (Some past) = (x : ℕ) × IsSumPast (products_by atoms x shares) past

-- and of the right sides
abbrev pub StepFitsOrPast : List Constraint → List Share → Option Past → Type 0
StepFitsOrPast atoms shares None = SumFits (limits_by shares) × SharesFitOrPast atoms shares shares None
StepFitsOrPast atoms shares (Some past) =
    (x : ℕ) × (IsSumPast (products_by atoms x shares) past ⊎ IsSumPast (limits_by shares) past)

abbrev pub AreInOrder : List Constraint → Type 0
AreInOrder atoms = All (λ (a : Constraint). IsInOrder (atom_view a).terms) atoms

-- over the row that refutes, beside which the first given one is kept
abbrev pub a_past_step : List (ℕ × ℤ) → List (ℕ × ℤ) → Past → Operation
a_past_step row first past = record { rows = row ∷ first ∷ []; past = past }
