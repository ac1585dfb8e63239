-- The theory step that a cut gives.
use Rattle.std.specs.Prelude.{ℕ, suc, ◌≡◌, ◌≢◌, ◌⊎◌, ◌++◌, true, List, [], ◌∷◌, length, map, All, Contains, Some, None}
use Rattle.std.specs.Int.{int_div_euclid}
use lib.IntN.{ℤ, pos}
use lib.Signed.{◌≤ℤ◌, ◌<ℤ◌}
use Rattle.proof_steps.specs.declared.Literal.{Literal}
use Rattle.proof_steps.specs.declared.Literal.TheVariants.{Atom}
use Rattle.proof_steps.specs.declared.Source.{Source}
use Rattle.proof_steps.specs.declared.Source.TheVariants as s
use Rattle.proof_steps.specs.View.{Inequality, Move, theory, Sum}
use Rattle.proof_steps.specs.Rows.{Form, rows_of, columns_of}
use Rattle.proof_checker.specs.declared.rule.Rule.TheVariants as r
use Rattle.proof_checker.specs.Check.{move_fault}
use Rattle.int_simplex.specs.State.{Standing, State}
use Rattle.int_simplex.specs.Sound.{IsSound}
use Rattle.int_simplex.specs.Farkas.{limits}
use Rattle.int_cuts.specs.Cuts.{FollowsBy}
use Rattle.cnf_maker.specs.Plain.{IsPlain}
use Rattle.line_laws.specs.Lines.{Part, IsPart, IsVariable, SumTo, multipliers_of, bounds_of}
use Rattle.line_laws.specs.Steps.{own_lines, line_parts, denied, IsOfLiteral}

-- the bounds, each times its multiplier, and rows sum to d times the atom, rounded down
pub record IsCutBy (g : Form) (parts : List Part) (d : ℤ) (atom : Inequality) : Type 0 where
  pub some_part : parts ≢ []
  pub are_parts : All (IsPart g) parts
  pub not_negative : All (λ (p : Part). pos 0 ≤ℤ p.multiplier) parts
  pub positive : pos 0 <ℤ d
  pub variables : All (λ (t : ℕ × ℤ). IsVariable g t.0) atom.terms
  pub sums : SumTo g parts d atom.terms
  pub rounded : atom.bound ≡ int_div_euclid (limits (multipliers_of parts) (bounds_of parts)) d

-- some literal of the bounds is false, or the n-th atom is true: the cut's line, and its sum with the
-- atom's opposite
abbrev pub cut_step : ℕ → List Part → ℤ → Move
cut_step n parts d =
    theory (map denied parts ++ Atom n true ∷ [])
    (own_lines 1 parts
    ++ record { parts = line_parts 1 parts; divisor = d }
    ∷ record {
      parts = (pos 1, s.Line (suc (length parts))) ∷
          (pos 1, s.Literal (suc (length parts))) ∷ [];
      divisor = pos 1;
    }
    ∷ [])

-- with the cut's atom behind the others this step breaks no rule, or a number of it is outside 128 bits
abbrev pub IsCutTakenOrPast : Form → List (List Literal) → List Part → ℤ → Inequality → Type 0
IsCutTakenOrPast g known parts d atom =
    (move_fault g.shapes (g.atoms ++ atom ∷ []) known (cut_step (suc (length g.atoms)) parts d) ≡ None)
    ⊎ (move_fault g.shapes (g.atoms ++ atom ∷ []) known (cut_step (suc (length g.atoms)) parts d) ≡ Some r.Past)

abbrev pub CutsGiveSteps : Type 0
CutsGiveSteps =
    (g : Form) (known : List (List Literal)) (parts : List Part) (d : ℤ) (atom : Inequality) → IsPlain g
    → IsCutBy g parts d atom
    → IsCutTakenOrPast g known parts d atom

-- a tableau of the query's rows, each bound of which is what a literal means
pub record IsTableauOf (g : Form) (t : State) : Type 0 where
  pub sound : IsSound t
  pub given : t.given ≡ rows_of g
  pub columns : t.columns ≡ columns_of g
  pub literals : All (IsOfLiteral g) t.bounds

abbrev pub sourced : Part → ℤ × Source
sourced p = (p.multiplier, s.Literal p.bound.literal)

-- bounds that stand, with these multipliers and literals, cut by the atom, and so give a step
pub record IsCutStepOf (g : Form) (known : List (List Literal)) (t : State) (line : Sum)
    (atom : Inequality) : Type 0 where
  pub parts : List Part
  pub stand : All (λ (p : Part). Contains t.bounds p.bound) parts
  pub same : map sourced parts ≡ line.parts
  pub cut : IsCutBy g parts line.divisor atom
  pub taken : IsCutTakenOrPast g known parts line.divisor atom

-- what follows by a line of a tableau's bounds, as its cuts do, is such a cut
abbrev pub FollowingAtomsGiveSteps : Type 0
FollowingAtomsGiveSteps =
    (g : Form) (known : List (List Literal)) (t : State) (bounds : List Standing) (line : Sum) (atom : Inequality)
    → IsPlain g → IsTableauOf g t → line.parts ≢ [] → FollowsBy t bounds line atom
    → IsCutStepOf g known t line atom
