-- The rules in words of sets and sums, beside the tests that the checker computes.
use Rattle.std.specs.Prelude.{ℕ, ◌≡◌, ◌⊎◌, ◌<◌, true, false, List, [], ◌∷◌, ◌++◌, Some, None, All, Contains, map, take, slice_get}
use lib.IntN.{ℤ, pos, ◌+ℤ◌, ◌*ℤ◌}
use Rattle.kind_num.specs.declared.Shape.{Shape}
use Rattle.proof_steps.specs.declared.Literal.{Literal}
use Rattle.proof_steps.specs.declared.Source.{Source}
use Rattle.proof_steps.specs.View.{Inequality, Move, added}
use Rattle.proof_steps.specs.Meaning.{at, opposite}
use Rattle.proof_checker.specs.declared.rule.Rule.{Rule}
use Rattle.proof_checker.specs.declared.rule.Rule.TheVariants as r
use Rattle.proof_checker.specs.Theory.{Outcome, value, past, stopped, of_source}
use Rattle.proof_checker.specs.Check.{move_fault, terms_fit}

-- of the clause's literals exactly l is outside the set
pub record IsOnlyOutside (set clause : List Literal) (l : Literal) : Type 0 where
  pub in_clause : Contains clause l
  pub outside : ¬ Contains set l
  pub others : (m : Literal) → Contains clause m → (¬ Contains set m) → m ≡ l

-- each hint but the last has exactly one literal outside the set, whose opposite is outside too and
-- is added; the last hint has none outside
abbrev pub AreMet : List (List Literal) → List Literal → List ℕ → Type 0
AreMet known set [] = ⊥
AreMet known set (h ∷ []) = (c : List Literal) × (at known h ≡ Some c) × All (Contains set) c
AreMet known set (h ∷ k ∷ hints) =
    (c : List Literal) × (l : Literal) × (at known h ≡ Some c) × IsOnlyOutside set c l
    × (¬ Contains set (opposite l)) × AreMet known (set ++ opposite l ∷ []) (k ∷ hints)

-- what a number of the parts' inequalities comes to, each times its multiplier
abbrev pub taken : (Inequality → ℤ) → ℤ → Outcome Inequality → ℤ
taken f m (value i) = m *ℤ f i
taken f m past = pos 0
taken f m stopped = pos 0

abbrev pub combination : List Inequality → List Literal → List Inequality → (Inequality → ℤ) → List (ℤ × Source) → ℤ
combination atoms clause lines f [] = pos 0
combination atoms clause lines f ((m, s) ∷ rest) =
    taken f m (of_source atoms clause lines s) +ℤ combination atoms clause lines f rest

-- the clauses before the step at place n: those of the query, then those of the steps
abbrev pub known_at : List (List Literal) → List Move → ℕ → List (List Literal)
known_at clauses moves n = clauses ++ map added (take n moves)

-- the step at place n is the first that breaks a rule
pub record IsFirstFault (shapes : List Shape) (atoms : List Inequality) (clauses : List (List Literal)) (moves : List Move) (n : ℕ) (rule : Rule) : Type 0 where
  pub step : Move
  pub is_step : slice_get moves n ≡ Some step
  pub breaks : move_fault shapes atoms (known_at clauses moves n) step ≡ Some rule
  pub none_before : (k : ℕ) (m : Move) → k < n → slice_get moves k ≡ Some m → move_fault shapes atoms (known_at clauses moves k) m ≡ None

-- no step breaks a rule
abbrev pub AreRight : List Shape → List Inequality → List (List Literal) → List Move → Type 0
AreRight shapes atoms clauses moves =
    (k : ℕ) (m : Move) → slice_get moves k ≡ Some m → move_fault shapes atoms (known_at clauses moves k) m ≡ None

-- the atom at place n is the first whose terms do not fit
pub record IsFirstMisfit (shapes : List Shape) (more : List Inequality) (n : ℕ) : Type 0 where
  pub atom : Inequality
  pub is_atom : slice_get more n ≡ Some atom
  pub misfits : terms_fit shapes 0 atom.terms ≡ false
  pub none_before : (k : ℕ) (i : Inequality) → k < n → slice_get more k ≡ Some i → terms_fit shapes 0 i.terms ≡ true

abbrev pub AllFit : List Shape → List Inequality → Type 0
AllFit shapes more = (k : ℕ) (i : Inequality) → slice_get more k ≡ Some i → terms_fit shapes 0 i.terms ≡ true

-- the atoms come before the steps
abbrev pub IsFirst : List Shape → List Inequality → List (List Literal) → List Inequality → List Move → ℕ → Rule → Type 0
IsFirst shapes atoms clauses more moves n rule =
    (IsFirstMisfit shapes more n × (rule ≡ r.Atom))
    ⊎ (AllFit shapes more × IsFirstFault shapes (atoms ++ more) clauses moves n rule)

-- no atom and no step breaks a rule
pub record IsRight (shapes : List Shape) (atoms : List Inequality) (clauses : List (List Literal)) (more : List Inequality) (moves : List Move) : Type 0 where
  pub fit : AllFit shapes more
  pub right : AreRight shapes (atoms ++ more) clauses moves
