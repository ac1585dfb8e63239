-- Bounds that refute each other, as a conflict of a run.
use Rattle.std.specs.Prelude.{ℕ, ◌≡◌, List, length, map, All}
use lib.IntN.{ℤ}
use Rattle.proof_steps.specs.Rows.{Form, rows_of}
use Rattle.proof_steps.specs.Bounds.{bounds_from}
use Rattle.cnf_maker.specs.Plain.{IsPlain}
use Rattle.int_simplex.specs.Farkas.{Refutes}
use Rattle.line_laws.specs.Steps.{IsStepOf, denied}
use Rattle.sat_core.specs.Trail.{IsApart, IsFalse}
use Rattle.smt_solver.specs.declared.numbers.meanings.Meaning.{Meaning}
use Rattle.smt_solver.specs.Sums.{all_meant, all_divisors, divisor_in}
use Rattle.smt_solver.specs.Asserting.{bounds_at}
use Rattle.smt_solver.specs.Used.{used_of, used_by}
use Rattle.smt_solver.specs.Growing.{SaysMore}
use Rattle.smt_solver.specs.Run.{Standing}

-- what the atoms of the form mean, in their order
pub record AreMeaningsOf (f : Form) (ms : List Meaning) : Type 0 where
  pub bounds : all_meant ms ≡ bounds_from (length f.shapes) f.atoms
  pub divisors : all_divisors ms ≡ map divisor_in f.atoms

-- no variable stands twice, and no known clause is false
pub record IsSettled (s : Standing) : Type 0 where
  pub apart : IsApart s.search.trail
  pub none_false : All (λ c. ¬ IsFalse s.search.trail c) s.search.known

-- multipliers with which the bounds of true literals refute each other
pub record AreRefuted (s : Standing) (ms : List Meaning) (parts : List (ℤ × ℕ)) : Type 0 where
  pub plain : IsPlain s.form
  pub meanings : AreMeaningsOf s.form ms
  pub settled : IsSettled s
  pub refutes : Refutes (rows_of s.form) (bounds_at s.search.trail 1 ms) parts

-- they give a theory step with these multipliers, of the literals that are true, and its clause says
-- more than what is known
pub record IsConflictOf (s : Standing) (ms : List Meaning) (parts : List (ℤ × ℕ)) : Type 0 where
  pub step : IsStepOf s.form s.search.known (bounds_at s.search.trail 1 ms) parts
  pub uses : map used_of step.parts ≡ map (used_by s.search.trail ms) parts
  pub more : SaysMore s.search.known (map denied step.parts)

abbrev pub RefutedBoundsConflict : Type 0
RefutedBoundsConflict =
    (s : Standing) (ms : List Meaning) (parts : List (ℤ × ℕ)) → AreRefuted s ms parts → IsConflictOf s ms parts
