-- Which stops never come of a program without integers.
use Rattle.std.specs.Prelude.{ℕ, ◌≡◌, ◌≤◌, ◌^◌, true, List, length, Ok}
use lib.IntN.{ℤ}
use Rattle.proof_steps.specs.declared.Literal.{Literal}
use Rattle.proof_steps.specs.declared.stops.Budgets.{Budgets}
use Rattle.proof_steps.specs.StopView.{conflicts}
use Rattle.proof_steps.specs.Rows.{Form}
use Rattle.proof_steps.specs.Stopped.{IsTrueOf}
use Rattle.sys_terms.specs.View.{Formula, Machine, Task, Question}
use Rattle.sys_terms.specs.Queries.{query_of}
use Rattle.sys_meaning.specs.System.{system_of}
use Rattle.cnf_maker.specs.ClauseForm.{clause_form}
use Rattle.path_laws.specs.Laws.{OfEachInstance}
use Rattle.smt_solver.specs.View.{Found}
use Rattle.smt_solver.specs.Answered.{IsAnswered, HasNoAtoms, StopsByConflicts}
use Rattle.smt_solver.specs.Boolean.{all_boolean, is_boolean_task}
use Rattle.smt_solver.specs.NeedRoom.{AtomsAreNeeded}
use Rattle.cause_laws.specs.Complete.{HasNoNumbers, IsDecided}
use Rattle.boolean_laws.specs.Integers.{HasNoIntegers}
use Rattle.boolean_laws.specs.Laws.{IsOfFlags}

-- a query has a clause form, without a number
pub record HasFormWithoutNumbers (q : Question) : Type 0 where
  pub form : Form
  pub is_form : clause_form q ≡ Ok form
  pub numbers : HasNoNumbers form

-- so it is of each over such a system, where neither the terms that it asks about nor the cited ones compare numbers
abbrev pub QueriesHaveNoNumbers : Type 0
QueriesHaveNoNumbers =
    (m : Machine) (task : Task) (cites : List Formula) → IsOfFlags m → is_boolean_task task ≡ true → all_boolean cites ≡ true
    → HasFormWithoutNumbers (query_of m task cites)

-- what is so of each query over the system of a declaration without integers
abbrev pub OfEachQuery : (Machine → Task → List Formula → Form → Type 0) → Type 0
OfEachQuery P =
    OfEachInstance (λ i. HasNoIntegers i → (task : Task) (cites : List Formula) (f : Form) → is_boolean_task task ≡ true
    → all_boolean cites ≡ true → clause_form (query_of (system_of i) task cites) ≡ Ok f → P (system_of i) task cites f)

-- the stops that are not true of a form, whatever the budgets of pivots and splits, but for a budget of no splits
pub record NeverStops (f : Form) (budgets : Budgets) : Type 0 where
  pub numbers : HasNoNumbers f
  pub needed : AtomsAreNeeded f budgets
  -- nor of conflicts, with a budget of at least 3 to the number of variables
  pub flags : 3 ^ length f.shapes ≤ budgets.conflicts
      → (clauses : List (List Literal)) (pairs : List (ℕ × ℤ)) → ¬ IsTrueOf f budgets (conflicts clauses pairs)

abbrev pub EachQueryNeverStops : Type 0
EachQueryNeverStops = OfEachQuery (λ m task cites f. (budgets : Budgets) → NeverStops f budgets)

-- an answer is no stop but of conflicts, and none at all with such a budget
pub record IsAlmostDecided (f : Form) (budgets : Budgets) (found : Found) : Type 0 where
  pub by_conflicts : StopsByConflicts found
  pub decided : 3 ^ length f.shapes ≤ budgets.conflicts → IsDecided found

-- of all that `solve` promises of an answer
abbrev pub EachAnswerIsDecided : Type 0
EachAnswerIsDecided =
    OfEachQuery (λ m task cites f. (budgets : Budgets) (found : Found) → IsAnswered m task cites budgets found
    → (HasNoAtoms (query_of m task cites) → StopsByConflicts found) → IsAlmostDecided f budgets found)
