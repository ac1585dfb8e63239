-- Of one query: which stops never come.
use Rattle.std.specs.Prelude.{ℕ, ◌≡◌, ◌≢◌, ◌+◌, ◌*◌, ◌<◌, ◌≤◌, ◌^◌, true, List, [], length, Ok, Some, slice_get}
use lib.IntN.{ℤ}
use Rattle.kind_num.specs.declared.Shape.TheVariants.{Number}
use Rattle.proof_steps.specs.declared.Literal.{Literal}
use Rattle.proof_steps.specs.declared.stops.Budgets.{Budgets}
use Rattle.proof_steps.specs.StopView.{conflicts, splits, pivots, past, Beginning, Operation}
use Rattle.proof_steps.specs.Rows.{Form, rows_of, columns_of}
use Rattle.proof_steps.specs.Stopped.{IsTrueOf}
use Rattle.sys_terms.specs.View.{Formula, Machine, Task}
use Rattle.sys_terms.specs.Fits.{IsMild, is_asked, is_light_task, all_fit_one, all_light}
use Rattle.sys_terms.specs.Queries.{query_of}
use Rattle.cnf_maker.specs.ClauseForm.{clause_form}
use Rattle.cnf_maker.specs.Plain.{IsPlain}
use Rattle.sat_core.specs.Few.{variable_count}
use Rattle.smt_solver.specs.View.{Found, unsat, sat, stop}
use Rattle.smt_solver.specs.Answered.{IsAnswered, HasNoAtoms, StopsByConflicts}
use Rattle.smt_solver.specs.Boolean.{all_boolean, is_boolean_machine, is_boolean_task}
use Rattle.smt_solver.specs.NeedRoom.{AtomsAreNeeded, BudgetsSuffice}
use Rattle.smt_solver.specs.Room.{HasRanges, rooms}
use Rattle.cause_laws.specs.Bases.{AreAllBases}
use Rattle.cause_laws.specs.Small.{HasSmallNumbers}

-- no variable of the query is a number
abbrev pub HasNoNumbers : Form → Type 0
HasNoNumbers f = (x : ℕ) → slice_get f.shapes x ≢ Some Number

-- the stops that are not true of a query with these budgets
pub record IsComplete (f : Form) (budgets : Budgets) : Type 0 where
  -- without numbers none of splits, of pivots or of an operation; a budget of no splits alone is used up by any query
  pub without_numbers : HasNoNumbers f → AtomsAreNeeded f budgets
  -- nor of conflicts, with a budget of at least 3 to the number of variables
  pub over_flags : HasNoNumbers f → 3 ^ length f.shapes ≤ budgets.conflicts
      → (clauses : List (List Literal)) (pairs : List (ℕ × ℤ)) → ¬ IsTrueOf f budgets (conflicts clauses pairs)
  -- where each number has a range, none of splits with a budget above the room of the ranges, and none of conflicts
  -- with one of at least 3 to the number of flags, atoms and room
  pub in_ranges : (low high : ℕ → ℤ) → HasRanges f low high → BudgetsSuffice f low high budgets
  -- none of pivots with a budget of at least the number of bases times 3 to the number of columns
  pub over_bases : (bases : List (List ℕ)) → AreAllBases (rows_of f) (columns_of f) bases
      → length bases * 3 ^ columns_of f ≤ budgets.pivots
      → (start : Beginning) (pairs : List (ℕ × ℤ)) → ¬ IsTrueOf f budgets (pivots start pairs)
  -- where each number has a range and numbers are small, none of an operation
  pub with_small_numbers : (low high : ℕ → ℤ) → HasRanges f low high → HasSmallNumbers f
      → (step : Operation) (pairs : List (ℕ × ℤ)) → ¬ IsTrueOf f budgets (past step pairs)

abbrev pub PlainFormsAreComplete : Type 0
PlainFormsAreComplete = (f : Form) (budgets : Budgets) → IsPlain f → IsComplete f budgets

-- what `solve` can be asked
pub record CanBeAsked (m : Machine) (task : Task) (cites : List Formula) : Type 0 where
  pub mild : IsMild m
  pub asked : is_asked m task ≡ true
  pub light_task : is_light_task task ≡ true
  pub cited : all_fit_one m.shapes cites ≡ true
  pub light_cites : all_light cites ≡ true

abbrev pub QueriesAreComplete : Type 0
QueriesAreComplete =
    (m : Machine) (task : Task) (cites : List Formula) (f : Form) (budgets : Budgets) → CanBeAsked m task cites
    → clause_form (query_of m task cites) ≡ Ok f → IsComplete f budgets

-- no term of the system, of the obligation and of the lemmas compares numbers
pub record IsBoolean (m : Machine) (task : Task) (cites : List Formula) : Type 0 where
  pub system : is_boolean_machine m ≡ true
  pub obligation : is_boolean_task task ≡ true
  pub lemmas : all_boolean cites ≡ true

-- a proof or states
abbrev pub IsDecided : Found → Type 0
IsDecided (unsat p) = Unit
IsDecided (sat states) = Unit
IsDecided (stop halt) = ⊥

-- what an answer to an obligation is not, whose query has this form
pub record IsCompleteAnswer (m : Machine) (task : Task) (cites : List Formula) (f : Form) (budgets : Budgets) (found : Found) : Type 0 where
  -- no stop but of conflicts where nothing compares numbers, whatever the budgets
  pub boolean : IsBoolean m task cites → StopsByConflicts found
  -- and none at all with a budget of at least 3 to the number of variables
  pub flags : IsBoolean m task cites → 3 ^ length f.shapes ≤ budgets.conflicts → IsDecided found
  pub no_splits : (low high : ℕ → ℤ) → HasRanges f low high → rooms f low high < budgets.splits
      → (pairs : List (ℕ × ℤ)) → found ≢ stop (splits pairs)
  pub no_conflicts : (low high : ℕ → ℤ) → HasRanges f low high → 3 ^ (variable_count f [] + rooms f low high) ≤ budgets.conflicts
      → (clauses : List (List Literal)) (pairs : List (ℕ × ℤ)) → found ≢ stop (conflicts clauses pairs)
  pub no_pivots : (bases : List (List ℕ)) → AreAllBases (rows_of f) (columns_of f) bases
      → length bases * 3 ^ columns_of f ≤ budgets.pivots
      → (start : Beginning) (pairs : List (ℕ × ℤ)) → found ≢ stop (pivots start pairs)
  pub no_past : (low high : ℕ → ℤ) → HasRanges f low high → HasSmallNumbers f
      → (step : Operation) (pairs : List (ℕ × ℤ)) → found ≢ stop (past step pairs)
  -- no stop at all where all of these hold
  pub decided : (low high : ℕ → ℤ) (bases : List (List ℕ)) → HasRanges f low high → HasSmallNumbers f
      → AreAllBases (rows_of f) (columns_of f) bases
      → rooms f low high < budgets.splits → 3 ^ (variable_count f [] + rooms f low high) ≤ budgets.conflicts
      → length bases * 3 ^ columns_of f ≤ budgets.pivots → IsDecided found

-- of all that `solve` promises of an answer
abbrev pub AnswersAreComplete : Type 0
AnswersAreComplete =
    (m : Machine) (task : Task) (cites : List Formula) (f : Form) (budgets : Budgets) (found : Found) → CanBeAsked m task cites
    → clause_form (query_of m task cites) ≡ Ok f
    → IsAnswered m task cites budgets found → (HasNoAtoms (query_of m task cites) → StopsByConflicts found)
    → IsCompleteAnswer m task cites f budgets found
