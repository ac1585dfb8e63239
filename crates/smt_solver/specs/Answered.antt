-- What an answer says of the query.
use Rattle.std.specs.Prelude.{ℕ, ◌≡◌, true, List, [], Ok}
use Rattle.proof_steps.specs.declared.stops.Budgets.{Budgets}
use Rattle.proof_steps.specs.StopView.{Halt, conflicts, splits, pivots, past}
use Rattle.proof_steps.specs.Rows.{Form}
use Rattle.proof_steps.specs.Stopped.{IsTrueOf}
use Rattle.proof_checker.specs.Check.{verdict, refuted}
use Rattle.sys_terms.specs.View.{Formula, Machine, Task, Question}
use Rattle.sys_terms.specs.declared.term.Entry.{Entry}
use Rattle.sys_terms.specs.Meaning.{values_of}
use Rattle.sys_terms.specs.Fits.{state_fits}
use Rattle.sys_terms.specs.Queries.{Meets, query_of}
use Rattle.sys_terms.specs.Answers.{IsAnswer, states_in}
use Rattle.cnf_maker.specs.ClauseForm.{clause_form}
use Rattle.smt_solver.specs.View.{Found, unsat, sat, stop}

-- the checker refutes the clauses by the proof; the states answer the obligation with no; the stop is
-- true of the clauses with these budgets
abbrev pub IsTrue : Machine → Task → List Formula → Form → Budgets → Found → Type 0
IsTrue m task cites f budgets (unsat p) = verdict f.shapes f.atoms f.clauses p.atoms p.moves ≡ refuted
IsTrue m task cites f budgets (sat states) = IsAnswer m task cites states
IsTrue m task cites f budgets (stop halt) = IsTrueOf f budgets halt

-- states of n variables each whose values meet the query's conditions
pub record AreOf (q : Question) (n count : ℕ) (states : List (List Entry)) : Type 0 where
  pub values : List Entry
  pub fit : state_fits q.shapes values ≡ true
  pub meet : Meets (values_of values) q.conditions
  pub same : states ≡ states_in n count values

-- the same, of a query without its obligation
abbrev pub IsTrueFor : Question → (n count : ℕ) → Form → Budgets → Found → Type 0
IsTrueFor q n count f budgets (unsat p) = verdict f.shapes f.atoms f.clauses p.atoms p.moves ≡ refuted
IsTrueFor q n count f budgets (sat states) = AreOf q n count states
IsTrueFor q n count f budgets (stop halt) = IsTrueOf f budgets halt

pub record IsTrueOver (q : Question) (n count : ℕ) (budgets : Budgets) (found : Found) : Type 0 where
  pub form : Form
  pub is_form : clause_form q ≡ Ok form
  pub is_true : IsTrueFor q n count form budgets found

-- the obligation's query has a clause form, of which the answer is true
pub record IsAnswered (m : Machine) (task : Task) (cites : List Formula) (budgets : Budgets) (found : Found) : Type 0 where
  pub form : Form
  pub is_form : clause_form (query_of m task cites) ≡ Ok form
  pub is_true : IsTrue m task cites form budgets found

-- the clause form compares no numbers
pub record HasNoAtoms (q : Question) : Type 0 where
  pub none : (f : Form) → clause_form q ≡ Ok f → f.atoms ≡ []

-- a stop for as many conflicts, without splits
abbrev pub IsConflicts : Halt → Type 0
IsConflicts (conflicts clauses pairs) = pairs ≡ []
IsConflicts (splits pairs) = ⊥
IsConflicts (pivots start pairs) = ⊥
IsConflicts (past step pairs) = ⊥

abbrev pub StopsByConflicts : Found → Type 0
StopsByConflicts (unsat p) = Unit
StopsByConflicts (sat states) = Unit
StopsByConflicts (stop halt) = IsConflicts halt
