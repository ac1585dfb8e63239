-- A run over a query with its numbers, what holds of it at every turn, and how it ends.
use Rattle.std.specs.Prelude.{ℕ, suc, ◌≡◌, ◌+◌, ◌-◌, ◌<◌, ◌≤◌, true, List, length, map, take, Option, Some, None, Ok, All, Contains}
use lib.IntN.{ℤ}
use Rattle.proof_steps.specs.declared.Literal.TheVariants.{Atom}
use Rattle.proof_steps.specs.declared.stops.Budgets.{Budgets}
use Rattle.proof_steps.specs.StopView.{conflicts, splits, pivots, past, start_view, past_view}
use Rattle.proof_steps.specs.Rows.{Form, rows_of, columns_of}
use Rattle.proof_steps.specs.Bounds.{split_atom}
use Rattle.proof_steps.specs.Splits.{IsStand, IsSplit, AreSplits}
use Rattle.proof_steps.specs.Stopped.{IsTrueOf}
use Rattle.proof_checker.specs.Check.{verdict, refuted}
use Rattle.sys_terms.specs.View.{Question}
use Rattle.cnf_maker.specs.ClauseForm.{clause_form}
use Rattle.cnf_maker.specs.Plain.{IsPlain}
use Rattle.int_simplex.specs.State.{State, places_of}
use Rattle.smt_solver.specs.declared.numbers.meanings.Meaning.{Meaning}
use Rattle.smt_solver.specs.declared.run.End.{End}
use Rattle.smt_solver.specs.declared.run.End.TheVariants as e
use Rattle.smt_solver.specs.declared.solver.Solver.{Solver}
use Rattle.smt_solver.specs.Conflicting.{AreMeaningsOf, IsSettled}
use Rattle.smt_solver.specs.Growing.{grown}
use Rattle.smt_solver.specs.Near.{IsNear}
use Rattle.smt_solver.specs.NumberStates.{IsMetBy}
use Rattle.smt_solver.specs.Run.{Standing, AreFit, IsRun, IsFull, work_view}
use Rattle.smt_solver.specs.Stops.{IsFitting, IsFullOver}
use Rattle.smt_solver.specs.Turning.{HasMeanings}

-- the work on the query's form with the atoms of the splits, the tableau, what the atoms mean, and the
-- splits
pub record Course : Type 0 where
  pub work : Standing
  pub tableau : State
  pub meanings : List Meaning
  pub pairs : List (ℕ × ℤ)

abbrev pub solver_view : Solver → Course
solver_view s = record {
  work = work_view s.work;
  tableau = s.tableau;
  meanings = s.meanings.items;
  pairs = s.pairs.items;
}

-- the form without the atoms of the splits, which are the last ones
abbrev pub own_form : Course → Form
own_form s = record {
  shapes = s.work.form.shapes;
  atoms = take (length s.work.form.atoms - length s.pairs) s.work.form.atoms;
  clauses = s.work.form.clauses;
}

-- what holds at every turn: the form is the query's with the atoms of its splits, which are a split list;
-- the tableau is one of the query's rows, and each column outside the basis stands at 0, a bound of the
-- query or an end of a split; each atom is a variable of the search
pub record IsKept (f : Form) (s : Course) : Type 0 where
  pub plain : IsPlain f
  pub fit : AreFit f f.clauses
  pub form : s.work.form ≡ grown f (map split_atom s.pairs)
  pub run : IsRun s.work
  pub splits : AreSplits f s.pairs
  pub meanings : AreMeaningsOf s.work.form s.meanings
  pub near : All IsNear s.meanings
  pub meant : All HasMeanings s.work.form.atoms
  pub usable : s.tableau.usable ≡ true
  pub given : s.tableau.given ≡ rows_of f
  pub columns : s.tableau.columns ≡ columns_of f
  pub stand : (c : ℕ) → (¬ Contains s.tableau.basis c) → IsStand f s.pairs c (places_of s.tableau.values c)
  pub variables : (n : ℕ) → n < length s.work.form.atoms → Contains s.work.search.variables (Atom (suc n) true)

-- no more clauses are listed and no more splits made than the budgets say
pub record IsWithin (budgets : Budgets) (s : Course) : Type 0 where
  pub conflicts : length s.work.listed ≤ budgets.conflicts
  pub splits : length s.pairs ≤ budgets.splits

-- how many may still come
abbrev pub left : Budgets → Course → ℕ
left budgets s = (budgets.conflicts - length s.work.listed) + (budgets.splits - length s.pairs)

-- each atom has a value, and no clause is false
pub record IsAtFull (f : Form) (s : Course) : Type 0 where
  pub kept : IsKept f s
  pub full : IsFullOver f s.pairs s.work.search.trail
  pub settled : IsSettled s.work

-- and the tableau's values meet what the atoms mean by their values
pub record IsAtFit (f : Form) (s : Course) : Type 0 where
  pub kept : IsKept f s
  pub full : IsFullOver f s.pairs s.work.search.trail
  pub fitting : IsFitting f s.pairs s.meanings s.work.search.trail s.tableau

-- a tableau of whole values that meet the bounds at a full assignment
pub record IsWholeEnd (f : Form) (s : Course) : Type 0 where
  pub full : IsFull f s.work.search.trail
  pub met : IsMetBy (grown f (map split_atom s.pairs)) s.meanings s.work.search.trail s.tableau
  pub usable : s.tableau.usable ≡ true
  pub columns : s.tableau.columns ≡ columns_of f

-- a run ends with such values, with a refutation, or with a true stop of the query; of splits only where
-- there is one more
abbrev pub IsEnd : Form → Budgets → Course → End → Type 0
IsEnd f budgets s e.Full = IsWholeEnd f s
IsEnd f budgets s e.Empty = verdict f.shapes f.atoms f.clauses (map split_atom s.pairs) s.work.moves ≡ refuted
IsEnd f budgets s e.Conflicts = IsTrueOf f budgets (conflicts s.work.listed s.pairs)
IsEnd f budgets s e.Splits = IsTrueOf f budgets (splits s.pairs) × (x : ℕ) × (c : ℤ) × IsSplit f s.pairs x c
IsEnd f budgets s (e.Pivots start) = IsTrueOf f budgets (pivots (start_view start) s.pairs)
IsEnd f budgets s (e.Past step) = IsTrueOf f budgets (past (past_view step) s.pairs)

-- one more clause is listed, or one more split made
pub record IsMore (f : Form) (budgets : Budgets) (old new : Course) : Type 0 where
  pub kept : IsKept f new
  pub within : IsWithin budgets new
  pub less : left budgets new < left budgets old

abbrev pub Turns : Form → Budgets → Course → Course → Option End → Type 0
Turns f budgets old new None = IsMore f budgets old new
Turns f budgets old new (Some end) = IsEnd f budgets new end

-- the clause that was listed last is within the budget; or one more than the budget says
abbrev pub TurnsCounted : Form → Budgets → Course → Course → Option End → Type 0
TurnsCounted f budgets old new None = (new ≡ old) × (length old.work.listed ≤ budgets.conflicts)
TurnsCounted f budgets old new (Some end) = IsEnd f budgets new end

-- the run over the query's clause form ends so
pub record HasEnded (q : Question) (budgets : Budgets) (s : Course) (end : End) : Type 0 where
  pub form : Form
  pub is_form : clause_form q ≡ Ok form
  pub is_end : IsEnd form budgets s end
