-- A solver at work on a form, and what a turn of it changes.
use Rattle.std.specs.Prelude.{◌≡◌, false, true, List, [], ◌++◌, length, map, All, Contains, Ok}
use Rattle.proof_steps.specs.declared.Literal.{Literal}
use Rattle.proof_steps.specs.View.{Move, added, clause_view, step_view}
use Rattle.proof_steps.specs.Meaning.{Values, Solves}
use Rattle.proof_steps.specs.Rows.{Form}
use Rattle.proof_steps.specs.Stopped.{AreLearnt}
use Rattle.proof_checker.specs.Check.{literals_fit, concludes}
use Rattle.proof_checker.specs.Rules.{IsRight}
use Rattle.sys_terms.specs.View.{Question}
use Rattle.sys_terms.specs.Fits.{all_fit_one}
use Rattle.cnf_maker.specs.ClauseForm.{clause_form}
use Rattle.cnf_maker.specs.View.{form_view}
use Rattle.sat_core.specs.declared.assigned.Assigned.{Assigned}
use Rattle.sat_core.specs.Trail.{trues, IsApart}
use Rattle.sat_core.specs.Shown.{Shown}
use Rattle.smt_solver.specs.declared.work.Work.{Work}

-- the form, the search over it, the steps of the proof so far, and the clauses that count as conflicts
pub record Standing : Type 0 where
  pub form : Form
  pub search : Shown
  pub moves : List Move
  pub listed : List (List Literal)

abbrev pub work_view : Work → Standing
work_view w = record {
  form = form_view w.cnf;
  search = w.search;
  moves = map step_view w.steps.items;
  listed = map clause_view w.listed.items;
}

-- the clauses' literals are flags and atoms of the form
abbrev pub AreFit : Form → List (List Literal) → Type 0
AreFit f clauses = All (λ c. literals_fit f.shapes (length f.atoms) c ≡ true) clauses

-- so are those of a query whose conditions fit
abbrev pub ClausesFit : Question → Type 0
ClausesFit q = all_fit_one q.shapes q.conditions ≡ true → (f : Form) → clause_form q ≡ Ok f → AreFit f f.clauses

-- what holds at every turn: the search's clauses are those of the form and of the steps, which break
-- no rule; the listed ones are among them, and each said something new
pub record IsRun (s : Standing) : Type 0 where
  pub known : s.search.known ≡ s.form.clauses ++ map added s.moves
  pub fit : AreFit s.form s.search.known
  pub right : IsRight s.form.shapes s.form.atoms s.form.clauses [] s.moves
  pub follows : (v : Values) → Solves s.form.atoms v s.form.clauses → Solves s.form.atoms v s.search.known
  pub goes_on : concludes s.search.log ≡ false
  pub learnt : AreLearnt s.form [] s.form.clauses s.listed
  pub among : All (Contains s.search.known) s.listed

-- no variable stands twice, and each clause has a true literal
pub record IsFull (f : Form) (trail : List Assigned) : Type 0 where
  pub apart : IsApart trail
  pub satisfied : All (λ c. (l : Literal) × Contains c l × Contains (trues trail) l) f.clauses
