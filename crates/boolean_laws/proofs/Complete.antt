-- The stops that never come of a program without integers.
use Rattle.std.specs.Prelude.{◌≡◌, ◌≤◌, ◌^◌, true, List, [], length, Ok, Result, All}
use Rattle.std.proofs.Common.{subst, sym}
use Rattle.std.proofs.lemmas.List.Elements.{All-nil}
use Rattle.kind_num.specs.declared.Past.{Past}
use Rattle.proof_steps.specs.View.{Inequality}
use Rattle.proof_steps.specs.declared.stops.Budgets.{Budgets}
use Rattle.proof_steps.specs.StopView.{conflicts, splits, pivots, past}
use Rattle.proof_steps.specs.Rows.{Form}
use Rattle.sys_terms.specs.View.{Formula, Machine, Task}
use Rattle.sys_terms.specs.Queries.{query_of}
use Rattle.sys_meaning.specs.System.{system_of}
use Rattle.lus_meaning.specs.Program.{instance_of}
use Rattle.cnf_maker.specs.ClauseForm.{clause_form}
use Rattle.cnf_maker.specs.Plain.{IsPlainAtom}
use Rattle.smt_solver.specs.View.{Found, unsat, sat, stop}
use Rattle.smt_solver.specs.Answered.{IsTrue, StopsByConflicts}
use Rattle.smt_solver.specs.Boolean.{BooleanQueriesHaveNoAtoms, all_boolean, is_boolean_task}
use Rattle.cause_laws.specs.Complete.{HasNoNumbers, PlainFormsAreComplete, IsDecided}
use Rattle.boolean_laws.specs.Laws.{IsOfFlags, SystemsAreOfFlags}
use Rattle.boolean_laws.specs.Complete.{QueriesHaveNoNumbers, NeverStops, EachQueryNeverStops, EachAnswerIsDecided}
use Rattle.boolean_laws.proofs.Queries.{boolean_machine}

abbrev NoAtoms : Type 0
NoAtoms = (m : Machine) (task : Task) (cites : List Formula) → BooleanQueriesHaveNoAtoms m task cites

same_form : (f g : Form) (r : Result Form Past) → r ≡ Ok f → r ≡ Ok g → f ≡ g
same_form f g r p q = cc

never_stops : PlainFormsAreComplete → NoAtoms → QueriesHaveNoNumbers → (m : Machine) (task : Task) (cites : List Formula) (f : Form) → IsOfFlags m →
    is_boolean_task task ≡ true → all_boolean cites ≡ true → clause_form (query_of m task cites) ≡ Ok f → (budgets : Budgets) → NeverStops f budgets
never_stops plain none without m task cites f o b c e budgets =
    let empty : f.atoms ≡ [] = (none m task cites (boolean_machine m o) b c).none f e in
    let made = without m task cites o b c in
    let n = subst HasNoNumbers (same_form made.form f (clause_form (query_of m task cites)) made.is_form e) made.numbers in
    let w = plain f budgets (subst (λ (as_ : List Inequality). All (IsPlainAtom f.shapes) as_) (sym empty) (All-nil (IsPlainAtom f.shapes))) in
    record { numbers = n; needed = w.without_numbers n; flags = w.over_flags n }

pub queries_never_stop : PlainFormsAreComplete → NoAtoms → QueriesHaveNoNumbers → SystemsAreOfFlags → EachQueryNeverStops
queries_never_stop plain none without flags p c n j h task cites f b d e budgets =
    never_stops plain none without (system_of (instance_of p n)) task cites f (flags p c n j h) b d e budgets

-- ---- answers

decided_by : (m : Machine) (task : Task) (cites : List Formula) (f : Form) (budgets : Budgets) → NeverStops f budgets → 3 ^ length f.shapes ≤ budgets.conflicts →
    (found : Found) → IsTrue m task cites f budgets found → StopsByConflicts found → IsDecided found
decided_by m task cites f budgets n l (unsat p) t s = tt
decided_by m task cites f budgets n l (sat states) t s = tt
decided_by m task cites f budgets n l (stop (conflicts clauses pairs)) t s = n.flags l clauses pairs t
decided_by m task cites f budgets n l (stop (splits pairs)) t s = s
decided_by m task cites f budgets n l (stop (pivots start pairs)) t s = s
decided_by m task cites f budgets n l (stop (past step pairs)) t s = s

pub answers_are_decided : NoAtoms → SystemsAreOfFlags → EachQueryNeverStops → EachAnswerIsDecided
answers_are_decided none flags never p c n j h task cites f b d e budgets found a s =
    let m = system_of (instance_of p n) in
    let by = s (none m task cites (boolean_machine m (flags p c n j h)) b d) in
    record {
      by_conflicts = by;
      decided = λ l. decided_by m task cites f budgets (never p c n j h task cites f b d e budgets) l found
          (subst (λ g. IsTrue m task cites g budgets found) (same_form a.form f (clause_form (query_of m task cites)) a.is_form e) a.is_true) by;
    }
