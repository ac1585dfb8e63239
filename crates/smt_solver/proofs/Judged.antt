-- What an accepted attempt says.
use Rattle.std.specs.Prelude.{◌≡◌, Bool, true, false, ◌&&◌, List, [], ◌∷◌, Option, Some, None, All, Result, Ok, Err, length, ℕ, refl}
use Rattle.std.proofs.Common.{ap, sym, ◌∙◌, subst}
use Rattle.std.proofs.lemmas.List.Elements.{All-nil, All-cons}
use Rattle.kind_num.specs.declared.Past.{Past}
use Rattle.sys_terms.specs.View.{Formula, Question}
use Rattle.sys_terms.specs.declared.term.Entry.{Entry}
use Rattle.sys_terms.specs.Meaning.{Values, values_of, truth_of}
use Rattle.sys_terms.specs.Evaluated.{evaluated, evaluated_at}
use Rattle.sys_terms.specs.Operations.{operations, first_past, unless_past}
use Rattle.sys_terms.specs.Queries.{Meets}
use Rattle.sys_terms.specs.Fits.{state_fits}
use Rattle.sys_terms.proofs.Placed.{both_true}
use Rattle.sys_terms.proofs.Divided.{state_fits-length}
use Rattle.proof_steps.specs.Rows.{Form}
use Rattle.smt_solver.specs.declared.answer.Answer.{Answer}
use Rattle.smt_solver.specs.declared.attempt.outcome.Attempt.{Attempt}
use Rattle.smt_solver.specs.declared.attempt.outcome.Attempt.TheVariants.{Refuted, Found}
use Rattle.proof_steps.specs.declared.stops.Budgets.{Budgets}
use Rattle.cnf_maker.specs.ClauseForm.{clause_form}
use Rattle.smt_solver.specs.Answered.{IsTrueOver, StopsByConflicts}
use Rattle.smt_solver.specs.View.{Found as Answered, unsat, sat, stop}
use Rattle.smt_solver.specs.Judging.{holds, all_hold, is_met_by, IsVerdict, IsVerdictIf, Judges, MetValuesMeet}

abbrev EvaluationIsTheTruth : Type 0
EvaluationIsTheTruth =
    (now next : Values) (f : Formula) → evaluated now next f ≡ unless_past (first_past (operations now next f)) (truth_of now next f)

held : (past : Option Past) (b : Bool) → holds (unless_past past b) ≡ true → b ≡ true
held None b h = h
held (Some p) b h = absurd cc

module _ (law : EvaluationIsTheTruth) where
  holds-true : (v : Values) (f : Formula) → holds (evaluated v v f) ≡ true → truth_of v v f ≡ true
  holds-true v f h = held (first_past (operations v v f)) (truth_of v v f) (ap holds (sym (law v v f)) ∙ h)

  pub all-hold-meet : (values : List Entry) (fs : List Formula) → all_hold values fs ≡ true → Meets (values_of values) fs
  all-hold-meet values [] h = All-nil (λ f. truth_of (values_of values) (values_of values) f ≡ true)
  all-hold-meet values (f ∷ fs) h =
      let k = both_true _ _ h in
      All-cons (λ g. truth_of (values_of values) (values_of values) g ≡ true) f fs
      (holds-true (values_of values) f k.0) (all-hold-meet values fs k.1)

  pub met-meets : MetValuesMeet
  met-meets q n count values h = record {
    values = values;
    fit = (both_true _ _ h).0;
    meet = all-hold-meet values q.conditions (both_true _ _ h).1;
    same = refl;
  }

  -- what is judged so is a verdict
  pub judged-verdict : (q : Question) (n count : ℕ) (f : Form) (found : Option Attempt) (answer : Option Answer)
      → Judges q n count f found answer
      → IsVerdictIf q n count f answer
  judged-verdict q n count f found None h = tt
  judged-verdict q n count f None (Some a) h = absurd cc
  judged-verdict q n count f (Some (Refuted p)) (Some a) h = subst (IsVerdict q n count f) (sym h.1) h.0
  judged-verdict q n count f (Some (Found values)) (Some a) h =
      subst (IsVerdict q n count f) (sym h.1) (met-meets q n count values.items h.0)

pub met-length : (q : Question) (values : List Entry) → is_met_by q values ≡ true → length q.shapes ≡ length values
met-length q values h = state_fits-length q.shapes values (both_true _ _ h).0

-- a verdict is an answer, and no stop
pub verdict-true : (q : Question) (n count : ℕ) (f : Form) (budgets : Budgets) (found : Answered) → clause_form q ≡ Ok f
    → IsVerdict q n count f found
    → IsTrueOver q n count budgets found
verdict-true q n count f budgets (unsat p) e h = record { form = f; is_form = e; is_true = h }
verdict-true q n count f budgets (sat states) e h = record { form = f; is_form = e; is_true = h }
verdict-true q n count f budgets (stop halt) e h = absurd h

pub verdict-stops : (q : Question) (n count : ℕ) (f : Form) (found : Answered) → IsVerdict q n count f found → StopsByConflicts found
verdict-stops q n count f (unsat p) h = tt
verdict-stops q n count f (sat states) h = tt
verdict-stops q n count f (stop halt) h = absurd h
