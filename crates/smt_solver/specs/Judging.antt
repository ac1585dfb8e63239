-- What an attempt is judged by.
use Rattle.std.specs.Prelude.{ℕ, ◌≡◌, ◌≢◌, Bool, true, false, ◌&&◌, List, [], ◌∷◌, Option, Some, None, Result, Ok, Err}
use Rattle.kind_num.specs.declared.Past.{Past}
use Rattle.proof_steps.specs.View.{Refutation, proof_view}
use Rattle.proof_steps.specs.Rows.{Form}
use Rattle.proof_checker.specs.Check.{verdict, refuted}
use Rattle.sys_terms.specs.View.{Formula, Question}
use Rattle.sys_terms.specs.declared.term.Entry.{Entry}
use Rattle.sys_terms.specs.Answers.{states_in}
use Rattle.sys_terms.specs.Evaluated.{evaluated_at}
use Rattle.sys_terms.specs.Fits.{state_fits}
use Rattle.smt_solver.specs.declared.answer.Answer.{Answer}
use Rattle.smt_solver.specs.declared.attempt.outcome.Attempt.{Attempt}
use Rattle.smt_solver.specs.declared.attempt.outcome.Attempt.TheVariants.{Refuted, Found}
use Rattle.smt_solver.specs.Answered.{AreOf}
use Rattle.smt_solver.specs.View.{Found as Answered, unsat, sat, stop, answer_view}

-- the truth that was evaluated; past 128 bits nothing is true
abbrev pub holds : Result Bool Past → Bool
holds (Ok b) = b
holds (Err past) = false

abbrev pub all_hold : List Entry → List Formula → Bool
all_hold values [] = true
all_hold values (f ∷ fs) = holds (evaluated_at values values f) && all_hold values fs

-- the values are of the query's shapes, and each condition is evaluated as true of them
abbrev pub is_met_by : Question → List Entry → Bool
is_met_by q values = state_fits q.shapes values && all_hold values q.conditions

-- the checker accepts the proof for exactly this form
abbrev pub Refutes : Form → Refutation → Type 0
Refutes f p = verdict f.shapes f.atoms f.clauses p.atoms p.moves ≡ refuted

-- a proof that the checker accepts, or states whose values meet the query's conditions; a stop is no verdict
abbrev pub IsVerdict : Question → (n count : ℕ) → Form → Answered → Type 0
IsVerdict q n count f (unsat p) = Refutes f p
IsVerdict q n count f (sat states) = AreOf q n count states
IsVerdict q n count f (stop halt) = ⊥

abbrev pub IsVerdictIf : Question → (n count : ℕ) → Form → Option Answer → Type 0
IsVerdictIf q n count f None = Unit
IsVerdictIf q n count f (Some a) = IsVerdict q n count f (answer_view a)

-- the proof itself where the checker accepts it, and nothing where it doesn't
abbrev pub JudgesProof : Form → Refutation → Option Answer → Type 0
JudgesProof f p None = ¬ Refutes f p
JudgesProof f p (Some a) = Refutes f p × (answer_view a ≡ unsat p)

-- the states that the values make where they meet the query, and nothing where they don't
abbrev pub JudgesValues : Question → (n count : ℕ) → List Entry → Option Answer → Type 0
JudgesValues q n count values None = is_met_by q values ≡ false
JudgesValues q n count values (Some a) = (is_met_by q values ≡ true) × (answer_view a ≡ sat (states_in n count values))

-- exactly what was found, where it is what it is said to be
abbrev pub Judges : Question → (n count : ℕ) → Form → Option Attempt → Option Answer → Type 0
Judges q n count f None answer = answer ≡ None
Judges q n count f (Some (Refuted p)) answer = JudgesProof f (proof_view p) answer
Judges q n count f (Some (Found values)) answer = JudgesValues q n count values.items answer

-- values of which each condition is evaluated as true meet the query, and so make states of it
abbrev pub MetValuesMeet : Type 0
MetValuesMeet =
    (q : Question) (n count : ℕ) (values : List Entry) → is_met_by q values ≡ true
    → AreOf q n count (states_in n count values)
