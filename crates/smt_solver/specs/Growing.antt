-- A solver's form grows by the atoms that its proof makes.
use Rattle.std.specs.Prelude.{ℕ, suc, ◌≡◌, ◌≢◌, ◌++◌, ◌∷◌, true, List, [], None, Some, length, slice_get, All, Contains}
use lib.IntN.{ℤ, negsuc, ◌-ℤ◌}
use Rattle.kind_num.specs.Exact.{within}
use Rattle.kind_num.specs.declared.Shape.TheVariants.{Number}
use Rattle.proof_steps.specs.declared.Literal.{Literal}
use Rattle.proof_steps.specs.View.{Inequality, Move, derived, theory, added}
use Rattle.proof_steps.specs.Meaning.{opposite}
use Rattle.proof_steps.specs.Rows.{Form}
use Rattle.proof_steps.specs.Bounds.{split_atom}
use Rattle.proof_steps.specs.Stopped.{Includes}
use Rattle.proof_checker.specs.Check.{move_fault}
use Rattle.line_laws.specs.Lines.{Part}
use Rattle.line_laws.specs.Steps.{both_of, conflict_step}
use Rattle.cnf_maker.specs.Plain.{IsPlain}
use Rattle.sat_core.specs.Shown.{Shown, Adds}
use Rattle.smt_solver.specs.Run.{Standing, IsRun}

-- the form with further atoms behind its own: those of splits and cuts
abbrev pub grown : Form → List Inequality → Form
grown f more = record { shapes = f.shapes; atoms = f.atoms ++ more; clauses = f.clauses }

-- the clause has a literal, none beside its opposite, and no known clause is a part of it
pub record SaysMore (known : List (List Literal)) (clause : List Literal) : Type 0 where
  pub literals : clause ≢ []
  pub no_opposites : All (λ m. ¬ Contains clause (opposite m)) clause
  pub fresh : All (λ other. ¬ Includes clause other) known

-- a theory step that breaks no rule of the checker behind the steps so far
abbrev pub IsTaken : Standing → Move → Type 0
IsTaken s (derived clause hints) = ⊥
IsTaken s (theory clause lines) = move_fault s.form.shapes s.form.atoms s.search.known (theory clause lines) ≡ None

-- both literals of the n-th atom, which is that of the split `x <= c`, and the step that one is true
abbrev pub split_parts : ℕ → ℕ → ℤ → List Part
split_parts n x c = both_of n (split_atom (x, c)) record { column = x; upper = true; limit = c }

abbrev pub split_move : ℕ → ℕ → ℤ → Move
split_move n x c = conflict_step (split_parts n x c)

-- a run stands when the form grows
abbrev pub RunsGrow : Type 0
RunsGrow =
    (s : Standing) (more : List Inequality) → IsRun s
    → IsRun record { form = grown s.form more; search = s.search; moves = s.moves; listed = s.listed }

-- and when the clause of a theory step that is taken is added; it can be listed as a conflict where it
-- says more than what is known
pub record TakesStep (s : Standing) (new : Shown) (m : Move) : Type 0 where
  pub unlisted : IsRun record { form = s.form; search = new; moves = s.moves ++ m ∷ []; listed = s.listed }
  pub as_conflict : SaysMore s.search.known (added m)
      → IsRun record { form = s.form; search = new; moves = s.moves ++ m ∷ []; listed = s.listed ++ added m ∷ [] }

abbrev pub RunsTakeSteps : Type 0
RunsTakeSteps =
    (s : Standing) (new : Shown) (m : Move) → IsRun s → IsTaken s m → Adds s.search new (added m) → TakesStep s new m

-- with the atom of a split of a number, behind the others, its step is taken
abbrev pub SplitsAreTaken : Type 0
SplitsAreTaken =
    (s : Standing) (x : ℕ) (c : ℤ) → IsPlain s.form → slice_get s.form.shapes x ≡ Some Number → within c ≡ true
    → within (negsuc 0 -ℤ c) ≡ true
    → IsTaken record {
      form = grown s.form (split_atom (x, c) ∷ []);
      search = s.search;
      moves = s.moves;
      listed = s.listed;
    } (split_move (suc (length s.form.atoms)) x c)
