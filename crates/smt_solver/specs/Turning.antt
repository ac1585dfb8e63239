-- What a refutation of a tableau's check makes of a run.
use Rattle.std.specs.Prelude.{ℕ, suc, ◌≡◌, true, false, List, [], ◌∷◌, length, map, Option, Some, None, slice_get}
use lib.IntN.{ℤ, pos}
use Rattle.proof_steps.specs.declared.Literal.{Literal}
use Rattle.proof_steps.specs.declared.stops.PastStep.{PastStep}
use Rattle.proof_steps.specs.StopView.{past_view}
use Rattle.proof_steps.specs.View.{Inequality, added}
use Rattle.proof_steps.specs.Rows.{Form, rows_of, columns_of}
use Rattle.proof_steps.specs.Bounds.{split_atom}
use Rattle.proof_steps.specs.Stopped.{IsNumberOf, IsPastStep}
use Rattle.cnf_maker.specs.Plain.{IsPlain}
use Rattle.int_simplex.specs.State.{State}
use Rattle.int_simplex.specs.Farkas.{IsRefuted}
use Rattle.line_laws.specs.Lines.{meant}
use Rattle.line_laws.specs.Steps.{HasProducts}
use Rattle.smt_solver.specs.declared.numbers.meanings.Meaning.{Meaning}
use Rattle.smt_solver.specs.Conflicting.{AreMeaningsOf}
use Rattle.sat_core.specs.Shown.{Adds}
use Rattle.smt_solver.specs.Growing.{grown, split_move}
use Rattle.smt_solver.specs.Run.{Standing, IsRun}
use Rattle.smt_solver.specs.Stops.{IsTableauFor}

-- the numbers of what the atom and its opposite mean are within 128 bits
pub record HasMeanings (i : Inequality) : Type 0 where
  pub as_it_stands : HasProducts (pos 1) (meant true i)
  pub opposite : HasProducts (pos 1) (meant false i)

-- one more clause is listed
pub record IsCounted (old new : Standing) : Type 0 where
  pub run : IsRun new
  pub form : new.form ≡ old.form
  pub more : length new.listed ≡ suc (length old.listed)
  pub clause : List Literal
  pub search : Adds old.search new.search clause

-- a tableau of the query's rows, whose bounds, those of the true literals, one row refutes with these
-- multipliers
pub record IsRefutedFor (f : Form) (pairs : List (ℕ × ℤ)) (s : Standing) (ms : List Meaning) (t : State) (parts : List (ℤ × ℕ))
    : Type 0 where
  pub form : s.form ≡ grown f (map split_atom pairs)
  pub plain : IsPlain f
  pub tableau : IsTableauFor f pairs ms s.search.trail t
  pub refuted : IsRefuted t.given t.columns t.bounds parts

-- the clause of the refutation's step is added and listed; or an operation of the step is outside 128
-- bits, which is a true stop of the query with its splits
abbrev pub TurnsRefutation : Standing → Standing → List Meaning → List (ℕ × ℤ) → List (ℤ × ℕ) → Option PastStep → Type 0
TurnsRefutation old new ms first parts None = IsCounted old new
TurnsRefutation old new ms first parts (Some step) =
    (f : Form) (pairs : List (ℕ × ℤ)) (t : State) → IsRefutedFor f pairs old ms t parts → slice_get t.given 0 ≡ Some first
    → IsPastStep (rows_of f) (columns_of f) (IsNumberOf f pairs) (past_view step)

-- `x <= c`
abbrev pub meaning_of_split : ℕ → ℤ → Meaning
meaning_of_split x c = record { column = x; upper = true; limit = c; divisor = pos 1 }

-- the atom `x <= c` stands behind the others with what it means, and the clause that it or its opposite is
-- true is added and not listed
pub record IsSplitOff (x : ℕ) (c : ℤ) (old new : Standing) (ms : List Meaning) : Type 0 where
  pub run : IsRun new
  pub form : new.form ≡ grown old.form (split_atom (x, c) ∷ [])
  pub listed : new.listed ≡ old.listed
  pub search : Adds old.search new.search (added (split_move (suc (length old.form.atoms)) x c))
  pub meanings : AreMeaningsOf new.form ms
