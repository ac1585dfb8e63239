-- The values of a query's variables under what is assigned and where a tableau's columns stand.
use Rattle.std.specs.Prelude.{ℕ, suc, ◌≡◌, true, List, [], ◌∷◌, Ok, All}
use lib.IntN.{ℤ}
use Rattle.kind_num.specs.declared.Shape.{Shape}
use Rattle.kind_num.specs.declared.Shape.TheVariants as k
use Rattle.proof_steps.specs.declared.Literal.TheVariants as l
use Rattle.proof_steps.specs.View.{Inequality}
use Rattle.proof_steps.specs.Rows.{Form, rows_of}
use Rattle.sys_terms.specs.declared.term.Entry.{Entry}
use Rattle.sys_terms.specs.declared.term.Entry.TheVariants as e
use Rattle.sys_terms.specs.View.{Question}
use Rattle.sys_terms.specs.Fits.{all_fit_one}
use Rattle.sys_terms.specs.Answers.{states_in}
use Rattle.cnf_maker.specs.ClauseForm.{clause_form}
use Rattle.sat_core.specs.declared.assigned.Assigned.{Assigned}
use Rattle.sat_core.specs.Trail.{value_of}
use Rattle.int_simplex.specs.State.{State, places_of}
use Rattle.int_simplex.specs.Sound.{IsSound}
use Rattle.int_simplex.specs.Points.{Fit}
use Rattle.int_cuts.specs.Splits.{IsWhole}
use Rattle.smt_solver.specs.declared.numbers.meanings.Meaning.{Meaning}
use Rattle.smt_solver.specs.Asserting.{bounds_at}
use Rattle.smt_solver.specs.Conflicting.{AreMeaningsOf}
use Rattle.smt_solver.specs.Growing.{grown}
use Rattle.smt_solver.specs.Run.{IsFull}
use Rattle.smt_solver.specs.Answered.{AreOf}
use Rattle.smt_solver.specs.States.{is_set}

-- a flag is true where it was assigned so; a number is its column's value, which is whole
abbrev pub number_entry : List Assigned → List (ℤ × ℤ) → ℕ → Shape → Entry
number_entry trail values n k.Flag = e.Flag (is_set (value_of trail (l.Flag n true)))
number_entry trail values n k.Number = e.Number (places_of values n)

-- those of the variables from n on
abbrev pub number_entries : List Assigned → List (ℤ × ℤ) → ℕ → List Shape → List Entry
number_entries trail values n [] = []
number_entries trail values n (s ∷ shapes) = number_entry trail values n s ∷ number_entries trail values (suc n) shapes

-- a tableau of the form's rows, in which the bounds of the true literals stand and are met by whole values
pub record IsMetBy (g : Form) (ms : List Meaning) (trail : List Assigned) (t : State) : Type 0 where
  pub meanings : AreMeaningsOf g ms
  pub sound : IsSound t
  pub given : t.given ≡ rows_of g
  pub bounds : t.bounds ≡ bounds_at trail 1 ms
  pub fit : Fit t.given t.bounds t.values
  pub whole : All IsWhole t.values

-- then the values meet the query's conditions, whatever atoms the proof has made
abbrev pub WholeValuesMeet : Type 0
WholeValuesMeet =
    (q : Question) (n count : ℕ) (f : Form) (more : List Inequality) (ms : List Meaning) (trail : List Assigned) (t : State)
    → all_fit_one q.shapes q.conditions ≡ true → clause_form q ≡ Ok f → IsFull f trail
    → IsMetBy (grown f more) ms trail t
    → AreOf q n count (states_in n count (number_entries trail t.values 0 q.shapes))
