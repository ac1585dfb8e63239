-- What the end of a run over a grown form says of the query.
use Rattle.std.specs.Prelude.{ℕ, ◌≡◌, List, [], map, All, Some, slice_get}
use lib.IntN.{ℤ}
use Rattle.kind_num.specs.declared.Shape.TheVariants.{Number}
use Rattle.proof_steps.specs.View.{Move}
use Rattle.proof_steps.specs.Rows.{Form}
use Rattle.proof_steps.specs.Bounds.{split_atom}
use Rattle.proof_steps.specs.Stopped.{AreLearnt}
use Rattle.proof_checker.specs.Check.{verdict, refuted}
use Rattle.smt_solver.specs.Growing.{grown}
use Rattle.smt_solver.specs.Run.{Standing, AreFit, IsRun}

-- the listed clauses are conflicts of the query with its splits
abbrev pub ListedAreOfTheQuery : Type 0
ListedAreOfTheQuery =
    (f : Form) (pairs : List (ℕ × ℤ)) (s : Standing) → AreFit f f.clauses → s.form ≡ grown f (map split_atom pairs)
    → IsRun s → AreLearnt f pairs f.clauses s.listed

-- steps that refute the grown form's clauses refute the query's, with the atoms of the splits, which are of numbers
abbrev pub RefutationsAreOfTheQuery : Type 0
RefutationsAreOfTheQuery =
    (f : Form) (pairs : List (ℕ × ℤ)) (moves : List Move)
    → All (λ (p : ℕ × ℤ). slice_get f.shapes p.0 ≡ Some Number) pairs
    → verdict f.shapes (grown f (map split_atom pairs)).atoms f.clauses [] moves ≡ refuted
    → verdict f.shapes f.atoms f.clauses (map split_atom pairs) moves ≡ refuted
