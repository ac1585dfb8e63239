use Rattle.std.specs.Prelude.{[], ◌∷◌, ◌++◌, refl}
use Rattle.proof_steps.specs.View.{added}
use Rattle.smt_solver.proofs.Adding.{added-as, counted-as}
use Rattle.smt_solver.proofs.laws.runs_take_steps.Goals as goal

pub returns : goal.returns
returns c = λ s new m h taken adds. record {
  unlisted = added-as s new h m (s.moves ++ m ∷ []) taken adds refl;
  as_conflict = λ more. counted-as s new h m (s.moves ++ m ∷ []) (s.listed ++ added m ∷ []) taken more adds refl refl;
}
