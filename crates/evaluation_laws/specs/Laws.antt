-- The law of evaluations of a checked program.
use Rattle.std.specs.Prelude.{◌≡◌, List}
use Rattle.lus_meaning.specs.Scene.{Instance}
use Rattle.lus_meaning.specs.Program.{instance_of}
use Rattle.lus_meaning.specs.RuleLaws.{OfEach}
use Rattle.lus_evaluation.specs.Part.{Part}
use Rattle.lus_evaluation.specs.Evaluation.{IsEvaluation}

-- an instant is evaluated in one order, and in no other
pub record HasOneEvaluation (i : Instance) : Type 0 where
  pub parts : List Part
  pub evaluation : IsEvaluation i parts
  pub one : (qs : List Part) → IsEvaluation i qs → qs ≡ parts

-- so it is with an instant of each declaration
abbrev pub EachHasOneEvaluation : Type 0
EachHasOneEvaluation = OfEach (λ p n. HasOneEvaluation (instance_of p n))
