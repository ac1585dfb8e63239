-- What comes of the evaluation of a frame of a declaration.
use Rattle.std.specs.Prelude.{ℕ, List}
use Rattle.lus_tree.specs.declared.place.Pos.{Pos}
use Rattle.kind_num.specs.declared.Past.{Past}
use Rattle.lus_meaning.specs.Frame.{Frame}
use Rattle.lus_meaning.specs.Scene.{Instance}
use Rattle.lus_evaluation.specs.Part.{Part}
use Rattle.lus_evaluation.specs.Evaluation.{IsEvaluation}
use Rattle.lus_evaluation.specs.Past.{IsWithin, IsFirstPast}

-- n instants are evaluated one after the other, and no value is outside 128 bits
pub record StaysWithin (i : Instance) (f : Frame) (n : ℕ) : Type 0 where
  pub parts : List Part
  pub evaluation : IsEvaluation i parts
  pub within : IsWithin i f parts n

-- they are, and this value is the first outside
pub record MeetsPast (i : Instance) (f : Frame) (n : ℕ) (at : Pos) (t : ℕ) (past : Past) : Type 0 where
  pub parts : List Part
  pub evaluation : IsEvaluation i parts
  pub first : IsFirstPast i f parts n at t past
