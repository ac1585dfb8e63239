-- The laws of evaluation.
use Rattle.std.specs.Prelude.{◌≡◌, ℕ, ◌<◌, true, List, ◌∷◌, ◌++◌, length, Some, slice_get, ◌⊎◌}
use Rattle.lus_tree.specs.declared.place.Pos.{Pos}
use Rattle.kind_num.specs.declared.Past.{Past}
use Rattle.lus_meaning.specs.Frame.{Frame}
use Rattle.lus_meaning.specs.Scene.{Instance}
use Rattle.lus_meaning.specs.Order.{is_listed, IsLeastOrder}
use Rattle.lus_evaluation.specs.Part.{Part}
use Rattle.lus_evaluation.specs.Evaluation.{Waits, IsEvaluation}
use Rattle.lus_evaluation.specs.Past.{IsWithin, IsFirstPast}
use Rattle.lus_evaluation.specs.Outcome.{StaysWithin, MeetsPast}

-- an instant is evaluated in one order alone
abbrev pub OneEvaluation : Type 0
OneEvaluation = (i : Instance) (qs rs : List Part) → IsEvaluation i qs → IsEvaluation i rs → qs ≡ rs

-- of two parts of a frame whose wholes need the same, as those of one whole do, the one that comes first in turn is evaluated first
abbrev pub TurnKept : Type 0
TurnKept =
    (i : Instance) (ps : List Part) (ks : List ℕ) → IsLeastOrder (length ps) (Waits i ps) ks → (first second : ℕ) (p q : Part) →
    slice_get ps first ≡ Some p → slice_get ps second ≡ Some q → first < second → p.way ≡ q.way → p.needs ≡ q.needs →
    (before after : List ℕ) → ks ≡ before ++ second ∷ after → is_listed before first ≡ true

-- a part that comes directly behind one that in turn stands behind it waits for that one: it can't be that it does not
abbrev pub LateComesBehind : Type 0
LateComesBehind =
    (i : Instance) (ps : List Part) (ks : List ℕ) → IsLeastOrder (length ps) (Waits i ps) ks → (late given : ℕ) (before after : List ℕ) →
    ks ≡ before ++ given ∷ late ∷ after → late < given → (Waits i ps late given → ⊥) → ⊥

-- what is said of a first value outside 128 bits
pub record Told (i : Instance) (f : Frame) (qs : List Part) (n : ℕ) : Type 0 where
  pub at : Pos
  pub instant : ℕ
  pub past : Past
  pub first : IsFirstPast i f qs n at instant past

-- all values are within 128 bits, or there is a first one that is not
abbrev pub WithinOrPast : Type 0
WithinOrPast = (i : Instance) (f : Frame) (qs : List Part) (n : ℕ) → IsWithin i f qs n ⊎ Told i f qs n

-- and not both
abbrev pub NeverBoth : Type 0
NeverBoth = (i : Instance) (f : Frame) (qs : List Part) (n : ℕ) → IsWithin i f qs n → Told i f qs n → ⊥

-- and it is told in one way alone
abbrev pub OneFirstPast : Type 0
OneFirstPast = (i : Instance) (f : Frame) (qs : List Part) (n : ℕ) (at at' : Pos) (t t' : ℕ) (past past' : Past) →
    IsFirstPast i f qs n at t past → IsFirstPast i f qs n at' t' past' → (at ≡ at') × (t ≡ t') × (past ≡ past')

-- so the evaluation of a frame stays within 128 bits, or meets one value outside: never both, and no two
pub record OneOutcome : Type 0 where
  pub never_both : (i : Instance) (f : Frame) (n : ℕ) (at : Pos) (t : ℕ) (past : Past) → StaysWithin i f n → MeetsPast i f n at t past → ⊥
  pub one : (i : Instance) (f : Frame) (n : ℕ) (at at' : Pos) (t t' : ℕ) (past past' : Past) → MeetsPast i f n at t past →
      MeetsPast i f n at' t' past' → (at ≡ at') × (t ≡ t') × (past ≡ past')
