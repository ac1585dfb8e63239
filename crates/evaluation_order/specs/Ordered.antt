-- The parts of an instant in the least order by what each waits for.
use Rattle.std.specs.Prelude.{◌≡◌, ℕ, List, length, Some, slice_get}
use Rattle.lus_meaning.specs.Order.{IsLeastOrder, IsStuck}
use Rattle.lus_meaning.specs.Scene.{Instance}
use Rattle.lus_evaluation.specs.Part.{Part}
use Rattle.lus_evaluation.specs.Frame.{picked}
use Rattle.lus_evaluation.specs.Evaluation.{Waits}
use Rattle.evaluation_parts.specs.Unfolded.{Declared}

-- parts in the order in which again and again the first comes that waits for none that is still to come
pub record IsOrdered (i : Instance) (qs rs : List Part) : Type 0 where
  pub numbers : List ℕ
  pub order : IsLeastOrder (length qs) (Waits i qs) numbers
  pub parts : rs ≡ picked numbers qs

-- some parts are left, and each of them waits for one of them
abbrev pub AreStuck : Instance → List Part → Type 0
AreStuck i qs = (ks : List ℕ) × IsStuck (length qs) (Waits i qs) ks

-- of the declaration of a place, where there is one
abbrev pub OfPlace : List Declared → ℕ → (Declared → Type 0) → Type 0
OfPlace ts k P = (t : Declared) → slice_get ts k ≡ Some t → P t
