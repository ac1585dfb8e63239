-- The laws of the parts of an instant, by the rows of a run.
use Rattle.std.specs.Prelude.{◌≡◌, ℕ, ◌<◌, List, []}
use Rattle.std.specs.List.{AllByRecursion}
use Rattle.lus_meaning.specs.Frame.{Frame}
use Rattle.lus_meaning.specs.Scene.{Instance}
use Rattle.lus_evaluation.specs.Part.{Part}
use Rattle.lus_evaluation.specs.Past.{NonePast}
use Rattle.order_laws.specs.Laws.{operations_there, OfEachEvaluation}

-- the resolutions of these parts have no operation outside 128 bits in the row of an instant
abbrev pub AreQuiet : Instance → Frame → ℕ → List Part → Type 0
AreQuiet i f t qs = AllByRecursion (λ q. operations_there i f t q ≡ []) qs

-- where it is so of all parts of an instant, they are within
abbrev pub QuietPartsAreWithin : Type 0
QuietPartsAreWithin = OfEachEvaluation (λ i m f qs. (t : ℕ) → t < m → AreQuiet i f t qs → NonePast i f qs t)

-- and the other way round
abbrev pub PartsWithinAreQuiet : Type 0
PartsWithinAreQuiet = OfEachEvaluation (λ i m f qs. (t : ℕ) → t < m → NonePast i f qs t → AreQuiet i f t qs)
