-- What the row of a run says of all that is evaluated at an instant.
use Rattle.std.specs.Prelude.{◌≡◌, ℕ, ◌<◌, ◌≤◌, List}
use Rattle.std.specs.List.{AllByRecursion}
use Rattle.lus_meaning.specs.Frame.{Frame}
use Rattle.lus_meaning.specs.Scene.{Instance}
use Rattle.lus_meaning.specs.Program.{instance_of}
use Rattle.lus_meaning.specs.RuleLaws.{OfEach}
use Rattle.lus_evaluation.specs.Part.{Part}
use Rattle.lus_evaluation.specs.Evaluation.{IsEvaluation}
use Rattle.lus_evaluation.specs.Past.{NonePast}
use Rattle.lus_evaluation.specs.Outcome.{StaysWithin}
use Rattle.slot_values.specs.Evaluated.{outside}
use Rattle.slot_sources.specs.Rows.{is_on}
use Rattle.slot_sources.specs.Sources.{sources_of}
use Rattle.slot_sources.specs.Parts.{part_switch, part_resolution}
use Rattle.evaluation_laws.specs.Rows.{row_at, AreCalls}
use Rattle.order_laws.specs.Laws.{operations_there, OfEachEvaluation}
use Rattle.condition_laws.specs.Conditions.{legal_resolutions, property_resolutions}
use Rattle.condition_laws.specs.Laws.{OfEachRun}
use Rattle.condition_laws.specs.Within.{NoneOutside}
use Rattle.within_laws.specs.Sources.{AreSourcesQuiet}

-- ---- parts over slots

-- each part stands in the frame at the end of a way of calls
abbrev pub PartsStandAtCalls : Type 0
PartsStandAtCalls =
    OfEach (λ p n. (qs : List Part) → IsEvaluation (instance_of p n) qs → AllByRecursion (λ q. AreCalls (instance_of p n) q.way) qs)

-- In the row of a run the operations of a part are those of its resolution over slots, evaluated where the slot of its clock says so.
abbrev pub IsOverSlots : Instance → Frame → ℕ → Part → Type 0
IsOverSlots i f t q = operations_there i f t q ≡ outside (row_at i f t) (is_on (row_at i f t) (part_switch i q)) (part_resolution i q)

abbrev pub PartsAreOverSlots : Type 0
PartsAreOverSlots = OfEachEvaluation (λ i m f qs. (t : ℕ) → t < m → AllByRecursion (IsOverSlots i f t) qs)

-- ---- instants

-- Where no source and no condition has an operation outside 128 bits in the row of an instant, all parts are within.
abbrev pub InstantsAreWithin : Type 0
InstantsAreWithin =
    OfEachEvaluation (λ i m f qs. (t : ℕ) → t < m → AreSourcesQuiet (row_at i f t) (sources_of i) → NoneOutside (row_at i f t) (legal_resolutions i) →
    NoneOutside (row_at i f t) (property_resolutions i) → NonePast i f qs t)

-- So the evaluation of the first n instants of a run stays within, where it is so at each of them.
abbrev pub QuietRunsStayWithin : Type 0
QuietRunsStayWithin =
    OfEachRun (λ i m f. (n : ℕ) → n ≤ m → ((t : ℕ) → t < n → AreSourcesQuiet (row_at i f t) (sources_of i)) →
    ((t : ℕ) → t < n → NoneOutside (row_at i f t) (legal_resolutions i)) → ((t : ℕ) → t < n → NoneOutside (row_at i f t) (property_resolutions i)) →
    StaysWithin i f n)
