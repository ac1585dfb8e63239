-- The laws of the conditions of a checked program.
use Rattle.std.specs.Prelude.{◌≡◌, ℕ, ◌<◌, true, length, Option, Some, slice_get}
use Rattle.lus_meaning.specs.Frame.{Frame}
use Rattle.lus_meaning.specs.Scene.{Instance}
use Rattle.lus_meaning.specs.Contract.{Property}
use Rattle.lus_meaning.specs.Property.{meets_all, properties}
use Rattle.lus_meaning.specs.Verdict.{throughout}
use Rattle.lus_meaning.specs.FirstBreak.{AreBreaks, AreLawful}
use Rattle.lus_meaning.specs.Run.{IsRun}
use Rattle.lus_meaning.specs.Program.{instance_of}
use Rattle.lus_meaning.specs.RuleLaws.{OfEach}
use Rattle.sys_meaning.specs.Items.{known}
use Rattle.slot_values.specs.Resolution.{Resolution}
use Rattle.slot_values.specs.Evaluated.{worth}
use Rattle.evaluation_laws.specs.Resolvings.{resolvings}
use Rattle.evaluation_laws.specs.Rows.{row_at}
use Rattle.condition_laws.specs.Conditions.{conditions_of, legal_resolutions, property_resolutions}
use Rattle.condition_laws.specs.Breaks.{all_true, AreRowBreaks, AreLawfulRows}

-- what is so of each run of each declaration of a checked program
abbrev pub OfEachRun : (Instance → ℕ → Frame → Type 0) → Type 0
OfEachRun P = OfEach (λ p n. (m : ℕ) (f : Frame) → IsRun (instance_of p n) m throughout f → P (instance_of p n) m f)

-- what the modes of a contract ask by its items is what they ask where its frame is resolved
abbrev pub ItemsAskResolvings : Type 0
ItemsAskResolvings = (i : Instance) → known (conditions_of i).modes ≡ resolvings i

-- ---- at an instant

-- the assumptions and the assertions of all frames are true where their resolutions are worth that
abbrev pub LegalByRows : Type 0
LegalByRows = OfEachRun (λ i m f. (t : ℕ) → t < m → meets_all i throughout f t ≡ all_true (row_at i f t) (legal_resolutions i))

-- there are as many resolutions as properties
abbrev pub EachPropertyHasAResolution : Type 0
EachPropertyHasAResolution = (i : Instance) → length (property_resolutions i) ≡ length (properties i)

-- and the resolution with a property's number is worth the property's truth
abbrev pub PropertiesByRows : Type 0
PropertiesByRows =
    OfEachRun (λ i m f. (t : ℕ) → t < m → (k : ℕ) (q : Property) (r : Resolution) → slice_get (properties i) k ≡ Some q →
    slice_get (property_resolutions i) k ≡ Some r → worth (row_at i f t) true r ≡ q.test throughout f t)

-- ---- of all instants

-- what the rows break the frame breaks
abbrev pub BreaksByRows : Type 0
BreaksByRows =
    OfEachRun (λ i m f. (hits : ℕ → Option ℕ) → AreRowBreaks (row_at i f) (legal_resolutions i) (property_resolutions i) m hits → AreBreaks i f m hits)

abbrev pub LawfulByRows : Type 0
LawfulByRows = OfEachRun (λ i m f. (a : ℕ) → AreLawfulRows (row_at i f) (legal_resolutions i) m a → AreLawful i f m a)
