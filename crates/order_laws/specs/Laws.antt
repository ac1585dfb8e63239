-- The laws of what comes before a part in the evaluation of an instant.
use Rattle.std.specs.Prelude.{◌≡◌, ℕ, ◌<◌, ◌≤◌, true, List, [], ◌∷◌, ◌++◌, length, ◌⊎◌}
use Rattle.std.specs.List.{AllByRecursion}
use Rattle.lus_tree.specs.declared.place.Pos.{Pos}
use Rattle.kind_num.specs.declared.Past.{Past}
use Rattle.lus_meaning.specs.Frame.{Frame}
use Rattle.lus_meaning.specs.Scene.{Instance, is_on}
use Rattle.lus_meaning.specs.Occurrences.{own}
use Rattle.lus_meaning.specs.Order.{is_listed, IsLeastOrder}
use Rattle.lus_meaning.specs.Program.{instance_of}
use Rattle.lus_meaning.specs.RuleLaws.{OfEach}
use Rattle.lus_meaning.specs.Run.{IsRun}
use Rattle.lus_meaning.specs.Verdict.{throughout}
use Rattle.lus_evaluation.specs.Part.{Part}
use Rattle.lus_evaluation.specs.Evaluation.{Waits, IsEvaluation}
use Rattle.lus_evaluation.specs.Past.{part_past, NonePast, IsFirstPast}
use Rattle.slot_values.specs.declared.resolved.PastAt.{PastAt}
use Rattle.slot_values.specs.Evaluated.{told, outside}
use Rattle.slot_values.specs.Parts.{operands, setting_at}
use Rattle.evaluation_laws.specs.Rows.{row_at, scene_there, resolution_there}
use Rattle.order_laws.specs.Rows.{standpoint_there}

-- Of two parts the one that stands first in turn is evaluated first, if all that it waits for the other one waits for too, or comes before that anyway.
abbrev pub ComesFirst : Type 0
ComesFirst =
    (i : Instance) (ps : List Part) (ks : List ℕ) → IsLeastOrder (length ps) (Waits i ps) ks → (first second : ℕ) → first < second →
    (before after : List ℕ) → ks ≡ before ++ second ∷ after →
    ((j : ℕ) → Waits i ps first j → Waits i ps second j ⊎ (is_listed before j ≡ true)) → is_listed before first ≡ true

-- ---- what is outside in the row of a run

-- the operations of a part's resolution that are outside 128 bits, evaluated where its clock is on
abbrev pub operations_there : Instance → Frame → ℕ → Part → List PastAt
operations_there i f t q = outside (row_at i f t) (is_on (scene_there i f q.way) q.clock t) (resolution_there i f q.way q.expression)

-- Where no part that is evaluated before is outside, the operations of a part that are outside are its own one, if that is.
abbrev pub OwnPastInOrder : Instance → Frame → ℕ → List Part → Type 0
OwnPastInOrder i f t qs =
    (front : List Part) (q : Part) (rest : List Part) → qs ≡ front ++ q ∷ rest → NonePast i f front t →
    operations_there i f t q ≡ told (own q.expression) (part_past i f q t)

-- of a run of each declaration, at each instant, for the parts of its evaluation
abbrev pub OfEachEvaluation : (Instance → ℕ → Frame → List Part → Type 0) → Type 0
OfEachEvaluation P =
    OfEach (λ p n. (qs : List Part) → IsEvaluation (instance_of p n) qs → (m : ℕ) (f : Frame) → IsRun (instance_of p n) m throughout f →
    P (instance_of p n) m f qs)

abbrev pub PartsHaveOwnPast : Type 0
PartsHaveOwnPast = OfEachEvaluation (λ i m f qs. (t : ℕ) → t < m → OwnPastInOrder i f t qs)

-- one of these parts
pub record IsOneOf (qs : List Part) (r : Part) : Type 0 where
  pub before : List Part
  pub after : List Part
  pub split : qs ≡ before ++ r ∷ after

-- a part's own operands are evaluated before it, and those of the modes that it names
abbrev pub OperandsComeBefore : Type 0
OperandsComeBefore =
    OfEachEvaluation (λ i m f qs. (t : ℕ) → t < m → (front : List Part) (q : Part) (rest : List Part) → qs ≡ front ++ q ∷ rest →
    AllByRecursion (IsOneOf front) (operands (setting_at (standpoint_there i f t q.way)) q.needs q.clock q.expression))

-- In the rows of a run the first part with an operation outside 128 bits: its first one.
pub record IsFirstByRows (i : Instance) (f : Frame) (qs : List Part) (n : ℕ) (at : Pos) (t : ℕ) (past : Past) : Type 0 where
  pub below : t < n
  pub earlier : (u : ℕ) → u < t → AllByRecursion (λ q. operations_there i f u q ≡ []) qs
  pub front : List Part
  pub part : Part
  pub rest : List Part
  pub split : qs ≡ front ++ part ∷ rest
  pub before : AllByRecursion (λ q. operations_there i f t q ≡ []) front
  pub more : List PastAt
  pub outside : operations_there i f t part ≡ record { at = at; past = past } ∷ more

-- it tells the first value outside, and that is told so
abbrev pub FirstPastByRows : Type 0
FirstPastByRows =
    OfEachEvaluation (λ i m f qs. (n : ℕ) → n ≤ m → (at : Pos) (t : ℕ) (past : Past) →
    (IsFirstByRows i f qs n at t past → IsFirstPast i f qs n at t past) × (IsFirstPast i f qs n at t past → IsFirstByRows i f qs n at t past))
