-- That what a part needs at its instant comes before it: the equations of the frames that it sees, and what callers give to these.
use Rattle.std.specs.Prelude.{◌≡◌, ℕ, ◌<◌, true, List, [], ◌∷◌, ◌++◌, Some, slice_get, ◌⊎◌}
use Rattle.std.specs.List.{AllByRecursion}
use Rattle.lus_tree.specs.Tree.{Name, Expression, pre, call, condact}
use Rattle.lus_meaning.specs.Frame.{Frame}
use Rattle.lus_meaning.specs.Scene.{Clock, while_true, Instance, component_of, clock_of_names}
use Rattle.lus_meaning.specs.Run.{Equation, equations, inputs_of}
use Rattle.lus_meaning.specs.Depends.{the_beat, named_in, left_names}
use Rattle.lus_meaning.specs.Program.{listed}
use Rattle.sys_meaning.specs.Defaults.{site_of}
use Rattle.lus_evaluation.specs.Part.{Part, from_top, needs_of}
use Rattle.lus_evaluation.specs.Evaluation.{is_above, gives_name, NeedsPlace, place_named}
use Rattle.lus_evaluation.specs.Past.{NonePast}
use Rattle.slot_values.specs.Resolution.{Resolution}
use Rattle.slot_values.specs.Evaluated.{outside}
use Rattle.slot_values.specs.Resolved.{right_resolutions}
use Rattle.slot_values.specs.Clocked.{row_by, clock_on}
use Rattle.slot_values.specs.FrameRow.{numbering}
use Rattle.evaluation_laws.specs.Rows.{row_at, scene_there, numbers_there, modes_there, resolution_there}
use Rattle.slot_values.specs.Parts.{operands, setting_at}
use Rattle.order_laws.specs.Own.{own_setting}
use Rattle.order_laws.specs.Rows.{place_there, standpoint_there}
use Rattle.order_laws.specs.Laws.{IsOneOf, OfEachEvaluation}

-- the right side of an equation of an instance, which gives these names, on their clock
pub record IsSide (j : Instance) (xs : List Name) (c : Clock) (e : Expression) : Type 0 where
  pub equation : Equation
  pub there : (k : ℕ) × (slice_get (equations (component_of j)) k ≡ Some equation)
  pub names : xs ≡ equation.names
  pub right : e ≡ equation.right
  pub clock : c ≡ clock_of_names (component_of j) equation.names

-- the frame that an expression calls, where it is a call
abbrev pub IsCalled : List ℕ → Expression → List ℕ → Type 0
IsCalled w (call p k n as_) v = v ≡ w ++ k ∷ []
IsCalled w (condact p k a n as_ ds) v = v ≡ w ++ k ∷ []
IsCalled w _ v = ⊥

-- a part sees its own frame, those on the way there, and the one that it calls
abbrev pub Sees : Part → List ℕ → Type 0
Sees q v = (is_above v q.way ≡ true) ⊎ IsCalled q.way q.expression v

-- One of these parts is the right side of an equation that gives a name of a frame, and all its own parts are among them.
pub record IsGiven (i : Instance) (f : Frame) (t : ℕ) (front : List Part) (v : List ℕ) (x : Name) : Type 0 where
  pub part : Part
  pub there : IsOneOf front part
  pub gives : gives_name v x part ≡ true
  pub side : IsSide (place_there i f v) part.gives part.clock part.expression
  pub own : AllByRecursion (IsOneOf front) (operands (setting_at (standpoint_there i f t part.way)) part.needs part.clock part.expression)

-- A name that a part needs, of a frame that it sees, is there when it is evaluated, if an equation gives it.
abbrev pub NeededNamesComeBefore : Type 0
NeededNamesComeBefore =
    OfEachEvaluation (λ i m f qs. (t : ℕ) → t < m → (front : List Part) (q : Part) (rest : List Part) → qs ≡ front ++ q ∷ rest →
    (v : List ℕ) (x : Name) → Sees q v → named_in x (left_names (component_of (place_there i f v))) ≡ true →
    NeedsPlace i q.needs (place_named v x) → IsGiven i f t front v x)

-- the arguments of a call
abbrev pub arguments_of : Expression → List Expression
arguments_of (call p k n as_) = listed as_
arguments_of (condact p k a n as_ ds) = listed as_
arguments_of _ = []

-- One of these parts is an expression at its place, and all its own parts are among them.
pub record IsEvaluatedIn (i : Instance) (f : Frame) (t : ℕ) (front : List Part) (w : List ℕ) (c : Clock) (a : Expression) : Type 0 where
  pub part : Part
  pub there : IsOneOf front part
  pub way : part.way ≡ w
  pub clock : part.clock ≡ c
  pub expression : part.expression ≡ a
  pub own : AllByRecursion (IsOneOf front) (operands (setting_at (standpoint_there i f t part.way)) part.needs part.clock part.expression)

-- An argument is there when its call is evaluated, if the call's whole needs all that the argument needs.
abbrev pub NeededArgumentsComeBefore : Type 0
NeededArgumentsComeBefore =
    OfEachEvaluation (λ i m f qs. (t : ℕ) → t < m → (front : List Part) (q : Part) (rest : List Part) → qs ≡ front ++ q ∷ rest →
    AllByRecursion (λ a. AllByRecursion (λ z. NeedsPlace i q.needs z) (needs_of (own_setting (place_there i f q.way) q.way []) q.clock a) →
    IsEvaluatedIn i f t front q.way q.clock a) (arguments_of q.expression))

-- So it is with the argument for an input of the callee that the call's whole needs.
abbrev pub NeededInputsComeBefore : Type 0
NeededInputsComeBefore =
    OfEachEvaluation (λ i m f qs. (t : ℕ) → t < m → (front : List Part) (q : Part) (rest : List Part) → qs ≡ front ++ q ∷ rest →
    (v : List ℕ) → IsCalled q.way q.expression v → (k : ℕ) (x : Name) (a : Expression) → slice_get (inputs_of (place_there i f v)) k ≡ Some x →
    slice_get (arguments_of q.expression) k ≡ Some a → NeedsPlace i q.needs (place_named v x) → IsEvaluatedIn i f t front q.way q.clock a)

-- ---- what callers give

-- An argument of a call, be it an import, is there when a part that sees the call's frame is evaluated, if the part's whole needs the input for which the
-- argument stands.
abbrev pub FrameInputsComeBefore : Type 0
FrameInputsComeBefore =
    OfEachEvaluation (λ i m f qs. (t : ℕ) → t < m → (front : List Part) (q : Part) (rest : List Part) → qs ≡ front ++ q ∷ rest →
    (w : List ℕ) (k : ℕ) → Sees q (w ++ k ∷ []) → (n : ℕ) (x : Name) (a : Expression) →
    slice_get (inputs_of (place_there i f (w ++ k ∷ []))) n ≡ Some x → slice_get (site_of (place_there i f w) k).arguments n ≡ Some a →
    NeedsPlace i q.needs (place_named (w ++ k ∷ []) x) → IsEvaluatedIn i f t front w (site_of (place_there i f w) k).clock a)

-- So is the condition while which a call runs, if the part's whole needs the beat of the call's frame.
abbrev pub FrameConditionsComeBefore : Type 0
FrameConditionsComeBefore =
    OfEachEvaluation (λ i m f qs. (t : ℕ) → t < m → (front : List Part) (q : Part) (rest : List Part) → qs ≡ front ++ q ∷ rest →
    (w : List ℕ) (k : ℕ) → Sees q (w ++ k ∷ []) → (a : Expression) → (site_of (place_there i f w) k).manner ≡ while_true a →
    NeedsPlace i q.needs (from_top (w ++ k ∷ []) the_beat) → IsEvaluatedIn i f t front w (site_of (place_there i f w) k).clock a)

-- ---- what is outside in the row of the run

-- no operation of a resolution is outside 128 bits, evaluated where a clock is on by the row
abbrev pub NoneOutside : Instance → Frame → ℕ → List ℕ → Clock → Resolution → Type 0
NoneOutside i f t w c r = outside (row_at i f t) (clock_on (row_by (numbers_there i w) (row_at i f t)) c) r ≡ []

-- the resolutions of a right side in the frame at the end of a way of calls, one for each output of a call
abbrev pub right_there : Instance → Frame → List ℕ → Expression → List Resolution
right_there i f w e = right_resolutions (numbering (scene_there i f w) (numbers_there i w) (modes_there i f w)) e

-- Where no part of a front of the evaluation is outside, the right sides that stand there have no operation outside in the row.
abbrev pub GivenNamesAreWithin : Type 0
GivenNamesAreWithin =
    OfEachEvaluation (λ i m f qs. (t : ℕ) → t < m → (front rest : List Part) → qs ≡ front ++ rest → NonePast i f front t → (v : List ℕ) (x : Name) →
    (g : IsGiven i f t front v x) → AllByRecursion (NoneOutside i f t v g.part.clock) (right_there i f v g.part.expression))

-- and so it is with arguments.
abbrev pub ArgumentsAreWithin : Type 0
ArgumentsAreWithin =
    OfEachEvaluation (λ i m f qs. (t : ℕ) → t < m → (front rest : List Part) → qs ≡ front ++ rest → NonePast i f front t → (w : List ℕ) (c : Clock)
    (a : Expression) → IsEvaluatedIn i f t front w c a → NoneOutside i f t w c (resolution_there i f w a))

-- of the condition of a call
abbrev pub OfCondition : (Expression → Type 0) → Expression → Type 0
OfCondition P (condact p k a n as_ ds) = P a
OfCondition P _ = Unit {0}

-- Where no part before a call is outside, the condition while which it runs has no operation outside.
abbrev pub ConditionsAreWithin : Type 0
ConditionsAreWithin =
    OfEachEvaluation (λ i m f qs. (t : ℕ) → t < m → (front : List Part) (q : Part) (rest : List Part) → qs ≡ front ++ q ∷ rest → NonePast i f front t →
    OfCondition (λ a. NoneOutside i f t q.way q.clock (resolution_there i f q.way a)) q.expression)

-- of the operand of a `pre`
abbrev pub OfOperand : (Expression → Type 0) → Expression → Type 0
OfOperand P (pre p k a) = P a
OfOperand P _ = Unit {0}

-- Where no part is outside, what is remembered at each `pre` that is evaluated has no operation outside in the row.
abbrev pub RememberedOperandsAreWithin : Type 0
RememberedOperandsAreWithin =
    OfEachEvaluation (λ i m f qs. (t : ℕ) → t < m → NonePast i f qs t → (front : List Part) (q : Part) (rest : List Part) → qs ≡ front ++ q ∷ rest →
    OfOperand (λ a. NoneOutside i f t q.way q.clock (resolution_there i f q.way a)) q.expression)
