-- On which slots the parts of an instant rest: what they read, what that reads, and so on.
use Rattle.std.specs.Prelude.{◌≡◌, ℕ, ◌<◌, Bool, true, List, [], ◌∷◌, ◌++◌, Some, slice_get}
use Rattle.std.specs.List.{AllByRecursion}
use Rattle.lus_meaning.specs.Frame.{Frame}
use Rattle.lus_meaning.specs.Scene.{Instance, component_of, variables}
use Rattle.lus_meaning.specs.Program.{instance_of}
use Rattle.lus_meaning.specs.RuleLaws.{OfEach}
use Rattle.lus_meaning.specs.Run.{IsRun}
use Rattle.lus_meaning.specs.Verdict.{throughout}
use Rattle.sys_meaning.specs.Slot.{named, own}
use Rattle.lus_evaluation.specs.Part.{Part}
use Rattle.lus_evaluation.specs.Evaluation.{instance_on, IsEvaluation}
use Rattle.lus_evaluation.specs.Past.{NonePast}
use Rattle.evaluation_laws.specs.Rows.{row_at, numbers_there}
use Rattle.slot_sources.specs.Source.{Source}
use Rattle.slot_sources.specs.Rows.{outside_now, reads_now, slots_read}
use Rattle.slot_sources.specs.Sources.{sources_of}
use Rattle.slot_sources.specs.Parts.{part_switch, part_resolution}
use Rattle.slot_rows.specs.Agreement.{IsClosed, NoneOutside}
use Rattle.condition_laws.specs.Conditions.{legal_resolutions, property_resolutions}

-- the slots that a part reads: that of its clock, and those of its resolution
abbrev pub part_reads : Instance → Part → List ℕ
part_reads i q = (part_switch i q).slot ∷ slots_read (part_resolution i q)

-- these slots are in a set
abbrev pub AreIn : (ℕ → Bool) → List ℕ → Type 0
AreIn in_set ks = AllByRecursion (λ k. in_set k ≡ true) ks

-- the names of the frame at the end of a way of calls have slots in a set
abbrev pub NamesIn : Instance → (ℕ → Bool) → List ℕ → Type 0
NamesIn i in_set w =
    AllByRecursion (λ v. in_set (numbers_there i w (own (named v.name.text))) ≡ true) (variables (component_of (instance_on i w)))

-- so many instants of a run of a declaration
abbrev pub OfRuns : Instance → (Frame → ℕ → Type 0) → Type 0
OfRuns i P = (m : ℕ) (f : Frame) → IsRun i m throughout f → (t : ℕ) → t < m → P f t

-- At an instant of a run: slots of a set, on which a part rests, whose values are there before the part is evaluated. What these slots read at the same
-- instant is among them, and no operation of their sources is outside 128 bits in the row of the run.
pub record RestsBefore (i : Instance) (f : Frame) (t : ℕ) (in_set : ℕ → Bool) (q : Part) : Type 0 where
  pub done : ℕ → Bool
  pub inside : (k : ℕ) → done k ≡ true → in_set k ≡ true
  pub reads : AreIn done (part_reads i q)
  pub now : (k : ℕ) (e : Source) → slice_get (sources_of i) k ≡ Some e → done k ≡ true → AreIn done (reads_now e)
  pub within : (k : ℕ) (e : Source) → slice_get (sources_of i) k ≡ Some e → done k ≡ true → outside_now (row_at i f t) e ≡ []

-- The slots on which these parts rest: a closed set with all that the parts read, and all that the conditions of the declaration read. The names of the
-- declaration have slots in it, and so have those of each frame in which a part stands. Of each run: where no part is outside 128 bits at an instant, no source
-- of the set has an operation outside in its row; and where none is before a part, none has on which that part rests.
pub record Rests (i : Instance) (qs : List Part) : Type 0 where
  pub in_set : ℕ → Bool
  pub closed : IsClosed (sources_of i) in_set
  pub parts : AllByRecursion (λ q. AreIn in_set (part_reads i q)) qs
  pub legal : AllByRecursion (λ r. AreIn in_set (slots_read r)) (legal_resolutions i)
  pub properties : AllByRecursion (λ r. AreIn in_set (slots_read r)) (property_resolutions i)
  pub names : NamesIn i in_set []
  pub frame_names : AllByRecursion (λ q. NamesIn i in_set q.way) qs
  pub within : OfRuns i (λ f t. NonePast i f qs t → NoneOutside (sources_of i) in_set (row_at i f t))
  pub before : OfRuns i (λ f t. (front : List Part) (q : Part) (rest : List Part) → qs ≡ front ++ q ∷ rest → NonePast i f front t →
      RestsBefore i f t in_set q)

-- of each declaration of a checked program, and its evaluation of an instant
abbrev pub EachEvaluationRests : Type 0
EachEvaluationRests = OfEach (λ p n. (qs : List Part) → IsEvaluation (instance_of p n) qs → Rests (instance_of p n) qs)
