-- Runs and paths: what the system of a declaration says of its runs.
use Rattle.std.specs.Prelude.{◌≡◌, ℕ, suc, pred, ◌<◌, Bool, true, false, List, [], ◌∷◌, ◌++◌, map, length, ◌↔◌, slice_get, Some}
use Rattle.lus_meaning.specs.Value.{flag}
use Rattle.lus_meaning.specs.Frame.{Frame}
use Rattle.lus_meaning.specs.Scene.{Instance, Instances, instance, no_instances, with_instance, component_of}
use Rattle.lus_meaning.specs.Contract.{Property}
use Rattle.lus_meaning.specs.Run.{IsRun, equations}
use Rattle.lus_meaning.specs.Property.{IsLawful, properties}
use Rattle.lus_meaning.specs.Verdict.{throughout, Holds}
use Rattle.sys_terms.specs.declared.term.Entry.{Entry}
use Rattle.sys_terms.specs.View.{Formula, Machine}
use Rattle.sys_terms.specs.Meaning.{values_of, truth_of}
use Rattle.sys_terms.specs.Paths.{IsPath, IsReachable}
use Rattle.sys_meaning.specs.State.{state_of, states_of}
use Rattle.lus_meaning.specs.WellMade.{AreDistinct}
use Rattle.sys_meaning.specs.Slot.{Place}
use Rattle.sys_meaning.specs.Translate.{Stage}
use Rattle.sys_meaning.specs.Path.{TraceOfPath, frame_of_path}
use Rattle.sys_meaning.specs.System.{Sources, stage, equation_sources, below_call, from_call, number_of, system_of}
use Rattle.sys_meaning.specs.WellTyped.{IsKnown, WellTyped}

-- the truth of a formula in a state
abbrev pub true_in : List Entry → Formula → Bool
true_in s f = truth_of (values_of s) (values_of s) f

-- a run that goes through these states, one at each instant, and is lawful at the last
pub record IsRunOf (i : Instance) (states : List (List Entry)) (f : Frame) : Type 0 where
  pub run : IsRun i (length states) throughout f
  pub lawful : IsLawful i throughout f (pred (length states))
  pub goes : states_of i f (length states) ≡ states

-- there is one such run, and no other
pub record HasOneRunOf (i : Instance) (states : List (List Entry)) : Type 0 where
  pub found : Frame
  pub is : IsRunOf i states found
  pub only : (g : Frame) → IsRunOf i states g → g ≡ found

-- each property has the truth of its formula
abbrev pub Agree : Frame → ℕ → List Entry → List Property → List Formula → Type 0
Agree f t s [] [] = Unit {0}
Agree f t s (p ∷ ps) (q ∷ qs) = (p.test throughout f t ≡ flag (true_in s q)) × Agree f t s ps qs
Agree f t s [] (q ∷ qs) = ⊥
Agree f t s (p ∷ ps) [] = ⊥

-- the states of a run up to a lawful instant are a path; each path is that list for one run alone; properties have the
-- values of their formulas
pub record RunsArePaths (i : Instance) : Type 0 where
  pub paths : (n : ℕ) (f : Frame) (t : ℕ) → IsRun i n throughout f → t < n → IsLawful i throughout f t →
      IsPath (system_of i) (states_of i f (suc t))
  pub runs : (states : List (List Entry)) → IsPath (system_of i) states → HasOneRunOf i states
  pub truths : (n : ℕ) (f : Frame) (t : ℕ) → IsRun i n throughout f → t < n →
      Agree f t (state_of i f t) (properties i) (system_of i).properties

-- ---- what follows

-- the formula is true of each state of a run at a lawful instant
abbrev pub LemmaHolds : Instance → Formula → Type 0
LemmaHolds i q = (n : ℕ) (f : Frame) (t : ℕ) → IsRun i n throughout f → t < n → IsLawful i throughout f t →
    true_in (state_of i f t) q ≡ true

abbrev pub TrueReachable : Machine → Formula → Type 0
TrueReachable m q = (s : List Entry) → IsReachable m s → true_in s q ≡ true

-- no path ends with it false
abbrev pub NeverFalse : Machine → Formula → Type 0
NeverFalse m q = (before : List (List Entry)) (s : List Entry) → IsPath m (before ++ s ∷ []) → true_in s q ≡ false → ⊥

abbrev pub LemmaLaw : Instance → Type 0
LemmaLaw i = (q : Formula) → LemmaHolds i q ↔ TrueReachable (system_of i) q

-- a property and its formula, at one place of their lists
abbrev pub PropertyLaw : Instance → Type 0
PropertyLaw i = (k : ℕ) (p : Property) (q : Formula) → slice_get (properties i) k ≡ Some p →
    slice_get (system_of i).properties k ≡ Some q → Holds i p ↔ NeverFalse (system_of i) q

-- ---- for the first direction

-- the states of a run up to a lawful instant are a path
abbrev pub RunsToPaths : Type 0
RunsToPaths = (i : Instance) → WellTyped IsKnown i → (n : ℕ) (f : Frame) (t : ℕ) → IsRun i n throughout f →
    t < n → IsLawful i throughout f t → IsPath (system_of i) (states_of i f (suc t))

-- what follows for lemmas and properties
abbrev pub WhatFollows : Type 0
WhatFollows = (i : Instance) → RunsArePaths i → LemmaLaw i × PropertyLaw i

-- and each property has the truth of its formula in each state of a run
abbrev pub TruthsInRuns : Type 0
TruthsInRuns = (i : Instance) → WellTyped IsKnown i → (n : ℕ) (f : Frame) (t : ℕ) → IsRun i n throughout f →
    t < n → Agree f t (state_of i f t) (properties i) (system_of i).properties

-- ---- for the second direction

-- the sources of a frame's names are of different names
abbrev pub Distinct : Instance → (Place → ℕ) → Sources → Type 0
Distinct k at given =
    AreDistinct (map (λ q. q.0) (given ++ equation_sources (stage k at) (equations (component_of k))))

abbrev mutual
  pub TreeDistinct : Instance → (Place → ℕ) → Sources → Type 0
  TreeDistinct (instance d cs is) at given = Distinct (instance d cs is) at given
      × CallsDistinct is (stage (instance d cs is) at)

  pub CallsDistinct : Instances → Stage → Type 0
  CallsDistinct no_instances g = Unit {0}
  CallsDistinct (with_instance a k is) g = TreeDistinct k (below_call a.number g.number) (from_call g a k)
      × CallsDistinct is g

-- the frame of a path is a run of as many instants, lawful at the last, and its states are the path; no other run is
abbrev pub PathsToRuns : Type 0
PathsToRuns = (i : Instance) → WellTyped IsKnown i → TreeDistinct i (number_of i) [] →
    (states : List (List Entry)) → IsPath (system_of i) states →
    IsRunOf i states (frame_of_path i states)
    × ((g : Frame) → IsRunOf i states g → g ≡ frame_of_path i states)

-- ---- together

-- runs are paths, and each path is that of one run
abbrev pub RunsArePathsLaw : Type 0
RunsArePathsLaw = (i : Instance) → WellTyped IsKnown i → TreeDistinct i (number_of i) [] → RunsArePaths i

-- and the trace of a path has the path's frame
abbrev pub TracesOfPaths : Type 0
TracesOfPaths = (i : Instance) → WellTyped IsKnown i → TreeDistinct i (number_of i) [] → TraceOfPath i
