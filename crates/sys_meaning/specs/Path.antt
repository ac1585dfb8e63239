-- The frame and the trace of a path.
use Rattle.std.specs.Prelude.{ℕ, suc, cond, List, [], ◌∷◌, ◌++◌, map, length, get_or}
use Rattle.lus_tree.specs.declared.place.Sort.{Sort}
use Rattle.lus_tree.specs.Tree.{Variable}
use Rattle.lus_meaning.specs.Value.{Value, absent, Stream}
use Rattle.lus_meaning.specs.Frame.{Frame, Frames, frame, no_frames, with_frame, calls_in, firsts_of, entry}
use Rattle.lus_meaning.specs.Scene.{Instance, Instances, instance, no_instances, with_instance, component_of, clock_from, variables}
use Rattle.lus_meaning.specs.Run.{first_sorts}
use Rattle.lus_meaning.specs.Recompute.{sample}
use Rattle.lus_meaning.specs.Trace.{BareLine, of_name, of_first, free_names, free_in, IsFrameOf}
use Rattle.sys_terms.specs.declared.term.Entry.{Entry}
use Rattle.sys_terms.specs.Meaning.{Values, values_of, truth_of}
use Rattle.sys_terms.specs.Paths.{IsPath}
use Rattle.sys_meaning.specs.Slot.{Place, named, memory, own}
use Rattle.sys_meaning.specs.Part.{value_in}
use Rattle.sys_meaning.specs.Translate.{Stage, present}
use Rattle.sys_meaning.specs.System.{below_call, number_of, system_of}

-- the values of a state at each instant
abbrev pub Course : Type 0
Course = ℕ → Values

abbrev pub bare_stage : Instance → (Place → ℕ) → Stage
bare_stage i at = record { place = i; number = at; modes = [] }

-- a name has its variable's value where its clock is on
abbrev pub name_by : Instance → (Place → ℕ) → Course → Variable → Stream
name_by i at c v t =
    cond (truth_of (c t) (c t) (present (bare_stage i at) (clock_from v.clock))) (value_in (c t) v.sort (at (own
    (named v.name.text)))) absent

-- the first values are the memories at first
abbrev pub firsts_by : ℕ → List Sort → (Place → ℕ) → Course → List Value
firsts_by k [] at c = []
firsts_by k (s ∷ ss) at c = value_in (c 0) s (at (own (memory k))) ∷ firsts_by (suc k) ss at c

abbrev mutual
  pub frame_by : Instance → (Place → ℕ) → Course → ℕ → Frame
  frame_by (instance d cs is) at c n =
      frame (map (λ v. (v.name.text, sample n (name_by (instance d cs is) at c v))) (variables d)) (firsts_by 1
      (first_sorts (instance d cs is)) at c) (frames_by is at c n)

  pub frames_by : Instances → (Place → ℕ) → Course → ℕ → Frames
  frames_by no_instances at c n = no_frames
  frames_by (with_instance a i is) at c n = with_frame (frame_by i (below_call a.number at) c n) (frames_by is at c n)

abbrev pub course_of : List (List Entry) → Course
course_of states t = values_of (get_or states t [])

-- the frame of a path
abbrev pub frame_of_path : Instance → List (List Entry) → Frame
frame_of_path i states = frame_by i (number_of i) (course_of states) (length states)

-- ---- the trace

abbrev pub name_lines : List ℕ → ℕ → Frame → List Variable → List BareLine
name_lines path n f vs =
    map (λ v. record { path = path; subject = of_name v.name.text; values = sample n (entry f v.name.text) }) vs

abbrev pub first_lines : List ℕ → ℕ → List Value → List BareLine
first_lines path k [] = []
first_lines path k (v ∷ vs) =
    record { path = path; subject = of_first k; values = v ∷ [] } ∷ first_lines path (suc k) vs

abbrev mutual
  -- free names and first values, of a frame and of those of its calls
  pub lines_from : List ℕ → ℕ → List Variable → Instance → Frame → List BareLine
  lines_from path n free (instance d cs is) f = name_lines path n f free ++ first_lines path 1 (firsts_of f)
      ++ lines_below path n is (calls_in f)

  pub lines_below : List ℕ → ℕ → Instances → Frames → List BareLine
  lines_below path n (with_instance c i is) (with_frame f fs) =
      lines_from (path ++ c.number ∷ []) n (free_in c.manner (component_of i)) i f ++ lines_below path n is fs
  lines_below path n no_instances fs = []
  lines_below path n (with_instance c i is) no_frames = []

-- the inputs, all free names and all first values
abbrev pub trace_lines : Instance → ℕ → Frame → List BareLine
trace_lines i n f = name_lines [] n f (component_of i).inputs ++ lines_from [] n (free_names (component_of i)) i f

abbrev pub trace_of : Instance → List (List Entry) → List BareLine
trace_of i states = trace_lines i (length states) (frame_of_path i states)

-- the trace of a path has the path's frame
abbrev pub TraceOfPath : Instance → Type 0
TraceOfPath i = (states : List (List Entry)) → IsPath (system_of i) states →
    IsFrameOf (trace_of i states) i (length states) (frame_of_path i states)
