-- What the system of a declaration and its paths say of its properties, and what the traces of its paths are.
use Rattle.std.specs.Prelude.{◌≡◌, ℕ, suc, pred, ◌≤◌, ◌<◌, true, List, Some, length, slice_get}
use Rattle.lus_tree.specs.Tree.{Component, Program}
use Rattle.lus_meaning.specs.Value.{flag}
use Rattle.lus_meaning.specs.Frame.{Frame}
use Rattle.lus_meaning.specs.Scene.{Instance}
use Rattle.lus_meaning.specs.Program.{instance_of}
use Rattle.lus_meaning.specs.Contract.{Property}
use Rattle.lus_meaning.specs.Run.{IsRun}
use Rattle.lus_meaning.specs.Property.{IsLawful, properties}
use Rattle.lus_meaning.specs.Verdict.{throughout, Holds, Breaks}
use Rattle.lus_meaning.specs.Trace.{IsFrameOf}
use Rattle.lus_meaning.specs.TraceView.{Listing, lines_of}
use Rattle.lus_meaning.specs.Fits.{FitsInstance}
use Rattle.sys_terms.specs.declared.term.Entry.{Entry}
use Rattle.sys_terms.specs.Paths.{IsPath}
use Rattle.sys_terms.specs.Paths as paths
use Rattle.sys_terms.specs.Queries.{property_term}
use Rattle.sys_meaning.specs.System.{system_of}
use Rattle.sys_meaning.specs.Path.{frame_of_path, trace_of}
use Rattle.sys_meaning.specs.Law.{TrueReachable}

-- ---- verdicts

-- as many formulas as properties
abbrev pub HasFormulas : Instance → Type 0
HasFormulas i = length (system_of i).properties ≡ length (properties i)

-- a property holds whose formula is true in all reachable states
abbrev pub HoldsWhereReachable : Instance → Type 0
HoldsWhereReachable i = (k : ℕ) (q : Property) → slice_get (properties i) k ≡ Some q →
    TrueReachable (system_of i) (property_term (system_of i) k) → Holds i q

-- it is true at each lawful instant up to d of each run
abbrev pub HoldsUpTo : Instance → Property → ℕ → Type 0
HoldsUpTo i q d = (n : ℕ) (f : Frame) (t : ℕ) → IsRun i n throughout f → t < n → t ≤ d → IsLawful i throughout f t →
    q.test throughout f t ≡ flag true

-- a property with whose formula false no path of at most d + 1 states ends
abbrev pub HoldsWhereBounded : Instance → Type 0
HoldsWhereBounded i = (k d : ℕ) (q : Property) → slice_get (properties i) k ≡ Some q →
    ((states : List (List Entry)) → IsPath (system_of i) states → length states ≤ suc d →
    paths.IsFalseAtLast (property_term (system_of i) k) states → ⊥) → HoldsUpTo i q d

-- ---- the trace of a path

-- it fits, the path's frame is its frame, and it has no other
pub record HasTrace (i : Instance) (states : List (List Entry)) : Type 0 where
  pub fits : FitsInstance i (length states) (trace_of i states)
  pub frame : IsFrameOf (trace_of i states) i (length states) (frame_of_path i states)
  pub only : (g : Frame) → IsFrameOf (trace_of i states) i (length states) g → g ≡ frame_of_path i states

-- a path that breaks the property of this number breaks it by its frame, at the last instant
abbrev pub BreaksAtLast : Instance → Type 0
BreaksAtLast i = (k : ℕ) (states : List (List Entry)) → paths.Breaks (system_of i) k states →
    (q : Property) × (slice_get (properties i) k ≡ Some q) × Breaks i q (frame_of_path i states) (pred (length states))

-- a trace of this node that lists what the trace of the path does
pub record IsTraceOf (p : Program) (d : Component) (states : List (List Entry)) (t : Listing) : Type 0 where
  pub node : t.node ≡ d.name.text
  pub length : t.length ≡ length states
  pub lines : lines_of t ≡ trace_of (instance_of p d) states
