-- The laws of the traces of paths, as they are written and replayed.
use Rattle.std.specs.Prelude.{◌≡◌, ◌≤◌, ℕ, pred, true, List, length, All, Contains, Option, Some}
use Rattle.lus_tree.specs.Tree.{Name, Component, declared_node, Program}
use Rattle.lus_meaning.specs.Fits.{FitsProgram}
use Rattle.lus_meaning.specs.Program.{instance_of}
use Rattle.lus_meaning.specs.Refusals.{IsChecked, IsWithinLimits}
use Rattle.lus_meaning.specs.Replay.{Shown, ReplaysTrace}
use Rattle.lus_meaning.specs.TraceView.{Listing}
use Rattle.source_laws.specs.Laws.{AreIdentified}
use Rattle.trace_text.specs.Laws.{SameButPlaces}
use Rattle.trace_text.specs.Traces.{IsTraceText, trace_text}
use Rattle.sys_terms.specs.declared.term.Entry.{Entry}
use Rattle.sys_terms.specs.Fits.{is_narrow}
use Rattle.sys_terms.specs.Paths as paths
use Rattle.sys_meaning.specs.Verdicts.{IsTraceOf}
use Rattle.sys_meaning.specs.System.{system_of}
use Rattle.path_laws.specs.Laws.{HasSmallNumbers}

-- The trace of a path of at most 1,001 states that breaks a property of a node or function of a checked program, with
-- small numbers, fits the program, and each replay of it shows that the property breaks at the last instant.
abbrev pub EachReplays : Type 0
EachReplays =
    (p : Program) → IsChecked p → (d : Component) → Contains p (declared_node d) → (k : ℕ) (states : List (List Entry)) →
    paths.Breaks (system_of (instance_of p d)) k states → HasSmallNumbers states → length states ≤ 1001 → (t : Listing) →
    IsTraceOf p d states t →
    FitsProgram p t × ((s : Shown) → ReplaysTrace p t s → s.breaks k ≡ Some (pred (length states)))

-- What is written of a trace that fits a checked program within its limits is read back, where its names are identifiers.
abbrev pub EachReadBack : Type 0
EachReadBack =
    (p : Program) (main : Option Name) → IsChecked p → IsWithinLimits p main → AreIdentified p → (t : Listing) →
    FitsProgram p t → (u : Listing) × IsTraceText (trace_text t) u × SameButPlaces u t

-- Numbers below 2^63 in size are small.
abbrev pub NarrowAreSmall : Type 0
NarrowAreSmall = (states : List (List Entry)) → All (λ s. is_narrow s ≡ true) states → HasSmallNumbers states
