-- What holds of the format.
use Rattle.std.specs.Prelude.{◌≡◌, ℕ, List, ◌⊎◌}
use Rattle.lus_tree.specs.declared.place.Pos.{Pos}
use Rattle.lus_meaning.specs.TraceView.{Listing, lines_of}
use Rattle.trace_text.specs.Traces.{IsTraceText, FirstMisfit, FitsTrace, trace_text}

-- Bytes are one trace at most.
abbrev pub OneTrace : Type 0
OneTrace = (bytes : List ℕ) (s t : Listing) → IsTraceText bytes s → IsTraceText bytes t → s ≡ t

-- Bytes are a trace, or they have a first misfit.
abbrev pub TraceOrMisfit : Type 0
TraceOrMisfit = (bytes : List ℕ) → ((t : Listing) × IsTraceText bytes t) ⊎ ((p : Pos) × FirstMisfit bytes p)

-- They never are both, and have one first misfit at most.
abbrev pub NeverBoth : Type 0
NeverBoth = (bytes : List ℕ) (t : Listing) (p : Pos) → IsTraceText bytes t → FirstMisfit bytes p → ⊥

abbrev pub OneMisfit : Type 0
OneMisfit = (bytes : List ℕ) (p q : Pos) → FirstMisfit bytes p → FirstMisfit bytes q → p ≡ q

-- the same but for places
pub record SameButPlaces (s t : Listing) : Type 0 where
  pub node : s.node ≡ t.node
  pub length : s.length ≡ t.length
  pub lines : lines_of s ≡ lines_of t

-- What is written of a trace whose parts are well formed is read back.
abbrev pub ReadBack : Type 0
ReadBack = (t : Listing) → FitsTrace t → (u : Listing) × IsTraceText (trace_text t) u × SameButPlaces u t
