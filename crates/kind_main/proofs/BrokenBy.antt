-- The trace of a path that breaks a property, as it is written and read back.
use Rattle.std.proofs.Common.{◌≡◌, ◌≤◌, ℕ, suc, pred, List, [], ◌∷◌, ◌++◌, map, length, slice_get, Some, None, refl, sym, ap, ◌∙◌, subst}
use Rattle.std.specs.Prelude.{Contains, codes, decimal}
use Rattle.std.specs.List.{AllByRecursion, flat_map}
use Rattle.lus_tree.specs.Tree.{Program, Component}
use Rattle.lus_tree.specs.Lookup.{nodes_of}
use Rattle.lus_meaning.specs.Frame.{Frame}
use Rattle.lus_meaning.specs.Contract.{Property}
use Rattle.lus_meaning.specs.Program.{instance_of}
use Rattle.lus_meaning.specs.Property.{properties}
use Rattle.lus_meaning.specs.Verdict.{Breaks}
use Rattle.lus_meaning.specs.Trace.{BareLine, IsFrameOf}
use Rattle.lus_meaning.specs.TraceView.{Listing, PlacedLine, bare_line, lines_of}
use Rattle.lus_meaning.specs.Fits.{FitsProgram, FitsNode, first_named}
use Rattle.lus_meaning.specs.Replay.{Shown, Replays, ReplaysTrace}
use Rattle.lus_meaning.specs.ClockFaults.{components}
use Rattle.lus_meaning.specs.Refusals.{IsChecked}
use Rattle.trace_text.specs.Traces.{IsTraceText, line_text, trace_text}
use Rattle.trace_text.specs.Laws.{SameButPlaces}
use Rattle.sys_terms.specs.declared.term.Entry.{Entry}
use Rattle.sys_terms.specs.Paths as paths
use Rattle.sys_meaning.specs.System.{system_of}
use Rattle.sys_meaning.specs.Path.{frame_of_path, trace_of}
use Rattle.sys_meaning.specs.Verdicts.{HasTrace, IsTraceOf}
use Rattle.path_laws.specs.Laws.{EachBreaks, EachHasTraces, HasSmallNumbers}
use Rattle.lus_evaluation.specs.Outcome.{StaysWithin}
use Rattle.within_laws.specs.Small.{SmallPathsStayWithin}
use Rattle.trace_laws.specs.Laws.{EachReadBack, EachReplays}
use Rattle.trace_laws.proofs.Named.{node_component}
use Rattle.kind_main.specs.Lines.{Line, text_of}
use Rattle.kind_main.specs.Played.{IsBreakOf}
use Rattle.kind_main.specs.Verdicts.{falsifiable, IsAnalysed, IsOneLine}

-- what is so of a trace is so of one that is the same but for its places
fits_as : (p : Program) (s t : Listing) → SameButPlaces s t → FitsProgram p t → FitsProgram p s
fits_as p s t e h = subst (λ x. FitsNode p x s.length (lines_of s)) (sym e.node)
    (subst (λ n. FitsNode p t.node n (lines_of s)) (sym e.length)
    (subst (λ ls. FitsNode p t.node t.length ls) (sym e.lines) h))

replays_as : (p : Program) (s t : Listing) → SameButPlaces s t → (w : Shown) → ReplaysTrace p s w → ReplaysTrace p t w
replays_as p s t e w r = record {
  node = r.node;
  named = ap (λ x. first_named x (nodes_of p)) (sym e.node) ∙ r.named;
  replays = subst (λ n. Replays (instance_of p r.node) (lines_of t) n w) e.length
      (subst (λ ls. Replays (instance_of p r.node) ls s.length w) e.lines r.replays);
}

-- what is written of a trace is the same, too
abbrev text_by : List ℕ → ℕ → List BareLine → List ℕ
text_by x n ls = codes "trace " ++ (x ++ 32 ∷ (decimal n ++ 10 ∷ (flat_map line_text ls ++ codes "end\n")))

lines_text : (ls : List PlacedLine) → flat_map (λ l. line_text (bare_line l)) ls ≡ flat_map line_text (map bare_line ls)
lines_text [] = refl
lines_text (l ∷ ls) = ap (λ z. line_text (bare_line l) ++ z) (lines_text ls)

by_lines : (t : Listing) → trace_text t ≡ text_by t.node t.length (lines_of t)
by_lines t = ap (λ z. codes "trace " ++ (t.node ++ 32 ∷ (decimal t.length ++ 10 ∷ (z ++ codes "end\n")))) (lines_text t.lines)

text_as : (s t : Listing) → SameButPlaces s t → trace_text s ≡ trace_text t
text_as s t e =
    by_lines s ∙ ap (λ x. text_by x s.length (lines_of s)) e.node ∙ ap (λ n. text_by t.node n (lines_of s)) e.length
    ∙ ap (text_by t.node t.length) e.lines ∙ sym (by_lines t)

same_property : (qs : List Property) (k : ℕ) (q r : Property) → slice_get qs k ≡ Some q → slice_get qs k ≡ Some r → q ≡ r
same_property qs k q r e f = cc

module _ (traces : EachHasTraces) (breaks : EachBreaks) (replays : EachReplays) (read_back : EachReadBack) (stays : SmallPathsStayWithin)
    (p : Program) (d : Component) (a : IsAnalysed p d) (k : ℕ) (states : List (List Entry)) (short : length states ≤ 1001)
    (broken : paths.Breaks (system_of (instance_of p d)) k states) (small : HasSmallNumbers states)
    (t : Listing) (is : IsTraceOf p d states t) where
  pub broken_by : (lines : List Line) → AllByRecursion IsOneLine lines → text_of lines ≡ trace_text t → (last : ℕ) → suc last ≡ length states
      → IsBreakOf p d k states (falsifiable last lines)
  broken_by lines each text last count =
      let rules : IsChecked p = a.follows.rules in
      let at : Contains (components p) d = node_component p d a.declared in
      let has : HasTrace (instance_of p d) states = traces p rules d at states broken.path small in
      let replayed = replays p rules d a.declared k states broken small short t is in
      let written = read_back p None rules a.follows.limits a.identified t replayed.0 in
      let read : Listing = written.0 in
      let same : SameButPlaces read t = written.2 in
      let many : read.length ≡ length states = same.length ∙ is.length in
      let listed : lines_of read ≡ trace_of (instance_of p d) states = same.lines ∙ is.lines in
      let end : pred (length states) ≡ last = ap pred (sym count) in
      let at_last = breaks p rules d at k states broken in
      let readable : IsTraceText (text_of lines) read = subst (λ x. IsTraceText x read) (sym text) written.1 in
      let frame : Frame = frame_of_path (instance_of p d) states in
      record {
        lines = each;
        text = record { trace = read; read = readable; written = text ∙ sym (text_as read t same); lists = record { node = same.node ∙ is.node; length = many; lines = listed } };
        breaks = λ q found. record {
          trace = read;
          read = readable;
          fits = fits_as p read t same replayed.0;
          length = many ∙ sym count;
          frame = frame;
          is_frame = subst (λ n. IsFrameOf (lines_of read) (instance_of p d) n frame) (sym many)
              (subst (λ ls. IsFrameOf ls (instance_of p d) (length states) frame) (sym listed) has.frame);
          only = λ other h. has.only other (subst (λ ls. IsFrameOf ls (instance_of p d) (length states) other) listed
              (subst (λ n. IsFrameOf (lines_of read) (instance_of p d) n other) many h));
          breaks = subst (λ n. Breaks (instance_of p d) q frame n) end
              (subst (λ r. Breaks (instance_of p d) r frame (pred (length states))) (same_property (properties (instance_of p d)) k at_last.0 q at_last.1 found) at_last.2);
          within = subst (λ n. StaysWithin (instance_of p d) frame n) (sym many) (stays p rules d at states broken.path small);
          replays = λ s h. replayed.1 s (replays_as p read t same s h) ∙ ap Some end;
        };
      }
