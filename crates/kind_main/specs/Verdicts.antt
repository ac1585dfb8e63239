-- What is said of a property, when that is true, and the lines that say it.
use Rattle.std.specs.Prelude.{◌≡◌, ◌≢◌, ℕ, suc, zero, ◌++◌, ◌==◌, cond, codes, decimal, length, map, List, [], ◌∷◌, Some, slice_get, option_map, option_to_list, Contains, Option, None}
use Rattle.std.specs.List.{AllByRecursion}
use Rattle.std.specs.Fmt.{signed_decimal}
use Rattle.proof_steps.specs.StopView.{Halt, conflicts, splits, pivots, past}
use Rattle.lus_tree.specs.Tree.{Program, Component, declared_node}
use Rattle.lus_meaning.specs.Frame.{Frame}
use Rattle.lus_meaning.specs.Program.{instance_of}
use Rattle.lus_meaning.specs.Scene.{Instance}
use Rattle.lus_meaning.specs.Contract.{Property}
use Rattle.lus_meaning.specs.Property.{properties}
use Rattle.lus_meaning.specs.Label.{path_text}
use Rattle.lus_meaning.specs.Verdict.{Holds, Breaks}
use Rattle.lus_meaning.specs.Trace.{IsFrameOf}
use Rattle.lus_meaning.specs.TraceView.{Listing, lines_of}
use Rattle.lus_meaning.specs.Fits.{FitsProgram}
use Rattle.lus_meaning.specs.Replay.{Shown, ReplaysTrace}
use Rattle.lus_evaluation.specs.Outcome.{StaysWithin}
use Rattle.source_laws.specs.Laws.{AreIdentified}
use Rattle.path_traces.specs.Printed.{PrintedPlace, printed_place}
use Rattle.trace_text.specs.Traces.{IsTraceText, trace_text}
use Rattle.trace_text.specs.Words.{subject_text}
use Rattle.sys_terms.specs.declared.term.Entry.{Entry}
use Rattle.sys_terms.specs.View.{Machine}
use Rattle.sys_meaning.specs.System.{system_of}
use Rattle.sys_meaning.specs.Verdicts.{IsTraceOf}
use Rattle.board_core.specs.Entries.{Why, depth, frames, blocked, done, stopped, wide, broken, Posting, AreSound}
use Rattle.board_core.specs.Verdicts.{valid_by, falsifiable_by, judged}
use Rattle.board_core.specs.Verdicts.{unknown as undecided}
use Rattle.kind_main.specs.declared.options.Options.{Options}
use Rattle.kind_main.specs.Options.{numbers_of, options_plan}
use Rattle.kind_main.specs.Source.{FollowsAll}
use Rattle.kind_main.specs.Causes.{Because, IsTrueCause, because_view}
use Rattle.kind_main.specs.declared.outcome.Outcome.{Outcome}
use Rattle.kind_main.specs.declared.outcome.Outcome.TheVariants.{Valid, Falsifiable, Unknown}
use Rattle.kind_main.specs.declared.tally.Tally.{Tally as Counted}
use Rattle.kind_main.specs.Ending.{lines_view}
use Rattle.kind_main.specs.Lines.{Line, text_of, past_text}

-- what is said of a property: it holds; a trace breaks it first at this instant, whose lines are these; or neither,
-- for these causes of the engines
pub data Verdict : Type 0 where
  valid : Verdict
  falsifiable : (last : ℕ) (trace : List Line) → Verdict
  unknown : (causes : List Because) → Verdict

-- ---- when it is true

-- some bytes without a line feed, and then one
pub record IsOneLine (line : Line) : Type 0 where
  pub words : List ℕ
  pub ended : line ≡ words ++ 10 ∷ []
  pub one : AllByRecursion (λ b. b ≢ 10) words

-- a text whose last line has its line feed
pub record IsEnded (text : List ℕ) : Type 0 where
  pub words : List ℕ
  pub ended : text ≡ words ++ 10 ∷ []

-- a byte more: it ends its line, or the line goes on
pub data Cuts (b : ℕ) (old : List Line) (line : List ℕ) (new : List Line) (rest : List ℕ) : Type 0 where
  ends : b ≡ 10 → new ≡ old ++ (line ++ b ∷ []) ∷ [] → rest ≡ [] → Cuts b old line new rest
  goes_on : b ≢ 10 → new ≡ old → rest ≡ line ++ b ∷ [] → Cuts b old line new rest

-- The text is a trace that fits the program. Its one frame breaks the property first at this instant, the evaluation of
-- that frame stays within 128 bits, and each replay of the trace shows that break.
pub record BreaksBy (p : Program) (d : Component) (k : ℕ) (q : Property) (last : ℕ) (text : List ℕ) : Type 0 where
  pub trace : Listing
  pub read : IsTraceText text trace
  pub fits : FitsProgram p trace
  pub length : trace.length ≡ suc last
  pub frame : Frame
  pub is_frame : IsFrameOf (lines_of trace) (instance_of p d) trace.length frame
  pub only : (other : Frame) → IsFrameOf (lines_of trace) (instance_of p d) trace.length other → other ≡ frame
  pub breaks : Breaks (instance_of p d) q frame last
  pub within : StaysWithin (instance_of p d) frame trace.length
  pub replays : (s : Shown) → ReplaysTrace p trace s → s.breaks k ≡ Some last

-- one cause of each engine of the options, in their order, each of them the book's, and true, for the property of number k
pub record AreTrueCauses (m : Machine) (o : Options) (book : List Posting) (k : ℕ) (causes : List Because) : Type 0 where
  pub engines : map (λ (b : Because). b.engine) causes ≡ numbers_of o.engines
  pub each : AllByRecursion (IsTrueCause m (options_plan o) book k) causes

-- ---- when it is the book's

-- The text is a trace that lists what the trace of this path does, written as traces are.
pub record IsTextOf (p : Program) (d : Component) (states : List (List Entry)) (text : List ℕ) : Type 0 where
  pub trace : Listing
  pub read : IsTraceText text trace
  pub written : text ≡ trace_text trace
  pub lists : IsTraceOf p d states trace

-- the book's verdict is that an entry holds the property
pub record IsHeldIn (book : List Posting) (k : ℕ) : Type 0 where
  pub place : ℕ
  pub verdict : judged k book ≡ valid_by place

-- or that an entry breaks it, of whose path this text is the trace
pub record IsBrokenIn (p : Program) (d : Component) (book : List Posting) (k : ℕ) (text : List ℕ) : Type 0 where
  pub place : ℕ
  pub verdict : judged k book ≡ falsifiable_by place
  pub states : List (List Entry)
  pub says : option_map (λ (i : Posting). i.says) (slice_get book place) ≡ Some (broken k states)
  pub text_of_path : IsTextOf p d states text

-- ---- together

-- of property q, the one of number k of the node d, by a book
abbrev pub IsTrueVerdict : Options → Program → Component → List Posting → ℕ → Property → Verdict → Type 0
IsTrueVerdict o p d book k q valid = Holds (instance_of p d) q × IsHeldIn book k
IsTrueVerdict o p d book k q (falsifiable last trace) =
    AllByRecursion IsOneLine trace × BreaksBy p d k q last (text_of trace) × IsBrokenIn p d book k (text_of trace)
IsTrueVerdict o p d book k q (unknown causes) =
    AreTrueCauses (system_of (instance_of p d)) o book k causes × (judged k book ≡ undecided)

-- of each property from number k on
abbrev pub AreTrueVerdicts : Options → Program → Component → List Posting → ℕ → List Property → List Verdict → Type 0
AreTrueVerdicts o p d book k [] [] = Unit {0}
AreTrueVerdicts o p d book k (q ∷ qs) (s ∷ ss) = IsTrueVerdict o p d book k q s × AreTrueVerdicts o p d book (suc k) qs ss
AreTrueVerdicts o p d book k [] (s ∷ ss) = ⊥
AreTrueVerdicts o p d book k (q ∷ qs) [] = ⊥

-- The verdicts on all properties of the node are those of one book of its system, which is sound with the options' plan.
pub record AreOfOneBook (o : Options) (p : Program) (d : Component) (ss : List Verdict) : Type 0 where
  pub book : List Posting
  pub sound : AreSound (system_of (instance_of p d)) (options_plan o) book
  pub each : AreTrueVerdicts o p d book 0 (properties (instance_of p d)) ss

-- ---- the lines

-- a budget that was spent, or the operation whose result has more than 128 bits
abbrev pub halt_text : Halt → List ℕ
halt_text (conflicts clauses pairs) = codes "conflicts " ++ decimal (length clauses)
halt_text (splits pairs) = codes "splits " ++ decimal (length pairs)
halt_text (pivots start pairs) = codes "pivots " ++ decimal start.pivots
halt_text (past step pairs) = codes "past 128 bits " ++ past_text step.past

-- a place as a trace has it; a variable that has a number has one
abbrev pub place_text : Option PrintedPlace → List ℕ
place_text None = []
place_text (Some place) = path_text place.0 ++ subject_text place.1

-- in the system of a declaration, whose variables stand at their places
abbrev pub why_text : Instance → Why → List ℕ
why_text i (depth k) = codes "depth " ++ decimal k
why_text i (frames k) = codes "frames " ++ decimal k
why_text i (blocked k) = codes "blocked " ++ decimal k
why_text i (done k) = codes "done " ++ decimal k
why_text i (stopped halt) = halt_text halt
why_text i (wide path variable instant value) =
    codes "wide " ++ (place_text (printed_place i variable) ++ (codes " at " ++ (decimal instant
    ++ (codes " value " ++ signed_decimal value))))

abbrev pub engine_text : ℕ → List ℕ
engine_text zero = codes "bounded"
engine_text (suc zero) = codes "step"
engine_text (suc (suc e)) = []

-- the engine, and its cause
abbrev pub because_text : Instance → Because → List ℕ
because_text i b = engine_text b.engine ++ (codes " " ++ why_text i b.why)

abbrev pub more_text : Instance → List Because → List ℕ
more_text i [] = []
more_text i (b ∷ bs) = codes "; " ++ (because_text i b ++ more_text i bs)

abbrev pub causes_text : Instance → List Because → List ℕ
causes_text i [] = []
causes_text i (b ∷ bs) = because_text i b ++ more_text i bs

-- the lines of a property that a trace breaks, with this label
abbrev pub falsifiable_lines : List ℕ → ℕ → List Line → List Line
falsifiable_lines label last trace =
    (codes "falsifiable " ++ (label ++ (codes " at " ++ (decimal last ++ codes "\n"))))
    ∷ map (λ l. codes "  " ++ l) trace

-- the lines of what is said of the property with this label
abbrev pub verdict_lines : Instance → List ℕ → Verdict → List Line
verdict_lines i label valid = (codes "valid " ++ (label ++ codes "\n")) ∷ []
verdict_lines i label (falsifiable last trace) = falsifiable_lines label last trace
verdict_lines i label (unknown causes) =
    (codes "unknown " ++ (label ++ (codes ": " ++ (causes_text i causes ++ codes "\n")))) ∷ []

abbrev pub verdict_report : Instance → List (List ℕ) → List Verdict → List Line
verdict_report i (l ∷ ls) (s ∷ ss) = verdict_lines i l s ++ verdict_report i ls ss
verdict_report i [] ss = []
verdict_report i (l ∷ ls) [] = []

-- ---- the summary

pub record Tally : Type 0 where
  pub valid : ℕ
  pub falsifiable : ℕ
  pub unknown : ℕ

abbrev pub tally_of : List Verdict → Tally
tally_of [] = record { valid = 0; falsifiable = 0; unknown = 0 }
tally_of (valid ∷ ss) = let t : Tally = tally_of ss in record t { valid = suc t.valid }
tally_of (falsifiable last trace ∷ ss) = let t : Tally = tally_of ss in record t { falsifiable = suc t.falsifiable }
tally_of (unknown causes ∷ ss) = let t : Tally = tally_of ss in record t { unknown = suc t.unknown }

abbrev pub summary_line : Tally → Line
summary_line t =
    codes "summary valid " ++ (decimal t.valid ++ (codes " falsifiable " ++ (decimal t.falsifiable
    ++ (codes " unknown " ++ (decimal t.unknown ++ codes "\n")))))

-- 1 where some property is falsifiable, else 4 where some is unknown, else 0
abbrev pub tally_code : Tally → ℕ
tally_code t = cond (t.falsifiable == 0) (cond (t.unknown == 0) 0 4) 1

-- ---- as clauses see it

-- what the property of this number is said to be
abbrev pub IsTrueOfNumber : Options → Program → Component → List Posting → ℕ → Verdict → Type 0
IsTrueOfNumber o p d book k s = (q : Property) → slice_get (properties (instance_of p d)) k ≡ Some q → IsTrueVerdict o p d book k q s

abbrev pub outcome_view : Outcome → Verdict
outcome_view Valid = valid
outcome_view (Falsifiable last trace) = falsifiable last (lines_view trace.items)
outcome_view (Unknown first second) = unknown (because_view first ∷ option_to_list (option_map because_view second))

abbrev pub outcomes_view : List Outcome → List Verdict
outcomes_view = map outcome_view

-- a node or function of a program that follows all rules and limits, and whose names are identifiers
pub record IsAnalysed (p : Program) (d : Component) : Type 0 where
  pub follows : FollowsAll p
  pub declared : Contains p (declared_node d)
  pub identified : AreIdentified p

abbrev pub counts_of : Counted → Tally
counts_of t = record { valid = t.valid; falsifiable = t.falsifiable; unknown = t.unknown }

-- one more of what is said
abbrev pub Grown : Verdict → Tally → Tally → Type 0
Grown valid old new = new ≡ record old { valid = suc old.valid }
Grown (falsifiable last trace) old new = new ≡ record old { falsifiable = suc old.falsifiable }
Grown (unknown causes) old new = new ≡ record old { unknown = suc old.unknown }
