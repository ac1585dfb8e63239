-- How a replay ends, put together from what each step knows.
use Rattle.std.proofs.Common.{◌≡◌, ◌≢◌, ◌⊎◌, inl, inr, ℕ, ◌≤◌, List, length, refl, sym, ap, ◌∙◌, subst, Result, Ok, Err, IsErrAnd, Some, MatchResult}
use Rattle.std.proofs.lemmas.Result.{err_from_is_err_and}
use Rattle.kind_io.specs.Told.{Told, MayHold, MayExceed}
use Rattle.lus_tree.specs.Tree.{Program}
use Rattle.lus_meaning.specs.TraceView.{Listing}
use Rattle.lus_tree.specs.declared.place.Pos.{Pos}
use Rattle.lus_meaning.specs.Fits.{misfit, FitsProgram}
use Rattle.lus_tree.specs.Reason.{Refused as Reasoned, memory}
use Rattle.lus_grammar.specs.Source.{IsSource, IsRefused as IsMisread}
use Rattle.trace_text.specs.declared.fault.TraceFault.{TraceFault}
use Rattle.trace_text.specs.declared.fault.TraceFault.TheVariants as M
use Rattle.trace_text.specs.declared.fault.TraceFault.TheVariants.{Form}
use Rattle.trace_text.specs.Traces.{IsTraceText, Refuses}
use Rattle.kind_main.specs.Lines.{Line, formless_line, refused_line}
use Rattle.kind_main.specs.Report.{IsReplayReport}
use Rattle.kind_main.specs.declared.ending.Report.{Report}
use Rattle.kind_main.specs.declared.ending.Stopped.{Stopped}
use Rattle.kind_main.specs.declared.ending.Stopped.TheVariants.{Usage, Unread, Refused, Memory}
use Rattle.kind_main.specs.Ending.{Ending, usage, unread, refused, done, lines_view, IfStopped, IfEnded}
use Rattle.kind_main.specs.Fetched.{Tells, limit, IsUnfetched}
use Rattle.kind_main.specs.Source as S
use Rattle.kind_main.specs.Source.{EndsAtSource, HoldsSource, FollowsAll, IsRuling}
use Rattle.kind_main.specs.Traced as R
use Rattle.kind_main.specs.Traced.{EndsAt, EndsAtForm, EndsAtMisfit, IsReplayed, EndsReplay}
use Rattle.kind_main.proofs.Printing.{rose-later}

-- a stop keeps what follows of its ending
pub stop_as : (P Q : Ending → Type 0) → ((e : Ending) → P e → Q e) → (s : Stopped) → IfStopped P s → IfStopped Q s
stop_as P Q f Usage h = f _ h
stop_as P Q f (Unread name) h = f _ h
stop_as P Q f (Refused line) h = f _ h
stop_as P Q f Memory h = h

pub ended_as : (P Q : Ending → Type 0) → ((e : Ending) → P e → Q e) → (r : Result Report Stopped) → IfEnded P r → IfEnded Q r
ended_as P Q f (Ok r) h = f _ h
ended_as P Q f (Err s) h = stop_as P Q f s h

-- what is read is refused at the reader's place
pub misread_ends : (bytes : List ℕ) (r : Reasoned) → (r.reason ≡ memory) ⊎ IsMisread bytes r → (e : Ending) → (e ≡ refused (refused_line r))
    × (r.reason ≢ memory) → EndsAtSource bytes e
misread_ends bytes r (inl m) e h = absurd (h.1 m)
misread_ends bytes r (inr m) e h = subst (EndsAtSource bytes) (sym h.0) (S.misread r m refl)

-- what breaks a rule of a phase that is built is refused by its first fault
pub ruled_out_ends : (bytes : List ℕ) (p : Program) (r : Reasoned) → IsSource bytes p → IsRuling p r → (e : Ending) →
    (e ≡ refused (refused_line r)) × (r.reason ≢ memory) → EndsAtSource bytes e
ruled_out_ends bytes p r s (inl m) e h = absurd (h.1 m)
ruled_out_ends bytes p r s (inr m) e h =
    subst (EndsAtSource bytes) (sym h.0) (S.ruled_out r record { tree = p; source = s; broken = m } refl)

-- a trace is not read for its fault
pub formless_ends : (bytes : List ℕ) (f : TraceFault) → Refuses bytes f → (e : Ending) → EndsAt f e → EndsAtForm bytes e
formless_ends bytes (Form at) h e d = subst (EndsAtForm bytes) (sym d) (at, h, refl)
formless_ends bytes M.Memory h e d = absurd d

-- a trace doesn't fit
pub unfit_ends : (p : Program) (t : Listing) (at : Pos) → misfit p t ≡ Some at → (e : Ending) → e ≡ refused (formless_line at) → EndsAtMisfit p t e
unfit_ends p t at h e d = subst (EndsAtMisfit p t) (sym d) (at, h, refl)

-- a stop that is handed on
pub handed_on : (P : Ending → Type 0) (r : Result Report Stopped) (s : Stopped) → IsErrAnd r (λ e. e ≡ s) → IfStopped P s → IfEnded P r
handed_on P r s h p =
    let (y, u, w) = err_from_is_err_and r h in
    subst (IfEnded P) (sym (u ∙ ap Err w)) p

-- a source that is read and follows the rules
pub held_source : (told : Told) (p : Program) (bytes : List ℕ) → MayHold told bytes → length bytes ≤ limit → IsSource bytes p
    → FollowsAll p → HoldsSource told p
held_source told p bytes m le s k = record { bytes = bytes; held = m; short = le; source = s; right = k }

module _ (told : Tells) (before now : ℕ) (file trace : List ℕ) where
  -- the source gives no bytes
  pub no_source : (e : Ending) → IsUnfetched (told file) before now file e → EndsReplay told before now file trace e
  no_source usage h = absurd h
  no_source (unread name) h = (h.0, R.unread_source h.1)
  no_source (refused line) h = R.refused_source (S.too_long h.0 h.1)
  no_source (done lines code) h = absurd h

  -- its bytes are refused
  pub bad_source : (bytes : List ℕ) → MayHold (told file) bytes → length bytes ≤ limit → (e : Ending) → EndsAtSource bytes e
      → EndsReplay told before now file trace e
  bad_source bytes m le usage h = absurd h
  bad_source bytes m le (unread name) h = absurd h
  bad_source bytes m le (refused line) h = R.refused_source (S.refused_bytes bytes m le h)
  bad_source bytes m le (done lines code) h = absurd h

  module _ (p : Program) (source : HoldsSource (told file) p) where
    -- the trace gives no bytes
    pub no_trace : (mid : ℕ) → before ≤ mid → (tells : Told) → tells ≡ told trace → (e : Ending) → IsUnfetched tells mid now trace e
        → EndsReplay told before now file trace e
    no_trace mid le tells same usage h = absurd h
    no_trace mid le tells same (unread name) h = (rose-later before mid now le h.0, R.unread_trace p source h.1)
    no_trace mid le tells same (refused line) h = R.refused_trace p source (R.too_long (subst (λ w. MayExceed w limit) same h.0) h.1)
    no_trace mid le tells same (done lines code) h = absurd h

    -- its bytes are no trace
    pub bad_trace : (tells : Told) → tells ≡ told trace → (bytes : List ℕ) → MayHold tells bytes → length bytes ≤ limit → (e : Ending)
        → EndsAtForm bytes e → EndsReplay told before now file trace e
    bad_trace tells same bytes m le usage h = absurd h
    bad_trace tells same bytes m le (unread name) h = absurd h
    bad_trace tells same bytes m le (refused line) h =
        R.refused_trace p source (R.misfit_at bytes h.0 (subst (λ w. MayHold w bytes) same m) le (R.formless h.1) h.2)
    bad_trace tells same bytes m le (done lines code) h = absurd h

    -- the trace does not fit
    pub unfit_trace : (tells : Told) → tells ≡ told trace → (bytes : List ℕ) → MayHold tells bytes → length bytes ≤ limit → (t : Listing)
        → IsTraceText bytes t → (e : Ending) → EndsAtMisfit p t e → EndsReplay told before now file trace e
    unfit_trace tells same bytes m le t text usage h = absurd h
    unfit_trace tells same bytes m le t text (unread name) h = absurd h
    unfit_trace tells same bytes m le t text (refused line) h =
        R.refused_trace p source (R.misfit_at bytes h.0 (subst (λ w. MayHold w bytes) same m) le (R.unfit t text h.1) h.2)
    unfit_trace tells same bytes m le t text (done lines code) h = absurd h

    -- the trace is replayed
    pub traced : (tells : Told) → tells ≡ told trace → (bytes : List ℕ) → MayHold tells bytes → length bytes ≤ limit → (t : Listing)
        → IsTraceText bytes t → FitsProgram p t
        → (lines : List Line) (code : ℕ) → IsReplayReport p t lines code → IsReplayed told file trace lines code
    traced tells same bytes m le t text fits lines code r = record {
      program = p;
      source = source;
      listing = t;
      held = record { bytes = bytes; held = subst (λ w. MayHold w bytes) same m; short = le; text = text; fits = fits };
      replay = r;
    }

    -- what comes of it
    pub replay_ends : (tells : Told) → tells ≡ told trace → (bytes : List ℕ) → MayHold tells bytes → length bytes ≤ limit → (t : Listing)
        → IsTraceText bytes t → (r : Result Report Stopped)
        → MatchResult r (λ x. FitsProgram p t × IsReplayReport p t (lines_view x.lines.items) x.status.code) (IfStopped (EndsAtMisfit p t))
        → IfEnded (EndsReplay told before now file trace) r
    replay_ends tells same bytes m le t text (Ok x) h = traced tells same bytes m le t text h.0 (lines_view x.lines.items) x.status.code h.1
    replay_ends tells same bytes m le t text (Err s) h = stop_as _ _ (unfit_trace tells same bytes m le t text) s h
