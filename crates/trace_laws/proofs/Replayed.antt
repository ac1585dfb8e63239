-- Each replay of the trace of a path that breaks a property shows it.
use Rattle.std.proofs.Common.{◌≡◌, ◌≢◌, ℕ, pred, ◌<◌, ◌≤◌, Bool, true, false, List, [], ◌∷◌, length, refl, ap, ◌∙◌, sym, subst, arith, Option, Some, None}
use Rattle.std.specs.Prelude.{Contains}
use Rattle.std.proofs.lemmas.Bool.{true≢false}
use Rattle.lus_tree.specs.Tree.{Component, Program, declared_node}
use Rattle.lus_tree.specs.Lookup.{nodes_of}
use Rattle.lus_meaning.specs.Value.{Value, flag, absent, whole}
use Rattle.lus_meaning.specs.Frame.{Frame}
use Rattle.lus_meaning.specs.Scene.{Instance}
use Rattle.lus_meaning.specs.Program.{instance_of}
use Rattle.lus_meaning.specs.Contract.{Property}
use Rattle.lus_meaning.specs.Verdict.{Breaks}
use Rattle.lus_meaning.specs.FirstBreak.{IsBreak, IsBreakOf}
use Rattle.lus_meaning.specs.Trace.{IsFrameOf}
use Rattle.lus_meaning.specs.TraceView.{Listing, lines_of}
use Rattle.lus_meaning.specs.Fits.{first_named, FitsProgram}
use Rattle.lus_meaning.specs.Refusals.{IsChecked}
use Rattle.lus_meaning.specs.Replay.{Shown, Replays, ReplaysTrace}
use Rattle.sys_terms.specs.declared.term.Entry.{Entry}
use Rattle.sys_terms.specs.Paths as paths
use Rattle.sys_meaning.specs.Verdicts.{HasTrace, IsTraceOf, BreaksAtLast}
use Rattle.sys_meaning.specs.Path.{frame_of_path, trace_of}
use Rattle.sys_meaning.specs.System.{system_of}
use Rattle.path_laws.specs.Laws.{EachBreaks, EachHasTraces, HasSmallNumbers}
use Rattle.trace_laws.specs.Laws.{EachReplays}
use Rattle.trace_laws.proofs.Named.{node_component, node_named}

abbrev is_flag_true : Value → Bool
is_flag_true (flag b) = b
is_flag_true absent = false
is_flag_true (whole z) = false

-- a frame breaks a property at one instant at most
one_break : (i : Instance) (q : Property) (f : Frame) (t u : ℕ) → Breaks i q f t → Breaks i q f u → t ≡ u
one_break i q f t u a b = go (earlier t u a b) (earlier u t b a)
  where
    earlier : (t u : ℕ) → Breaks i q f t → Breaks i q f u → t < u → ⊥
    earlier t u a b l = true≢false (ap is_flag_true (sym (b.first t l) ∙ a.fails))

    go : (t < u → ⊥) → (u < t → ⊥) → t ≡ u
    go x y = omega (arith, x, y)

-- what breaks at t is shown to
shown_break : (i : Instance) (q : Property) (f : Frame) (n t : ℕ) (o : Option ℕ) → t < n → Breaks i q f t →
    IsBreak i q f n o → o ≡ Some t
shown_break i q f n t None l b h = absurd (h t l b)
shown_break i q f n t (Some u) l b h = ap Some (one_break i q f u t h.1 b)

same_some : {A : Type 0} (x y : A) → Some x ≡ Some y → x ≡ y
same_some x y e = cc

long : {A : Type 0} (xs : List A) → xs ≢ [] → 0 < length xs
long [] h = absurd (h refl)
long (x ∷ xs) h = omega arith

module _ (traces : EachHasTraces) (breaks : EachBreaks) (p : Program) (c : IsChecked p) (d : Component) (at : Contains p (declared_node d))
    (k : ℕ) (states : List (List Entry)) (b : paths.Breaks (system_of (instance_of p d)) k states) (small : HasSmallNumbers states)
    (t : Listing) (is : IsTraceOf p d states t) where
  named : first_named t.node (nodes_of p) ≡ Some d
  named = ap (λ x. first_named x (nodes_of p)) is.node ∙ node_named p c.rules.clocked.typed d at

  some : 0 < length states
  some = long states b.path.loose.some

  has_trace : HasTrace (instance_of p d) states
  has_trace = traces p c d (node_component p d at) states b.path small

  breaking_fits : length states ≤ 1001 → FitsProgram p t
  breaking_fits few = record {
    node = d;
    named = named;
    some = rw is.length (omega (arith, some));
    few = rw is.length few;
    lines = rw (is.length, is.lines) has_trace.fits;
  }

  replays_show : (s : Shown) → Replays (instance_of p d) (lines_of t) t.length s → s.breaks k ≡ Some (pred (length states))
  replays_show s r =
      let q = breaks p c d (node_component p d at) k states b in
      let is_frame : IsFrameOf (trace_of (instance_of p d) states) (instance_of p d) (length states) r.frame =
      subst (λ n. IsFrameOf (trace_of (instance_of p d) states) (instance_of p d) n r.frame) is.length
      (subst (λ ls. IsFrameOf ls (instance_of p d) t.length r.frame) is.lines r.is_frame) in
      let same : r.frame ≡ frame_of_path (instance_of p d) states = has_trace.only r.frame is_frame in
      let here : IsBreakOf (instance_of p d) (Some q.0) (frame_of_path (instance_of p d) states) (length states) (s.breaks k) =
      subst (λ f. IsBreakOf (instance_of p d) (Some q.0) f (length states) (s.breaks k)) same
      (subst (λ n. IsBreakOf (instance_of p d) (Some q.0) r.frame n (s.breaks k)) is.length
      (subst (λ o. IsBreakOf (instance_of p d) o r.frame t.length (s.breaks k)) q.1 (r.breaks k))) in
      shown_break (instance_of p d) q.0 (frame_of_path (instance_of p d) states) (length states)
      (pred (length states)) (s.breaks k) (omega (arith, some)) q.2 here

  breaking_shown : (s : Shown) → ReplaysTrace p t s → s.breaks k ≡ Some (pred (length states))
  breaking_shown s r =
      let one : r.node ≡ d = same_some r.node d (sym r.named ∙ named) in
      replays_show s (subst (λ e. Replays (instance_of p e) (lines_of t) t.length s) one r.replays)

pub each_replays : EachHasTraces → EachBreaks → EachReplays
each_replays traces breaks p c d at k states b small few t is =
    (breaking_fits traces breaks p c d at k states b small t is few, breaking_shown traces breaks p c d at k states b small t is)
