-- Verdicts and causes, by the laws of the translation.
use Rattle.std.specs.Prelude.{ℕ, pred, ◌≡◌, ◌≤◌, true, false, List, length, Option, Some, None, slice_get, refl}
use Rattle.std.proofs.Common.{sym, subst, ◌∙◌, ap}
use Rattle.lus_meaning.specs.Value.{flag}
use Rattle.lus_meaning.specs.Frame.{Frame}
use Rattle.lus_meaning.specs.Scene.{Instance}
use Rattle.lus_meaning.specs.Contract.{Property}
use Rattle.lus_meaning.specs.Property.{properties}
use Rattle.lus_meaning.specs.Verdict.{Holds, Breaks}
use Rattle.sys_terms.specs.View.{Machine}
use Rattle.sys_terms.specs.Fits.{IsFit}
use Rattle.sys_meaning.specs.System.{system_of}
use Rattle.sys_meaning.specs.Path.{frame_of_path}
use Rattle.sys_meaning.specs.Verdicts.{HoldsUpTo, BreaksAtLast}
use Rattle.path_laws.specs.Laws.{EachHolds, EachBounds, EachBreaks}
use Rattle.board_core.specs.declared.plan.Plan.{Plan}
use Rattle.board_core.specs.Entries.{Posting, AreSound}
use Rattle.board_core.specs.Verdicts.{Judged, valid_by, falsifiable_by, unknown, judged, BreaksBy, IsJudged}
use Rattle.depth_laws.specs.Laws.{DepthOfBounded, WholeCausesAreDepths}
use Rattle.depth_laws.specs.Laws as depths
use Rattle.verdict_laws.specs.Laws.{ValidHold, BreaksByFrame, FalsifiableBreak, DepthsHold, UnknownHoldUpTo, BrokenAreFalsifiable, InductiveHold}

abbrev pub VerdictsAreTrue : Type 0
VerdictsAreTrue =
    (m : Machine) (plan : Plan) (history : List Posting) (p : ℕ) → IsFit m → AreSound m plan history
    → IsJudged m p history (judged p history)

-- ---- verdicts

pub valid-hold : VerdictsAreTrue → EachHolds → ValidHold
valid-hold verdicts holds p c n j plan history fit sound k q at place e =
    holds p c n j k q at (subst (IsJudged _ k history) e (verdicts _ plan history k fit sound))

by-frame : (i : Instance) → BreaksAtLast i → (k : ℕ) (q : Property) → slice_get (properties i) k ≡ Some q
    → (o : Option Posting) → BreaksBy (system_of i) k o → BreaksByFrame i k q o
by-frame i law k q at None b = b
by-frame i law k q at (Some e) b =
    let r = law k b.0 b.2 in
    let same : r.0 ≡ q = is-same r.0 q (sym r.1 ∙ at) in
    (b.0, b.1, subst (λ x. Breaks i x (frame_of_path i b.0) (pred (length b.0))) same r.2) where
      is-same : (x y : Property) → Some x ≡ Some y → x ≡ y
      is-same x y e = cc

pub falsifiable-break : VerdictsAreTrue → EachBreaks → FalsifiableBreak
falsifiable-break verdicts breaks p c n j plan history fit sound k q at place e =
    by-frame _ (breaks p c n j) k q at (slice_get history place)
    (subst (IsJudged _ k history) e (verdicts _ plan history k fit sound))

-- ---- causes

pub depths-hold : DepthOfBounded → EachBounds → DepthsHold
depths-hold law bounds p c n j plan history fit sound k q at d e =
    bounds p c n j k plan.depth q at
    (λ states path short ends_false. law _ plan history fit sound k d e
    (record { states = states; path = path; short = short; ends_false = ends_false }))

pub unknown-up-to : DepthsHold → WholeCausesAreDepths → UnknownHoldUpTo
unknown-up-to depths whole p c n j plan history fit sound k q at e cause =
    let there = cause e in
    depths p c n j plan history fit sound k q at plan.depth
    (there.1 ∙ ap Some (whole _ plan history fit sound 0 k there.0 there.1 there.2))

true-or-false : (b : Property) (f : Frame) (t : ℕ) → flag true ≡ flag false → ⊥
true-or-false b f t e = cc

by-verdict : (i : Instance) (q : Property) (k d : ℕ) (history : List Posting) (f : Frame) (t : ℕ) → Breaks i q f t → t ≤ d
    → ((place : ℕ) → judged k history ≡ valid_by place → Holds i q)
    → (judged k history ≡ unknown → HoldsUpTo i q d)
    → (j : Judged) → judged k history ≡ j → (place : ℕ) × (judged k history ≡ falsifiable_by place)
by-verdict i q k d history f t b l valid beyond (valid_by place) e =
    absurd (true-or-false q f t (sym (valid place e b.instants f t b.run b.enough b.lawful) ∙ b.fails))
by-verdict i q k d history f t b l valid beyond (falsifiable_by place) e = (place, e)
by-verdict i q k d history f t b l valid beyond unknown e =
    absurd (true-or-false q f t (sym (beyond e b.instants f t b.run b.enough l b.lawful) ∙ b.fails))

pub broken-falsifiable : ValidHold → UnknownHoldUpTo → BrokenAreFalsifiable
broken-falsifiable valid beyond p c n j plan history fit sound k q at cause f t b l =
    by-verdict _ q k plan.depth history f t b l (valid p c n j plan history fit sound k q at)
    (λ e. beyond p c n j plan history fit sound k q at e cause) (judged k history) refl

-- ---- induction

pub inductive-hold : depths.InductiveHold → EachHolds → InductiveHold
inductive-hold law holds p c n j k states q at i = holds p c n j k q at (law _ k states i)
