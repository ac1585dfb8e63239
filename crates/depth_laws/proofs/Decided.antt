-- Verdicts of properties that break, or that induction proves, up to the depth.
use Rattle.std.specs.Prelude.{ℕ, ◌≡◌, ◌≤◌, List, length, Option, Some, None, slice_get, refl}
use Rattle.std.proofs.Common.{◌∙◌, ap}
use Rattle.sys_terms.specs.View.{Machine}
use Rattle.sys_terms.specs.Fits.{IsFit}
use Rattle.sys_terms.specs.Queries.{property_term}
use Rattle.cert_rules.specs.Laws.{HoldsReachably}
use Rattle.cert_rules.proofs.Paths.{alone-last}
use Rattle.board_core.specs.declared.plan.Plan.{Plan}
use Rattle.board_core.specs.Entries.{depth, Posting, AreSound}
use Rattle.board_core.specs.Verdicts.{Judged, valid_by, falsifiable_by, unknown, judged, cause_of, BreaksBy, IsJudged}
use Rattle.depth_laws.specs.Depths.{BreaksUpTo, IsInductive, HasWholeCause}
use Rattle.depth_laws.specs.Laws.{WholeCausesAreDepths, DepthOfBounded, DepthOfStep, InductiveHold, IsBeyond, BrokenAreFalsifiable, InductiveAreValid, UnknownAreBeyond, PlayedHaveCauses, PlayedHaveWholeCauses, PlayedAreComplete}
use Rattle.depth_laws.proofs.Parts.{some-alone, ends-true}

abbrev pub VerdictsAreTrue : Type 0
VerdictsAreTrue =
    (m : Machine) (plan : Plan) (history : List Posting) (p : ℕ) → IsFit m → AreSound m plan history
    → IsJudged m p history (judged p history)

-- an entry that breaks a property which is true in all reachable states
no-break : (m : Machine) (p : ℕ) (o : Option Posting) → HoldsReachably m (property_term m p) → ¬ BreaksBy m p o
no-break m p None h b = b
no-break m p (Some i) h b =
    let breaks = b.2 in
    ends-true m (property_term m p) b.0 h breaks.path
    (alone-last (property_term m p) b.0 (some-alone (slice_get m.properties p) b.0 breaks.broken))

module _ (verdicts : VerdictsAreTrue) (whole : WholeCausesAreDepths) (m : Machine) (plan : Plan) (history : List Posting)
    (fit : IsFit m) (sound : AreSound m plan history) (p : ℕ) where
  -- the cause of an engine that was not cut short, of what is unknown
  is-depth : (engine : ℕ) → HasWholeCause history engine p → judged p history ≡ unknown
      → cause_of engine p history ≡ Some (depth plan.depth)
  is-depth engine c e =
      let there = c e in
      there.1 ∙ ap Some (whole m plan history fit sound engine p there.0 there.1 there.2)

  pub unbroken : DepthOfBounded → HasWholeCause history 0 p → judged p history ≡ unknown → ¬ BreaksUpTo m p plan.depth
  unbroken law c e = law m plan history fit sound p plan.depth (is-depth 0 c e)

  pub not-inductive : DepthOfStep → HasWholeCause history 1 p → judged p history ≡ unknown
      → (k : ℕ) → k ≤ plan.depth → ¬ IsInductive m p k
  not-inductive law c e = law m plan history fit sound p plan.depth (is-depth 1 c e)

  pub beyond : DepthOfBounded → DepthOfStep → judged p history ≡ unknown → HasWholeCause history 0 p
      → HasWholeCause history 1 p → IsBeyond m p plan.depth
  beyond bounded step e c d = record { unbroken = unbroken bounded c e; not_inductive = not-inductive step d e }

  broken-by : (BreaksUpTo m p plan.depth) → (judged p history ≡ unknown → ¬ BreaksUpTo m p plan.depth)
      → (j : Judged) → judged p history ≡ j → IsJudged m p history j
      → (place : ℕ) × (judged p history ≡ falsifiable_by place)
  broken-by b law (valid_by place) e t = absurd (ends-true m (property_term m p) b.states t b.path b.ends_false)
  broken-by b law (falsifiable_by place) e t = (place, e)
  broken-by b law unknown e t = absurd (law e b)

  pub broken-falsifiable : DepthOfBounded → HasWholeCause history 0 p → BreaksUpTo m p plan.depth
      → (place : ℕ) × (judged p history ≡ falsifiable_by place)
  broken-falsifiable law c b =
      broken-by b (unbroken law c) (judged p history) refl (verdicts m plan history p fit sound)

  inductive-by : (k : ℕ) → IsInductive m p k → HoldsReachably m (property_term m p)
      → (judged p history ≡ unknown → ¬ IsInductive m p k)
      → (j : Judged) → judged p history ≡ j → IsJudged m p history j
      → (place : ℕ) × (judged p history ≡ valid_by place)
  inductive-by k i h law (valid_by place) e t = (place, e)
  inductive-by k i h law (falsifiable_by place) e t = absurd (no-break m p (slice_get history place) h t)
  inductive-by k i h law unknown e t = absurd (law e i)

  pub inductive-valid : DepthOfStep → InductiveHold → HasWholeCause history 1 p → (k : ℕ) → k ≤ plan.depth
      → IsInductive m p k → (place : ℕ) × (judged p history ≡ valid_by place)
  inductive-valid law hold c k l i =
      inductive-by k i (hold m p k i) (λ e. not-inductive law c e k l) (judged p history) refl
      (verdicts m plan history p fit sound)

-- ---- played books

pub played-whole : PlayedHaveCauses → PlayedHaveWholeCauses
played-whole there history seat engine count p causes l uncut e =
    let c = there history seat engine count p causes l e in (c.0, c.1, uncut e c.0 c.1)

pub played-complete : BrokenAreFalsifiable → InductiveAreValid → UnknownAreBeyond → PlayedHaveWholeCauses → PlayedAreComplete
played-complete broken valid beyond whole m plan history fit sound first second p a b l c d =
    let count = length m.properties in
    let bounded = whole history first 0 count p a l c in
    let step = whole history second 1 count p b l d in
    record {
      falsifiable = broken m plan history fit sound p bounded;
      valid = valid m plan history fit sound p step;
      beyond = λ e. beyond m plan history fit sound p e bounded step;
    }
