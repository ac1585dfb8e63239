-- True verdicts are complete, where causes say how far the engines went.
use Rattle.std.proofs.Common.{◌≡◌, ◌∙◌, ◌<◌, ◌≤◌, ◌+◌, ℕ, zero, suc, List, [], ◌∷◌, Some, refl, sym, ap, subst, arith, length, map, slice_get}
use Rattle.std.specs.Prelude.{Contains, slice_index_or}
use Rattle.std.specs.List.{AllByRecursion}
use Rattle.lus_tree.specs.Tree.{Program, Component}
use Rattle.lus_meaning.specs.Value.{flag}
use Rattle.std.specs.Prelude.{true, false}
use Rattle.lus_meaning.specs.Frame.{Frame}
use Rattle.lus_meaning.specs.Scene.{Instance}
use Rattle.lus_meaning.specs.Program.{instance_of}
use Rattle.lus_meaning.specs.Contract.{Property}
use Rattle.lus_meaning.specs.Property.{properties}
use Rattle.lus_meaning.specs.Verdict.{throughout, Holds, Breaks}
use Rattle.sys_terms.specs.View.{Machine}
use Rattle.sys_terms.specs.Fits.{IsFit}
use Rattle.sys_meaning.specs.System.{system_of}
use Rattle.sys_meaning.specs.Verdicts.{HoldsUpTo}
use Rattle.board_core.specs.declared.plan.Plan.{Plan}
use Rattle.board_core.specs.Entries.{depth, Posting, AreSound}
use Rattle.board_core.specs.Verdicts.{cause_of}
use Rattle.depth_laws.specs.Depths.{IsInductive}
use Rattle.depth_laws.specs.Laws.{DepthOfStep, WholeCausesAreDepths}
use Rattle.verdict_laws.specs.Laws.{DepthsHold, InductiveHold}
use Rattle.trace_laws.proofs.Named.{node_component}
use Rattle.kind_main.specs.declared.options.Options.{Options}
use Rattle.kind_main.specs.Options.{numbers_of, options_plan}
use Rattle.kind_main.specs.Causes.{Because, IsTrueCause}
use Rattle.kind_main.specs.Verdicts.{Verdict, valid, falsifiable, unknown, IsTrueVerdict, AreTrueVerdicts, IsAnalysed}
use Rattle.kind_main.specs.Complete.{IsUncutOf, IsUncut, IsFalsifiable, IsValid, IsComplete, AreComplete}

-- ---- a cause of an engine

-- one of these causes is of that engine
record Found (P : Because → Type 0) (e : ℕ) : Type 0 where
  pub cause : Because
  pub engine : cause.engine ≡ e
  pub holds : P cause

abbrev engines : List Because → List ℕ
engines bs = map (λ (b : Because). b.engine) bs

found-at : (P : Because → Type 0) (e : ℕ) (bs : List Because) (k : ℕ) → k < length (engines bs) → slice_index_or (engines bs) k e ≡ e
    → AllByRecursion P bs → Found P e
found-at P e [] k lt at h = absurd (omega (arith, lt))
found-at P e (b ∷ bs) zero lt at h = record { cause = b; engine = at; holds = h.0 }
found-at P e (b ∷ bs) (suc k) lt at h = found-at P e bs k (omega (arith, lt)) at h.1

found : (P : Because → Type 0) (e : ℕ) (es : List ℕ) → Contains es e → (bs : List Because) → engines bs ≡ es → AllByRecursion P bs → Found P e
found P e es c bs is h =
    let d : Contains (engines bs) e = subst (λ fs. Contains fs e) (sym is) c in
    found-at P e bs d.0 d.1 d.2 h

both : (P Q : Because → Type 0) (bs : List Because) → AllByRecursion P bs → AllByRecursion Q bs → AllByRecursion (λ b. P b × Q b) bs
both P Q [] h g = tt
both P Q (b ∷ bs) h g = ((h.0, g.0), both P Q bs h.1 g.1)

-- ---- breaks

no-break : (i : Instance) (q : Property) (f : Frame) (t d : ℕ) → HoldsUpTo i q d → Breaks i q f t → t ≤ d → ⊥
no-break i q f t d h b le =
    let e : q.test throughout f t ≡ flag true = h b.instants f t b.run b.enough le b.lawful in
    let x : flag true ≡ flag false = sym e ∙ b.fails in
    absurd cc

never-breaks : (i : Instance) (q : Property) (f : Frame) (t : ℕ) → Holds i q → Breaks i q f t → ⊥
never-breaks i q f t h b =
    let e : q.test throughout f t ≡ flag true = h b.instants f t b.run b.enough b.lawful in
    let x : flag true ≡ flag false = sym e ∙ b.fails in
    absurd cc

-- ---- verdicts

module _ (whole : WholeCausesAreDepths) (bounded : DepthsHold) (induction : DepthOfStep) (inductive : InductiveHold)
    (o : Options) (p : Program) (d : Component) (a : IsAnalysed p d) (fit : IsFit (system_of (instance_of p d))) (book : List Posting)
    (sound : AreSound (system_of (instance_of p d)) (options_plan o) book) where
  abbrev pub i : Instance
  i = instance_of p d

  abbrev pub m : Machine
  m = system_of i

  abbrev pub plan : Plan
  plan = options_plan o

  -- the engine's cause is the depth
  went : (k e : ℕ) (b : Because) (t : IsTrueCause m plan book k b) → b.engine ≡ e → IsUncutOf e b
      → cause_of e k book ≡ Some (depth plan.depth)
  went k e b t is uncut =
      let at : cause_of e k book ≡ Some b.why = subst (λ f. cause_of f k book ≡ Some b.why) is t.answered in
      at ∙ ap Some (whole m plan book fit sound e k b.why at (uncut is))

  bounded-of : (k : ℕ) (q : Property) → slice_get (properties i) k ≡ Some q
      → Found (λ b. IsTrueCause m plan book k b × IsUncutOf 0 b) 0 → HoldsUpTo i q plan.depth
  bounded-of k q at r =
      bounded p a.follows.rules d (node_component p d a.declared) plan book fit sound k q at plan.depth
      (went k 0 r.cause r.holds.0 r.engine r.holds.1)

  not-inductive : (k : ℕ) → Found (λ b. IsTrueCause m plan book k b × IsUncutOf 1 b) 1 → (states : ℕ) → states ≤ plan.depth
      → IsInductive m k states → ⊥
  not-inductive k r states le h =
      induction m plan book fit sound k plan.depth (went k 1 r.cause r.holds.0 r.engine r.holds.1) states le h

  breaks-of : (k : ℕ) (q : Property) → slice_get (properties i) k ≡ Some q → (v : Verdict) → IsTrueVerdict o p d book k q v
      → Contains (numbers_of o.engines) 0 → IsUncut 0 v → (f : Frame) (t : ℕ) → Breaks i q f t → t ≤ o.depth → IsFalsifiable v
  breaks-of k q at valid h c u f t b le = absurd (never-breaks i q f t h.0 b)
  breaks-of k q at (falsifiable last trace) h c u f t b le = tt
  breaks-of k q at (unknown causes) h c u f t b le =
      absurd (no-break i q f t plan.depth
      (bounded-of k q at (found _ 0 (numbers_of o.engines) c causes h.0.engines (both _ _ causes h.0.each u))) b le)

  inductive-of : (k : ℕ) (q : Property) → slice_get (properties i) k ≡ Some q → (v : Verdict) → IsTrueVerdict o p d book k q v
      → Contains (numbers_of o.engines) 1 → IsUncut 1 v → (states : ℕ) → states ≤ o.depth → IsInductive m k states → IsValid v
  inductive-of k q at valid h c u states le s = tt
  inductive-of k q at (falsifiable last trace) h c u states le s =
      absurd (never-breaks i q h.1.frame last (inductive p a.follows.rules d (node_component p d a.declared) k states q at s) h.1.breaks)
  inductive-of k q at (unknown causes) h c u states le s =
      absurd (not-inductive k (found _ 1 (numbers_of o.engines) c causes h.0.engines (both _ _ causes h.0.each u)) states le s)

  complete-one : (k : ℕ) (q : Property) → slice_get (properties i) k ≡ Some q → (v : Verdict) → IsTrueVerdict o p d book k q v
      → IsComplete o i k q v
  complete-one k q at v h = record { breaks = breaks-of k q at v h; inductive = inductive-of k q at v h }

  complete-from : (k : ℕ) (qs : List Property) (vs : List Verdict)
      → ((j : ℕ) (q : Property) → slice_get qs j ≡ Some q → slice_get (properties i) (k + j) ≡ Some q)
      → AreTrueVerdicts o p d book k qs vs → AreComplete o i k qs vs
  complete-from k [] [] at h = tt
  complete-from k [] (v ∷ vs) at h = tt
  complete-from k (q ∷ qs) [] at h = tt
  complete-from k (q ∷ qs) (v ∷ vs) at h = (
    complete-one k q (subst (λ j. slice_get (properties i) j ≡ Some q) (omega arith) (at 0 q refl)) v h.0,
    complete-from (suc k) qs vs
        (λ j r e. subst (λ n. slice_get (properties i) n ≡ Some r) (omega arith) (at (suc j) r e)) h.1,
  )

  pub complete : (vs : List Verdict) → AreTrueVerdicts o p d book 0 (properties i) vs → AreComplete o i 0 (properties i) vs
  complete vs h =
      complete-from 0 (properties i) vs (λ j q e. subst (λ n. slice_get (properties i) n ≡ Some q) (omega arith) e) h
