-- Books: what their entries say, and when an entry is true.
use Rattle.std.specs.Prelude.{ℕ, zero, suc, ◌≡◌, ◌≤◌, ◌<◌, ◌⊎◌, true, false, List, [], ◌∷◌, length, All, Contains, Option, Some, None, slice_get, map, take, Ok}
use lib.IntN.{ℤ}
use Rattle.proof_steps.specs.View.{Refutation}
use Rattle.proof_steps.specs.Rows.{Form}
use Rattle.proof_steps.specs.StopView.{Halt}
use Rattle.proof_steps.specs.Stopped.{IsTrueOf}
use Rattle.board_core.specs.declared.plan.Plan.{Plan}
use Rattle.sys_terms.specs.declared.term.Entry.{Entry as Cell}
use Rattle.sys_terms.specs.declared.term.Entry.TheVariants as c
use Rattle.sys_terms.specs.View.{Formula, Machine, Task, base, step, lemma_first, lemma_next, implied, with_states}
use Rattle.sys_terms.specs.Fits.{is_narrow, is_narrow_number}
use Rattle.sys_terms.specs.Paths.{IsTrueAt, IsLoosePath, IsFalseAtLastAlone, Breaks}
use Rattle.sys_terms.specs.Queries.{property_term, query_of}
use Rattle.sys_terms.specs.NarrowQuery.{narrow_task}
use Rattle.cnf_maker.specs.ClauseForm.{clause_form}
use Rattle.cert_rules.specs.Facts.{Fact, base_fact, step_fact, lemma_fact, held_fact, held_by_fact, other_fact, IsFactAfter, IsLemmaOf, IsBaseOf, IsRefuted}

-- why an engine leaves a property undecided: it went to this depth, to this many frames or blocked
-- clauses, or through so many candidates; a query of it stopped; or all breaks found need a number of
-- this size
pub data Why : Type 0 where
  depth : ℕ → Why
  frames : ℕ → Why
  blocked : ℕ → Why
  done : ℕ → Why
  stopped : Halt → Why
  wide : (path : List (List Cell)) (variable instant : ℕ) (value : ℤ) → Why

-- what is kept behind a cause
pub record Grounds : Type 0 where
  pub query : Option (Task × List ℕ)
  pub proofs : List Refutation
  pub paths : List (List (List Cell))
  pub terms : List (List Formula)

-- what an entry says, with the fact behind it
pub data Claim : Type 0 where
  proved : Fact → Claim
  broken : (property : ℕ) → List (List Cell) → Claim
  stuck : (property : ℕ) → List (List Cell) → (front : ℕ) → Claim
  spent : (engine property : ℕ) → Why → Grounds → Claim

-- an entry with the number of the seat that posted it
pub record Posting : Type 0 where
  pub seat : ℕ
  pub says : Claim

-- the fact in an entry
abbrev pub fact_in : Claim → Fact
fact_in (proved f) = f
fact_in (broken p path) = other_fact
fact_in (stuck p path front) = other_fact
fact_in (spent engine p why grounds) = other_fact

abbrev pub facts_in : List Posting → List Fact
facts_in = map (λ i. fact_in i.says)

-- ---- broken and stuck entries

-- a counterexample of at most 1,001 states, each number below 2^63 in size
pub record IsBroken (m : Machine) (p : ℕ) (states : List (List Cell)) : Type 0 where
  pub breaks : Breaks m p states
  pub short : length states ≤ 1001
  pub narrow : All (λ s. is_narrow s ≡ true) states

-- every lemma entry of these is true at each of the states
abbrev pub LemmasTrueOn : List Posting → List (List Cell) → Type 0
LemmasTrueOn history states =
    (n : ℕ) (f : Formula) → IsLemmaOf f (slice_get (facts_in history) n) → All (IsTrueAt f) states

-- states joined by steps, on which the lemmas below the front are true, with the property false at
-- the last one alone
pub record IsStuckPath (m : Machine) (earlier : List Posting) (p : ℕ) (states : List (List Cell)) (front : ℕ)
    : Type 0 where
  pub property : p < length m.properties
  pub front_is_here : front ≤ length earlier
  pub loose : IsLoosePath m states
  pub alone : IsFalseAtLastAlone (property_term m p) states
  pub lemmas : LemmasTrueOn (take front earlier) states

-- ---- causes

-- a kept proof refutes the obligation
abbrev pub IsRefutedBy : Machine → List Refutation → Task → List Formula → Type 0
IsRefutedBy m proofs task cites = (proof : Refutation) × Contains proofs proof × IsRefuted m task cites proof

-- at each instant before this one the kept proofs refute that the property is false
abbrev pub AreRefutedBefore : Machine → List Refutation → (p i : ℕ) → List Formula → Type 0
AreRefutedBefore m proofs p i cites = (j : ℕ) → j < i → IsRefutedBy m proofs (base p j) cites

-- the history has a base entry of the property to this instant or later
abbrev pub HasBase : List Posting → ℕ → ℕ → Type 0
HasBase history p d = (n : ℕ) × IsBaseOf p d (slice_get (facts_in history) n)

-- the base entry to exactly this instant
abbrev pub IsBaseTo : ℕ → ℕ → Option Fact → Type 0
IsBaseTo p d None = ⊥
IsBaseTo p d (Some (base_fact q e cites proofs)) = (q ≡ p) × (e ≡ d)
IsBaseTo p d (Some (step_fact q j cites proof)) = ⊥
IsBaseTo p d (Some (lemma_fact g cites first next)) = ⊥
IsBaseTo p d (Some (held_fact q a b)) = ⊥
IsBaseTo p d (Some (held_by_fact q a proof)) = ⊥
IsBaseTo p d (Some other_fact) = ⊥

-- a stuck entry of the property with d + 1 states
abbrev pub IsStuckClaim : (p d : ℕ) → Claim → Type 0
IsStuckClaim p d (proved f) = ⊥
IsStuckClaim p d (broken q path) = ⊥
IsStuckClaim p d (stuck q path front) = (q ≡ p) × (length path ≡ suc d)
IsStuckClaim p d (spent e q why grounds) = ⊥

abbrev pub IsStuckOf : (p d : ℕ) → Option Posting → Type 0
IsStuckOf p d None = ⊥
IsStuckOf p d (Some i) = IsStuckClaim p d i.says

-- bounded search has gone through all instants; induction is stuck at a path of one state more than
-- its depth
abbrev pub IsDepth : List Posting → (engine p d : ℕ) → Type 0
IsDepth earlier zero p d = (n : ℕ) × IsBaseTo p d (slice_get (facts_in earlier) n)
IsDepth earlier (suc zero) p d = (n : ℕ) × IsStuckOf p d (slice_get earlier n)
IsDepth earlier (suc (suc e)) p d = ⊥

-- a loose path of k states, the property false at the last one alone, is kept
pub record HasRun (m : Machine) (paths : List (List (List Cell))) (p k : ℕ) : Type 0 where
  pub states : List (List Cell)
  pub is_kept : Contains paths states
  pub count : length states ≡ k
  pub loose : IsLoosePath m states
  pub alone : IsFalseAtLastAlone (property_term m p) states

-- the query at which bounded search may stop: each instant before it is refuted
pub record MayAskBase (m : Machine) (plan : Plan) (kept : List Refutation) (p i : ℕ) (cites : List Formula)
    : Type 0 where
  pub within : i ≤ plan.depth
  pub before : AreRefutedBefore m kept p i cites

-- those at which induction may stop: the step by k states, after one by k - 1 states that is stuck
abbrev pub MayAskStep : Machine → Plan → Grounds → (p k : ℕ) → Type 0
MayAskStep m plan grounds p zero = ⊥
MayAskStep m plan grounds p (suc zero) = 1 ≤ plan.depth
MayAskStep m plan grounds p (suc (suc k)) = (suc (suc k) ≤ plan.depth) × HasRun m grounds.paths p (suc (suc k))

-- or a base at an instant below a k whose step is refuted
pub record MayAskBelow (m : Machine) (plan : Plan) (grounds : Grounds) (p i : ℕ) (cites : List Formula)
    : Type 0 where
  pub k : ℕ
  pub below : i < k
  pub within : k ≤ plan.depth
  pub after : IsRefutedBy m grounds.proofs (step p k) cites

-- the queries of engines 0 and 1 about the property
abbrev pub MayAsk : Machine → Plan → Grounds → (engine p : ℕ) → Task → List Formula → Type 0
MayAsk m plan grounds zero p (base q i) cites = (q ≡ p) × MayAskBase m plan grounds.proofs p i cites
MayAsk m plan grounds zero p (step q k) cites = ⊥
MayAsk m plan grounds zero p (lemma_first f) cites = ⊥
MayAsk m plan grounds zero p (lemma_next f) cites = ⊥
MayAsk m plan grounds zero p (implied f q) cites = ⊥
MayAsk m plan grounds zero p (with_states n b at) cites = ⊥
MayAsk m plan grounds (suc zero) p (base q i) cites = (q ≡ p) × MayAskBelow m plan grounds p i cites
MayAsk m plan grounds (suc zero) p (step q k) cites = (q ≡ p) × MayAskStep m plan grounds p k
MayAsk m plan grounds (suc zero) p (lemma_first f) cites = ⊥
MayAsk m plan grounds (suc zero) p (lemma_next f) cites = ⊥
MayAsk m plan grounds (suc zero) p (implied f q) cites = ⊥
MayAsk m plan grounds (suc zero) p (with_states n b at) cites = ⊥
MayAsk m plan grounds (suc (suc e)) p task cites = ⊥

-- one of an engine's queries, or the narrow query of one
abbrev pub MayStop : Machine → Plan → Grounds → (engine p : ℕ) → Task → List Formula → Type 0
MayStop m plan grounds engine p task cites =
    (asked : Task) × MayAsk m plan grounds engine p asked cites × ((task ≡ asked) ⊎ (task ≡ narrow_task m asked))

-- the stop is true of the query in clause form, with the budgets of the plan
pub record IsStopped (m : Machine) (plan : Plan) (grounds : Grounds) (engine p : ℕ) (task : Task)
    (cites : List Formula) (halt : Halt) : Type 0 where
  pub asked : MayStop m plan grounds engine p task cites
  pub form : Form
  pub is_form : clause_form (query_of m task cites) ≡ Ok form
  pub is_true : IsTrueOf form plan.budgets halt

-- the value at this place of the path has size 2^63 or more
abbrev pub IsWideAt : List (List Cell) → (variable instant : ℕ) → ℤ → Type 0
IsWideAt path variable instant value =
    (s : List Cell) × (slice_get path instant ≡ Some s) × (slice_get s variable ≡ Some (c.Number value))
    × (is_narrow_number value ≡ false)

-- the kept proofs, or a base entry of the history, refute the instants before this one
pub data IsClearBefore (m : Machine) (earlier : List Posting) (proofs : List Refutation) (p i : ℕ)
    (cites : List Formula) : Type 0 where
  by_proofs : AreRefutedBefore m proofs p i cites → IsClearBefore m earlier proofs p i cites
  by_entry : (d : ℕ) → i ≡ suc d → HasBase earlier p d → IsClearBefore m earlier proofs p i cites

-- a path that breaks the property at the instant of the kept base query, with a value of this size;
-- the narrow query is refuted, so that each path to this instant has such a value
pub record IsWide (m : Machine) (plan : Plan) (earlier : List Posting) (grounds : Grounds) (engine p : ℕ)
    (path : List (List Cell)) (variable instant : ℕ) (value : ℤ) (task : Task) (cites : List Formula)
    : Type 0 where
  pub last : ℕ
  pub is_base : task ≡ base p last
  pub breaks : Breaks m p path
  pub count : length path ≡ suc last
  pub too_wide : IsWideAt path variable instant value
  pub asked : MayAsk m plan grounds engine p (base p last) cites
  pub clear : IsClearBefore m earlier grounds.proofs p last cites
  pub narrow : IsRefutedBy m grounds.proofs (narrow_task m (base p last)) cites

-- the term of the lemma entry at hand
abbrev pub term_at : Option Fact → Option Formula
term_at None = None
term_at (Some (base_fact p d cites proofs)) = None
term_at (Some (step_fact p j cites proof)) = None
term_at (Some (lemma_fact f cites first next)) = Some f
term_at (Some (held_fact p a b)) = None
term_at (Some (held_by_fact p a proof)) = None
term_at (Some other_fact) = None

-- the terms are those of the lemma entries at the places
abbrev pub AreTermsAt : List Fact → List ℕ → List Formula → Type 0
AreTermsAt facts [] [] = Unit
AreTermsAt facts [] (f ∷ fs) = ⊥
AreTermsAt facts (n ∷ ns) [] = ⊥
AreTermsAt facts (n ∷ ns) (f ∷ fs) = (term_at (slice_get facts n) ≡ Some f) × AreTermsAt facts ns fs

-- the kept query with the terms of its cited lemmas, which are earlier entries
abbrev pub OfQuery : List Posting → (Task → List Formula → Type 0) → Option (Task × List ℕ) → Type 0
OfQuery earlier P None = ⊥
OfQuery earlier P (Some (task, places)) =
    (cites : List Formula) × AreTermsAt (facts_in earlier) places cites × P task cites

-- the cause is true, after these entries; no engine is there yet whose cause is one of frames, blocked
-- clauses or candidates
abbrev pub IsWhy : Machine → Plan → List Posting → (engine p : ℕ) → Why → Grounds → Type 0
IsWhy m plan earlier engine p (depth d) grounds = (d ≡ plan.depth) × IsDepth earlier engine p d
IsWhy m plan earlier engine p (frames n) grounds = ⊥
IsWhy m plan earlier engine p (blocked n) grounds = ⊥
IsWhy m plan earlier engine p (done n) grounds = ⊥
IsWhy m plan earlier engine p (stopped halt) grounds =
    OfQuery earlier (λ task cites. IsStopped m plan grounds engine p task cites halt) grounds.query
IsWhy m plan earlier engine p (wide path variable instant value) grounds =
    OfQuery earlier (λ task cites. IsWide m plan earlier grounds engine p path variable instant value task cites)
    grounds.query

-- ---- a sound book

-- an entry is true, after these entries
abbrev pub IsTrueAfter : Machine → Plan → List Posting → Claim → Type 0
IsTrueAfter m plan earlier (proved f) = IsFactAfter m (facts_in earlier) f
IsTrueAfter m plan earlier (broken p path) = IsBroken m p path
IsTrueAfter m plan earlier (stuck p path front) =
    IsStuckPath m earlier p path front × (length path ≡ suc plan.depth)
IsTrueAfter m plan earlier (spent engine p why grounds) =
    (p < length m.properties) × IsWhy m plan earlier engine p why grounds

-- each entry is true after those at smaller places
abbrev pub AreSound : Machine → Plan → List Posting → Type 0
AreSound m plan history =
    (n : ℕ) (i : Posting) → slice_get history n ≡ Some i → IsTrueAfter m plan (take n history) i.says
