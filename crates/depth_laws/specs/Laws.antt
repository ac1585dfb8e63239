-- The laws of depths.
use Rattle.std.specs.Prelude.{ℕ, ◌≡◌, ◌≤◌, ◌<◌, ◌↔◌, true, List, [], length, Some}
use Rattle.sys_terms.specs.View.{Formula, Machine, step}
use Rattle.sys_terms.specs.Fits.{IsFit, all_fit_one}
use Rattle.sys_terms.specs.Queries.{property_term}
use Rattle.cert_rules.specs.Laws.{HoldsReachably}
use Rattle.board_core.specs.declared.plan.Plan.{Plan}
use Rattle.board_core.specs.Entries.{Why, depth, Posting, AreSound}
use Rattle.board_core.specs.Verdicts.{valid_by, falsifiable_by, unknown, judged, cause_of}
use Rattle.board_core.specs.Seats.{HasCauses}
use Rattle.depth_laws.specs.Depths.{BreaksUpTo, HasCounterexample, StaysTrueAfter, StaysTrueWith, IsInductive, HasNoSolution, IsCutShort, IsUncut, HasWholeCause, AreLemmasBelow, IsStuckAt}

-- ---- breaks and induction

-- where a property breaks up to an instant, some counterexample is as short, and the other way round
abbrev pub BreaksHaveCounterexamples : Type 0
BreaksHaveCounterexamples = (m : Machine) (p instant : ℕ) → BreaksUpTo m p instant ↔ HasCounterexample m p instant

-- a k-inductive property is true in all reachable states
abbrev pub InductiveHold : Type 0
InductiveHold = (m : Machine) (p k : ℕ) → IsInductive m p k → HoldsReachably m (property_term m p)

-- it is true after k states exactly where the query of its step, without citations, has no solution
abbrev pub StepsAreQueries : Type 0
StepsAreQueries =
    (m : Machine) (p k : ℕ) → IsFit m → p < length m.properties
    → StaysTrueAfter m p k ↔ HasNoSolution m (step p k) []

-- and so with citations that fit the system
abbrev pub CitingStepsAreQueries : Type 0
CitingStepsAreQueries =
    (m : Machine) (p k : ℕ) (terms : List Formula) → IsFit m → p < length m.properties
    → all_fit_one m.shapes terms ≡ true → StaysTrueWith m terms p k ↔ HasNoSolution m (step p k) terms

-- ---- causes

-- of every sound book
abbrev pub OfEachBook : (Machine → Plan → List Posting → Type 0) → Type 0
OfEachBook P = (m : Machine) (plan : Plan) (history : List Posting) → IsFit m → AreSound m plan history → P m plan history

-- a cause that was not cut short is the plan's depth
abbrev pub WholeCausesAreDepths : Type 0
WholeCausesAreDepths =
    OfEachBook (λ m plan history. (engine p : ℕ) (why : Why) → cause_of engine p history ≡ Some why → ¬ IsCutShort why
    → why ≡ depth plan.depth)

-- where the cause of bounded search is a depth, the property breaks at no instant up to it
abbrev pub DepthOfBounded : Type 0
DepthOfBounded =
    OfEachBook (λ m plan history. (p d : ℕ) → cause_of 0 p history ≡ Some (depth d) → ¬ BreaksUpTo m p plan.depth)

-- where that of induction is a depth, the property is k-inductive for no k up to it
abbrev pub DepthOfStep : Type 0
DepthOfStep =
    OfEachBook (λ m plan history. (p d : ℕ) → cause_of 1 p history ≡ Some (depth d)
    → (k : ℕ) → k ≤ plan.depth → ¬ IsInductive m p k)

-- nor does it stay true after k states on which lemmas are true that stand below the front of its stuck entry
abbrev pub DepthWithLemmas : Type 0
DepthWithLemmas =
    OfEachBook (λ m plan history. (p d : ℕ) → cause_of 1 p history ≡ Some (depth d)
    → (front : ℕ) × IsStuckAt history p front
    × ((terms : List Formula) → AreLemmasBelow history front terms → (k : ℕ) → k ≤ plan.depth
    → ¬ StaysTrueWith m terms p k))

-- ---- verdicts

-- a property that breaks at an instant up to the depth is falsifiable, unless bounded search was cut short
abbrev pub BrokenAreFalsifiable : Type 0
BrokenAreFalsifiable =
    OfEachBook (λ m plan history. (p : ℕ) → HasWholeCause history 0 p → BreaksUpTo m p plan.depth
    → (place : ℕ) × (judged p history ≡ falsifiable_by place))

-- one that is k-inductive with k up to the depth is valid, unless induction was cut short
abbrev pub InductiveAreValid : Type 0
InductiveAreValid =
    OfEachBook (λ m plan history. (p : ℕ) → HasWholeCause history 1 p → (k : ℕ) → k ≤ plan.depth → IsInductive m p k
    → (place : ℕ) × (judged p history ≡ valid_by place))

-- one that is unknown does neither, unless the engine was cut short
pub record IsBeyond (m : Machine) (p depth : ℕ) : Type 0 where
  pub unbroken : ¬ BreaksUpTo m p depth
  pub not_inductive : (k : ℕ) → k ≤ depth → ¬ IsInductive m p k

abbrev pub UnknownAreBeyond : Type 0
UnknownAreBeyond =
    OfEachBook (λ m plan history. (p : ℕ) → judged p history ≡ unknown → HasWholeCause history 0 p
    → HasWholeCause history 1 p → IsBeyond m p plan.depth)

-- where a seat has posted the engine's cause for each property that the book leaves undecided, the book has it
abbrev pub PlayedHaveCauses : Type 0
PlayedHaveCauses =
    (history : List Posting) (seat engine count p : ℕ) → HasCauses history history seat (Some engine) count → p < count
    → judged p history ≡ unknown → (why : Why) × (cause_of engine p history ≡ Some why)

-- so it has the whole one, unless it was cut short
abbrev pub PlayedHaveWholeCauses : Type 0
PlayedHaveWholeCauses =
    (history : List Posting) (seat engine count p : ℕ) → HasCauses history history seat (Some engine) count → p < count
    → IsUncut history engine p → HasWholeCause history engine p

-- what the verdict says of a property where neither engine was cut short
pub record IsDecidedUpTo (m : Machine) (history : List Posting) (p depth : ℕ) : Type 0 where
  pub falsifiable : BreaksUpTo m p depth → (place : ℕ) × (judged p history ≡ falsifiable_by place)
  pub valid : (k : ℕ) → k ≤ depth → IsInductive m p k → (place : ℕ) × (judged p history ≡ valid_by place)
  pub beyond : judged p history ≡ unknown → IsBeyond m p depth

-- so it is of each property where two seats have posted the causes of bounded search and of induction
abbrev pub PlayedAreComplete : Type 0
PlayedAreComplete =
    OfEachBook (λ m plan history. (first second p : ℕ) → HasCauses history history first (Some 0) (length m.properties)
    → HasCauses history history second (Some 1) (length m.properties) → p < length m.properties
    → IsUncut history 0 p → IsUncut history 1 p → IsDecidedUpTo m history p plan.depth)
