-- Properties that break, or that induction proves, up to a depth; and which causes say that an engine went there.
use Rattle.std.specs.Prelude.{ℕ, suc, ◌≡◌, ◌≤◌, ◌<◌, true, List, length, All, Some, slice_get}
use Rattle.sys_terms.specs.declared.term.Entry.{Entry}
use Rattle.sys_terms.specs.View.{Formula, Machine, Task}
use Rattle.sys_terms.specs.Meaning.{values_of}
use Rattle.sys_terms.specs.Fits.{state_fits}
use Rattle.sys_terms.specs.Paths.{AreTrue, IsLoosePath, IsPath, IsFalseAtLastAlone, IsFalseAtLast, Breaks}
use Rattle.sys_terms.specs.Queries.{property_term, query_of, Meets}
use Rattle.cert_rules.specs.Facts.{IsLemmaOf}
use Rattle.board_core.specs.Entries.{Why, depth, frames, blocked, done, stopped, wide, stuck, Posting, facts_in}
use Rattle.board_core.specs.Verdicts.{unknown, judged, cause_of}

-- ---- breaks

-- the property breaks at an instant up to this one: a path of at most so many states and one ends with it false
pub record BreaksUpTo (m : Machine) (p instant : ℕ) : Type 0 where
  pub states : List (List Entry)
  pub path : IsPath m states
  pub short : length states ≤ suc instant
  pub ends_false : IsFalseAtLast (property_term m p) states

-- a counterexample of at most so many states and one: the property is false at the last one alone
pub record HasCounterexample (m : Machine) (p instant : ℕ) : Type 0 where
  pub states : List (List Entry)
  pub breaks : Breaks m p states
  pub count : length states ≤ suc instant

-- ---- induction

-- no loose path of k + 1 states has the property false at the last one alone
abbrev pub StaysTrueAfter : Machine → (p k : ℕ) → Type 0
StaysTrueAfter m p k =
    (states : List (List Entry)) → IsLoosePath m states → length states ≡ suc k
    → ¬ IsFalseAtLastAlone (property_term m p) states

-- so it is of those on which besides the terms are true throughout
abbrev pub StaysTrueWith : Machine → List Formula → (p k : ℕ) → Type 0
StaysTrueWith m terms p k =
    (states : List (List Entry)) → IsLoosePath m states → All (AreTrue terms) states → length states ≡ suc k
    → ¬ IsFalseAtLastAlone (property_term m p) states

-- no path of at most k states ends with the property false
abbrev pub IsTrueBefore : Machine → (p k : ℕ) → Type 0
IsTrueBefore m p k =
    (states : List (List Entry)) → IsPath m states → length states ≤ k → ¬ IsFalseAtLast (property_term m p) states

-- the property is k-inductive
pub record IsInductive (m : Machine) (p k : ℕ) : Type 0 where
  pub some_state : 1 ≤ k
  pub step : StaysTrueAfter m p k
  pub base : IsTrueBefore m p k

-- no values solve the obligation's query
abbrev pub HasNoSolution : Machine → Task → List Formula → Type 0
HasNoSolution m task cites =
    (values : List Entry) → state_fits (query_of m task cites).shapes values ≡ true
    → ¬ Meets (values_of values) (query_of m task cites).conditions

-- ---- causes

-- a query of it stopped, by conflicts, splits, pivots or a number past 128 bits, or all breaks found need a number of
-- size 2^63 or more
abbrev pub IsCutShort : Why → Type 0
IsCutShort (depth d) = ⊥
IsCutShort (frames n) = ⊥
IsCutShort (blocked n) = ⊥
IsCutShort (done n) = ⊥
IsCutShort (stopped halt) = Unit
IsCutShort (wide path variable instant value) = Unit

-- where the book leaves the property undecided, its cause of the engine for it was not cut short
abbrev pub IsUncut : List Posting → (engine p : ℕ) → Type 0
IsUncut history engine p =
    judged p history ≡ unknown → (why : Why) → cause_of engine p history ≡ Some why → ¬ IsCutShort why

-- there it has the engine's cause for it, one that was not cut short
abbrev pub HasWholeCause : List Posting → (engine p : ℕ) → Type 0
HasWholeCause history engine p =
    judged p history ≡ unknown → (why : Why) × (cause_of engine p history ≡ Some why) × (¬ IsCutShort why)

-- ---- lemmas

-- the term of a lemma entry at a place below the front
abbrev pub IsLemmaBelow : List Posting → (front : ℕ) → Formula → Type 0
IsLemmaBelow history front f = (n : ℕ) × (n < front) × IsLemmaOf f (slice_get (facts_in history) n)

abbrev pub AreLemmasBelow : List Posting → (front : ℕ) → List Formula → Type 0
AreLemmasBelow history front terms = All (IsLemmaBelow history front) terms

-- the book has a stuck entry of the property with this front
pub record IsStuckAt (history : List Posting) (p front : ℕ) : Type 0 where
  pub place : ℕ
  pub item : Posting
  pub path : List (List Entry)
  pub is_item : slice_get history place ≡ Some item
  pub says : item.says ≡ stuck p path front
