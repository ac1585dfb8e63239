-- Which causes never come in a book over the system of a program without integers.
use Rattle.std.specs.Prelude.{ℕ, ◌≡◌, ◌≢◌, ◌<◌, ◌^◌, true, List, length, Some, Ok, slice_get}
use lib.IntN.{ℤ}
use Rattle.proof_steps.specs.declared.Literal.{Literal}
use Rattle.proof_steps.specs.StopView.{Halt, conflicts, splits, pivots, past}
use Rattle.proof_steps.specs.Rows.{Form}
use Rattle.sys_terms.specs.Boolean.{is_boolean}
use Rattle.sys_terms.specs.View.{Formula, Machine, Task}
use Rattle.sys_terms.specs.Queries.{query_of}
use Rattle.sys_meaning.specs.System.{system_of}
use Rattle.cnf_maker.specs.ClauseForm.{clause_form}
use Rattle.path_laws.specs.Laws.{OfEachInstance}
use Rattle.cert_rules.specs.Facts.{IsLemmaOf}
use Rattle.board_core.specs.declared.plan.Plan.{Plan}
use Rattle.board_core.specs.Entries.{Why, depth, frames, blocked, done, stopped, wide, Posting, facts_in, AreSound}
use Rattle.board_core.specs.Verdicts.{cause_of}
use Rattle.boolean_laws.specs.Integers.{HasNoIntegers}

-- the lemmas of a book compare no numbers
abbrev pub LemmasAreBoolean : List Posting → Type 0
LemmasAreBoolean history = (n : ℕ) (f : Formula) → IsLemmaOf f (slice_get (facts_in history) n) → is_boolean f ≡ true

-- what is so of each sound book over the system of a declaration without integers
abbrev pub OfEachBook : (Machine → Plan → List Posting → Type 0) → Type 0
OfEachBook P =
    OfEachInstance (λ i. HasNoIntegers i → (plan : Plan) (history : List Posting) → AreSound (system_of i) plan history
    → LemmasAreBoolean history → P (system_of i) plan history)

-- a stop that numbers alone bring about
abbrev pub IsOfNumbers : Halt → Type 0
IsOfNumbers (conflicts clauses pairs) = ⊥
IsOfNumbers (splits pairs) = Unit
IsOfNumbers (pivots start pairs) = Unit
IsOfNumbers (past step pairs) = Unit

-- such a stop, or that all breaks found need a number of size 2^63 or more
abbrev pub NeedsNumbers : Why → Type 0
NeedsNumbers (depth d) = ⊥
NeedsNumbers (frames n) = ⊥
NeedsNumbers (blocked n) = ⊥
NeedsNumbers (done n) = ⊥
NeedsNumbers (stopped halt) = IsOfNumbers halt
NeedsNumbers (wide path variable instant value) = Unit

-- no cause is splits, pivots, past or wide; a plan has a budget of one split at least
abbrev pub CausesNeedNoNumbers : Type 0
CausesNeedNoNumbers =
    OfEachBook (λ m plan history. plan.budgets.splits ≢ 0 → (engine p : ℕ) (why : Why) → cause_of engine p history ≡ Some why
    → ¬ NeedsNumbers why)

-- a query whose variables are so many that the budget of conflicts is below 3 to their number
pub record HasLargeQuery (m : Machine) (budget : ℕ) : Type 0 where
  pub task : Task
  pub cites : List Formula
  pub form : Form
  pub is_form : clause_form (query_of m task cites) ≡ Ok form
  pub large : budget < 3 ^ length form.shapes

-- conflicts is a cause only where the budget is so small for some query
abbrev pub ConflictsNeedLargeQueries : Type 0
ConflictsNeedLargeQueries =
    OfEachBook (λ m plan history. (engine p : ℕ) (clauses : List (List Literal)) (pairs : List (ℕ × ℤ))
    → cause_of engine p history ≡ Some (stopped (conflicts clauses pairs)) → HasLargeQuery m plan.budgets.conflicts)
