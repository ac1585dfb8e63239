-- An engine as clauses see it.
use Rattle.std.specs.Prelude.{ℕ, ◌≡◌, ◌-◌, ◌+◌, Bool, List, [], Option, Some, None, is_none}
use Rattle.std.specs.declared.snapshot.Snapshot.{Snapshot}
use Rattle.sys_terms.specs.View.{Machine, system_view}
use Rattle.board_core.specs.declared.plan.Plan.{Plan}
use Rattle.board_core.specs.declared.book.Book.{Book}
use Rattle.board_core.specs.Entries.{Posting}
use Rattle.board_core.specs.Books.{history_of}
use Rattle.kind_engine.specs.declared.subject.Subject.{Subject}
use Rattle.kind_engine.specs.declared.task.Search.{Search}
use Rattle.kind_engine.specs.Ready.{IsReady}
use Rattle.kind_engine.specs.Tasks.{IsSearch}

-- what it works on, how far it is, and the book that it knows
abbrev pub Worker : Type 0
Worker = Subject × Option Search × Option (Snapshot Book)

abbrev pub worker_machine : Worker → Machine
worker_machine w = system_view w.0.system

abbrev pub worker_plan : Worker → Plan
worker_plan w = w.0.plan

-- the entries of the book that it knows; none where it knows no book
abbrev pub known_in : Option (Snapshot Book) → List Posting
known_in None = []
known_in (Some s) = history_of s.value

abbrev pub worker_known : Worker → List Posting
worker_known w = known_in w.2

-- how many turns are left at most
abbrev pub turns_of : Plan → Option Search → ℕ
turns_of plan None = 0
turns_of plan (Some s) = (plan.depth + 2) - s.turn

abbrev pub worker_steps : Worker → ℕ
worker_steps w = turns_of (worker_plan w) w.1

-- whether want of memory ended it, so that it does not search any more
abbrev pub is_over : Worker → Bool
is_over w = is_none w.1

-- the front of the lemmas that it has taken up; 0 where it does not search
abbrev pub front_in : Option Search → ℕ
front_in None = 0
front_in (Some s) = s.lemmas.front

abbrev pub worker_front : Worker → ℕ
worker_front w = front_in w.1

abbrev pub IsSearchIf : Machine → Plan → List Posting → ℕ → Option Search → Type 0
IsSearchIf m plan known engine None = Unit
IsSearchIf m plan known engine (Some s) = IsSearch m plan known engine s

-- the engine of this number; after want of memory it does not search any more
pub record IsWorker (engine : ℕ) (w : Worker) : Type 0 where
  pub number : w.0.engine ≡ engine
  pub ready : IsReady (worker_machine w) (worker_plan w)
  pub search : IsSearchIf (worker_machine w) (worker_plan w) (worker_known w) engine w.1
