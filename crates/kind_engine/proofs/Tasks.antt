-- Tasks of properties.
use Rattle.std.specs.Prelude.{ℕ, zero, suc, ◌≡◌, ◌+◌, ◌<◌, ◌≤◌, List, [], ◌∷◌, ◌++◌, length, slice_index_or, refl}
use Rattle.std.proofs.Common.{sym, subst, arith}
use Rattle.std.specs.declared.vec.Vec.{Vec}
use Rattle.std.specs.declared.alloc.Global.{Global}
use Rattle.proof_steps.specs.declared.Proof.{Proof}
use Rattle.cert_rules.specs.View.{cites_view, proofs_view}
use Rattle.sys_terms.specs.View.{Machine}
use Rattle.sys_terms.specs.declared.term.State.{State}
use Rattle.board_core.specs.declared.plan.Plan.{Plan}
use Rattle.board_core.specs.Entries.{Posting}
use Rattle.board_core.specs.Seats.{Begins}
use Rattle.kind_engine.specs.declared.task.Task.{Task}
use Rattle.kind_engine.specs.declared.task.Task.TheVariants as t
use Rattle.kind_engine.specs.declared.task.Search.{Search}
use Rattle.kind_engine.specs.Tasks.{IsTask, IsRefutedBelow, AreTasks, IsSearch}
use Rattle.board_core.specs.Entries.{spent}
use Rattle.board_core.specs.View.{cause_view}
use Rattle.kind_engine.specs.Halts.{halted_grounds}
use Rattle.kind_engine.proofs.Citing.{lemmas-later}
use Rattle.kind_engine.proofs.Histories.{decides-later, true-later, depth-later}

module _ (m : Machine) (plan : Plan) where
  pub task-later : (known all : List Posting) (engine i p : ℕ) (task : Task) → Begins known all
      → IsTask m plan known engine i p task → IsTask m plan all engine i p task
  task-later known all engine i p (t.Refuted proofs) b h = h
  task-later known all engine i p (t.Run run) b h = h
  task-later known all engine i p (t.Halted halted) b h =
      (true-later m plan known all (spent engine p (cause_view halted.cause) (halted_grounds halted)) b h.0, h.1)
  task-later known all engine i p t.Ended b h = (h.0, depth-later known all engine p plan.depth b h.1)
  task-later known all engine i p t.Decided b h = decides-later p known all b h

  pub tasks-later : (known all : List Posting) (engine i p : ℕ) (tasks : List Task) → Begins known all
      → AreTasks m plan known engine i p tasks → AreTasks m plan all engine i p tasks
  tasks-later known all engine i p [] b h = tt
  tasks-later known all engine i p (task ∷ tasks) b h =
      (task-later known all engine i p task b h.0, tasks-later known all engine i (suc p) tasks b h.1)

  pub search-later : (known all : List Posting) (engine : ℕ) (search : Search) → Begins known all
      → IsSearch m plan known engine search → IsSearch m plan all engine search
  search-later known all engine search b h = record {
    within = h.within;
    count = h.count;
    lemmas = lemmas-later m known all search.lemmas.front (cites_view search.lemmas.cites.items) b h.lemmas;
    each = tasks-later known all engine search.turn 0 search.tasks.items b h.each;
  }

  same-property : (known : List Posting) (engine i p q : ℕ) (task : Task) → p ≡ q
      → IsTask m plan known engine i p task → IsTask m plan known engine i q task
  same-property known engine i p q task e h = subst (λ n. IsTask m plan known engine i n task) e h

  -- one property more
  tasks-push : (known : List Posting) (engine i p : ℕ) (tasks : List Task) (task : Task)
      → AreTasks m plan known engine i p tasks
      → IsTask m plan known engine i (p + length tasks) task → AreTasks m plan known engine i p (tasks ++ task ∷ [])
  tasks-push known engine i p [] task h k = (same-property known engine i (p + 0) p task (omega arith) k, tt)
  tasks-push known engine i p (x ∷ tasks) task h k = (
    h.0,
    tasks-push known engine i (suc p) tasks task h.1
        (same-property known engine i (p + suc (length tasks)) (suc p + length tasks) task (omega arith) k),
  )

  -- the same of all properties
  pub all-push : (known : List Posting) (engine i : ℕ) (tasks : List Task) (task : Task)
      → AreTasks m plan known engine i 0 tasks
      → IsTask m plan known engine i (length tasks) task → AreTasks m plan known engine i 0 (tasks ++ task ∷ [])
  all-push known engine i tasks task h k =
      tasks-push known engine i 0 tasks task h
      (same-property known engine i (length tasks) (0 + length tasks) task (omega arith) k)

  -- that of one property
  task-at : (known : List Posting) (engine i p : ℕ) (tasks : List Task) (n : ℕ) (d : Task) → n < length tasks
      → AreTasks m plan known engine i p tasks → IsTask m plan known engine i (p + n) (slice_index_or tasks n d)
  task-at known engine i p [] n d l h = absurd (omega arith)
  task-at known engine i p (x ∷ tasks) zero d l h = same-property known engine i p (p + 0) x (omega arith) h.0
  task-at known engine i p (x ∷ tasks) (suc n) d l h =
      same-property known engine i (suc p + n) (p + suc n) (slice_index_or tasks n d) (omega arith)
      (task-at known engine i (suc p) tasks n d (omega arith) h.1)

  pub task-of : (known : List Posting) (engine i : ℕ) (tasks : List Task) (n : ℕ) (d : Task) → n < length tasks
      → AreTasks m plan known engine i 0 tasks → IsTask m plan known engine i n (slice_index_or tasks n d)
  task-of known engine i tasks n d l h =
      same-property known engine i (0 + n) n (slice_index_or tasks n d) (omega arith)
      (task-at known engine i 0 tasks n d l h)

  -- before turn 0 none is refuted
  pub none-refuted : (known : List Posting) (p : ℕ) (v : Vec Proof Global) → v.items ≡ []
      → IsTask m plan known 0 0 p (t.Refuted v)
  none-refuted known p v e =
      (refl, subst (λ l. IsRefutedBelow m plan 0 p (proofs_view l)) (sym e) (record { within = omega arith; count = refl; refuted = tt }))

  -- before turn 1 each is at the step by one state
  pub none-run : (known : List Posting) (p : ℕ) (v : Vec State Global) → 1 ≤ plan.depth
      → IsTask m plan known 1 1 p (t.Run v)
  none-run known p v d = (refl, record { some = omega arith; within = d; run = λ l. absurd (omega arith) })
