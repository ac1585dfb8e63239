-- How far an engine is with each property.
use Rattle.std.specs.Prelude.{ℕ, suc, ◌≡◌, ◌≤◌, ◌<◌, List, [], ◌∷◌, length}
use Rattle.proof_steps.specs.View.{Refutation}
use Rattle.sys_terms.specs.View.{Machine, states_view}
use Rattle.cert_rules.specs.View.{cites_view, proofs_view}
use Rattle.cert_rules.specs.Facts.{AreBases}
use Rattle.board_core.specs.declared.plan.Plan.{Plan}
use Rattle.board_core.specs.Entries.{Posting, IsTrueAfter, IsDepth, spent}
use Rattle.board_core.specs.View.{cause_view}
use Rattle.board_core.specs.Seats.{Decides}
use Rattle.kind_engine.specs.Lemmas.{AreLemmas}
use Rattle.kind_engine.specs.Steps.{IsAtStep}
use Rattle.kind_engine.specs.Halts.{halted_grounds}
use Rattle.kind_engine.specs.Posts.{NamesFirstWide}
use Rattle.kind_engine.specs.declared.task.Task.{Task}
use Rattle.kind_engine.specs.declared.task.Task.TheVariants as t
use Rattle.kind_engine.specs.declared.task.Search.{Search}

-- the instants before this one, which is within the depth, are refuted without lemmas, by a proof each
pub record IsRefutedBelow (m : Machine) (plan : Plan) (i p : ℕ) (proofs : List Refutation) : Type 0 where
  pub within : i ≤ plan.depth
  pub count : length proofs ≡ i
  pub refuted : AreBases m p [] 0 proofs

-- before turn i of the engine: it is at the property; or it halted, and its cause may be posted, which names the first
-- large value where it names one; or the history shows that it went to its depth; or it holds or breaks the property
abbrev pub IsTask : Machine → Plan → List Posting → (engine i p : ℕ) → Task → Type 0
IsTask m plan known engine i p (t.Refuted proofs) =
    (engine ≡ 0) × IsRefutedBelow m plan i p (proofs_view proofs.items)
IsTask m plan known engine i p (t.Run run) = (engine ≡ 1) × IsAtStep m plan i p (states_view run.items)
IsTask m plan known engine i p (t.Halted h) =
    IsTrueAfter m plan known (spent engine p (cause_view h.cause) (halted_grounds h)) × NamesFirstWide (cause_view h.cause)
IsTask m plan known engine i p t.Ended = (p < length m.properties) × IsDepth known engine p plan.depth
IsTask m plan known engine i p t.Decided = Decides known p

-- the tasks of the properties from p on
abbrev pub AreTasks : Machine → Plan → List Posting → (engine i p : ℕ) → List Task → Type 0
AreTasks m plan known engine i p [] = Unit
AreTasks m plan known engine i p (t ∷ ts) =
    IsTask m plan known engine i p t × AreTasks m plan known engine i (suc p) ts

-- a task for each property; a turn within the depth, or the one behind it
pub record IsSearch (m : Machine) (plan : Plan) (known : List Posting) (engine : ℕ) (search : Search) : Type 0 where
  pub within : search.turn ≤ suc plan.depth
  pub count : length search.tasks.items ≡ length m.properties
  pub lemmas : AreLemmas m known search.lemmas.front (cites_view search.lemmas.cites.items)
  pub each : AreTasks m plan known engine search.turn 0 search.tasks.items
