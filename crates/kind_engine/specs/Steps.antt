-- What induction finds of a property.
use Rattle.std.specs.Prelude.{ℕ, ◌≡◌, ◌<◌, ◌≤◌, List, length}
use Rattle.sys_terms.specs.declared.term.Entry.{Entry as Cell}
use Rattle.sys_terms.specs.View.{Formula, Machine, obligation_view, states_view}
use Rattle.sys_terms.specs.Paths.{IsLoosePath, IsFalseAtLastAlone}
use Rattle.sys_terms.specs.Queries.{property_term}
use Rattle.cert_rules.specs.View.{proofs_view}
use Rattle.cert_rules.specs.Facts.{AreBases}
use Rattle.board_core.specs.declared.plan.Plan.{Plan}
use Rattle.board_core.specs.Entries.{IsBroken}
use Rattle.board_core.specs.View.{cause_view}
use Rattle.kind_engine.specs.Looks.{IsOpen}
use Rattle.kind_engine.specs.declared.grounds.Ground.{Ground}
use Rattle.kind_engine.specs.declared.grounds.Ground.TheVariants as g

-- with these lemmas, all instants below k are refuted, by a proof each; a path breaks the property; or one of
-- the instants is left open, and those before it are refuted
abbrev pub IsGround : Machine → Plan → (p k : ℕ) → List Formula → Ground → Type 0
IsGround m plan p k cites (g.Refuted proofs) =
    (length (proofs_view proofs.items) ≡ k) × AreBases m p cites 0 (proofs_view proofs.items)
IsGround m plan p k cites (g.Broken path) = IsBroken m p (states_view path.items)
IsGround m plan p k cites (g.Open i proofs o) =
    (i < k) × (length (proofs_view proofs.items) ≡ i) × AreBases m p cites 0 (proofs_view proofs.items)
    × IsOpen m plan p i cites (obligation_view o.what) (proofs_view o.proofs.items) (cause_view o.cause)

-- k states joined by steps, the property false at the last one alone
pub record IsRun (m : Machine) (p k : ℕ) (states : List (List Cell)) : Type 0 where
  pub count : length states ≡ k
  pub loose : IsLoosePath m states
  pub alone : IsFalseAtLastAlone (property_term m p) states

-- the step by k states is to be asked: k is within the depth, and where it is above 1 the step by one
-- state less has this run
pub record IsAtStep (m : Machine) (plan : Plan) (k p : ℕ) (states : List (List Cell)) : Type 0 where
  pub some : 1 ≤ k
  pub within : k ≤ plan.depth
  pub run : 1 < k → IsRun m p k states
