-- Up to where an added clause is settled, and which of its literals it watches.
use Rattle.std.specs.Prelude.{ℕ, ◌≡◌, ◌<◌, ◌≤◌, Bool, true, false, List, Option, Some, None, All, Contains, length, take}
use Rattle.proof_steps.specs.declared.Literal.{Literal}
use Rattle.proof_checker.specs.Derived.{has}
use Rattle.sat_core.specs.declared.assigned.Assigned.{Assigned}
use Rattle.sat_core.specs.Trail.{falses, IsSettled}
use Rattle.sat_core.specs.Watching.{CanWatch}
use Rattle.sat_core.specs.Analysis.{IsUnseen}
use Rattle.sat_core.specs.Waiting.{IsRest, IsUnfalse}

abbrev pub IsFirstOpen : List Assigned → List Literal → Option Literal → Type 0
IsFirstOpen trail clause None = All (λ l. has (falses trail) l ≡ true) clause
IsFirstOpen trail clause (Some l) = Contains clause l × (has (falses trail) l ≡ false)

-- before place `low` the clause is settled; what of the two watched ones became false did so just
-- before it, or later; it waits where all but the first of the two became false before it
pub record IsPlaced (trail : List Assigned) (clause : List Literal) (watched : Option (Literal × Literal)) (low : ℕ) (waits : Bool) : Type 0 where
  pub within : low ≤ length trail
  pub can_watch : CanWatch clause watched
  pub settled : (i : ℕ) → i < low → IsSettled (take i trail) clause
  pub unseen : IsUnseen trail low watched
  pub rest : waits ≡ true → IsRest trail low clause watched
  pub unfalse : waits ≡ false → IsUnfalse trail watched
