-- Clauses that imply a literal which isn't on the trail yet.
use Rattle.std.specs.Prelude.{ℕ, ◌≡◌, ◌≢◌, ◌⊎◌, ◌+◌, ◌<◌, ◌≤◌, Bool, true, false, List, Option, Some, None, Contains, length, take, slice_get}
use Rattle.proof_steps.specs.declared.Literal.{Literal}
use Rattle.proof_steps.specs.Meaning.{at, opposite}
use Rattle.sat_core.specs.declared.assigned.Assigned.{Assigned}
use Rattle.sat_core.specs.Trail.{falses}
use Rattle.sat_core.specs.Propagation.{IsFalseAt}
use Rattle.sat_core.specs.Analysis.{IsLast, IsOneOf}
use Rattle.sat_core.specs.Watching.{Watching, IsWatching, IsOther, IsGuarded, IsWatched}

-- the clause of that reason watches the literal and another one; all its other literals are false, and
-- no decision stands after what made one of the two false
pub record IsWaiting (known : List (List Literal)) (trail : List Assigned) (w : Watching) (entry : Assigned) : Type 0 where
  pub clause : List Literal
  pub is_clause : at known entry.reason ≡ Some clause
  pub in_clause : Contains clause entry.literal
  pub pair : Literal × Literal
  pub is_pair : at w.pairs entry.reason ≡ Some (Some pair)
  pub own : (pair.0 ≡ entry.literal) ⊎ (pair.1 ≡ entry.literal)
  pub others : (m : Literal) → Contains clause m → m ≢ entry.literal → Contains (falses trail) m
  pub undecided : (l : Literal) → (pair.0 ≡ l) ⊎ (pair.1 ≡ l) → (i : ℕ) (b : Assigned) → slice_get trail i ≡ Some b
      → opposite b.literal ≡ l → (k : ℕ) (d : Assigned) → i < k → slice_get trail k ≡ Some d → d.reason ≢ 0

-- the numbered clause waits at place k or later
abbrev pub WaitsFrom : List Assigned → ℕ → ℕ → Type 0
WaitsFrom waiting k n = (j : ℕ) × (a : Assigned) × (k ≤ j) × (slice_get waiting j ≡ Some a) × (a.reason ≡ n)

-- the lists of what became false before place `head` were gone over, but for the clauses that wait at
-- place k or later; decisions stand no later
pub record IsWatchedBut (known : List (List Literal)) (trail : List Assigned) (w : Watching) (head : ℕ) (waiting : List Assigned)
    (k : ℕ) : Type 0 where
  pub watching : IsWatching known w
  pub within : head ≤ length trail
  pub late : (i : ℕ) (a : Assigned) → head < i → slice_get trail i ≡ Some a → a.reason ≢ 0
  pub guarded : (n : ℕ) (l other : Literal) → IsOther w n l (Some other) → WaitsFrom waiting k n ⊎ IsGuarded trail other l head
  pub waits : (j : ℕ) (a : Assigned) → slice_get waiting j ≡ Some a → IsWaiting known trail w a

-- what a search keeps between its calls: all lists were gone over but for the clauses that wait, unless a clause
-- is known to be false
pub record IsReady (known : List (List Literal)) (trail : List Assigned) (w : Watching) (head : ℕ) (waiting : List Assigned)
    (stuck : Option ℕ) : Type 0 where
  pub watched : IsWatchedBut known trail w head waiting 0
  pub gone : stuck ≡ None → head ≡ length trail
  pub is_false : (n : ℕ) → stuck ≡ Some n → IsFalseAt known trail n

-- the last decision's place, or the start
abbrev pub IsLastHead : List Assigned → ℕ → Type 0
IsLastHead trail h = IsLast trail (Some h) ⊎ (IsLast trail None × (h ≡ 0))

-- the waiting literal came to be true, or its clause is false
abbrev pub IsWaited : List (List Literal) → List Assigned → Watching → ℕ → List Assigned → ℕ → Assigned → Bool → Type 0
IsWaited known trail w head waiting k a true = IsWatchedBut known trail w head waiting (k + 1)
IsWaited known trail w head waiting k a false = IsFalseAt known trail a.reason × IsWatchedBut known trail w head waiting k

abbrev pub AreWaited : List (List Literal) → List Assigned → Watching → ℕ → List Assigned → Option ℕ → Type 0
AreWaited known trail w head waiting None = IsWatched known trail w head
AreWaited known trail w head waiting (Some n) = IsFalseAt known trail n × ((k : ℕ) × IsWatchedBut known trail w head waiting k)

-- but for the first of the two, the clause's literals became false before place `low`
abbrev pub IsRest : List Assigned → ℕ → List Literal → Option (Literal × Literal) → Type 0
IsRest trail low clause None = Unit {0}
IsRest trail low clause (Some p) = (m : Literal) → Contains clause m → m ≢ p.0 → Contains (falses (take low trail)) m

-- neither of the two is false
abbrev pub IsUnfalse : List Assigned → Option (Literal × Literal) → Type 0
IsUnfalse trail watched = (i : ℕ) (a : Assigned) → slice_get trail i ≡ Some a → (l : Literal) → IsOneOf watched l → opposite a.literal ≢ l

-- a clause of two watched literals waits for the first of them
abbrev pub waiting_entry : Option (Literal × Literal) → Bool → ℕ → Option Assigned
waiting_entry None waits n = None
waiting_entry (Some p) false n = None
waiting_entry (Some p) true n = Some record { literal = p.0; reason = n }
