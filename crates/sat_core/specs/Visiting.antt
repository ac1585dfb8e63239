-- What the visits of clauses find.
use Rattle.std.specs.Prelude.{ℕ, suc, ◌≡◌, ◌≢◌, ◌-◌, ◌<◌, Bool, true, false, List, length, Option, Some, None, All, Contains}
use Rattle.proof_steps.specs.declared.Literal.{Literal}
use Rattle.proof_steps.specs.Meaning.{at}
use Rattle.proof_checker.specs.Derived.{has}
use Rattle.sat_core.specs.declared.assigned.Assigned.{Assigned}
use Rattle.sat_core.specs.declared.short.Short.{Short}
use Rattle.sat_core.specs.declared.visiting.Visit.{Visit}
use Rattle.sat_core.specs.declared.visiting.Visit.TheVariants.{Next, Failed}
use Rattle.sat_core.specs.Trail.{falses, IsTrail}
use Rattle.sat_core.specs.Held.{Covers, IsWithin}
use Rattle.sat_core.specs.Shown.{Grows}
use Rattle.sat_core.specs.Propagation.{IsFalseAt}
use Rattle.sat_core.specs.Watching.{Watching, list_at, IsVisiting, IsWatched, HasTrue}

-- another literal, which is not false
abbrev pub CanStand : List Assigned → Literal → Literal → Bool → Type 0
CanStand trail l other true = (l ≢ other) × (has (falses trail) l ≡ false)
CanStand trail l other false = l ≢ other → has (falses trail) l ≡ true

abbrev pub IsReplacement : List Assigned → List Literal → Literal → Option Literal → Type 0
IsReplacement trail clause other (Some l) = Contains clause l × CanStand trail l other true
IsReplacement trail clause other None = All (λ m. CanStand trail m other false) clause

-- what propagation adds to a trail
pub record IsAdvance (known : List (List Literal)) (old new : List Assigned) : Type 0 where
  pub is_trail : IsTrail known new
  pub within : (variables : List Literal) → All (Covers variables) known → IsWithin variables old
      → IsWithin variables new
  pub grows : Grows old new

-- after the visit of entry j the next one is k, and fewer are left; or a clause is false
abbrev pub IsVisit : List (List Literal) → List Assigned → Watching → Watching → ℕ → Literal → ℕ → Visit → Type 0
IsVisit known new w w' head f j (Next k) =
    IsVisiting known new w' head f k × (length (list_at w' f) - k < length (list_at w f) - j)
IsVisit known new w w' head f j (Failed n) = IsFalseAt known new n × IsWatched known new w' head

abbrev pub IsVisitedAll : List (List Literal) → List Assigned → Watching → ℕ → Option ℕ → Type 0
IsVisitedAll known new w head None = IsWatched known new w (suc head)
IsVisitedAll known new w head (Some n) = IsFalseAt known new n × IsWatched known new w head

abbrev pub IsGoneThrough : List (List Literal) → List Assigned → ℕ → Option ℕ → Type 0
IsGoneThrough known new head None = head ≡ length new
IsGoneThrough known new head (Some n) = IsFalseAt known new n

-- the numbered clause has a true literal, or is false
abbrev pub IsImpliedShort : List (List Literal) → List Assigned → ℕ → Bool → Type 0
IsImpliedShort known trail n true = (c : List Literal) → at known n ≡ Some c → HasTrue trail c
IsImpliedShort known trail n false = IsFalseAt known trail n

-- the clauses that watch nothing have true literals
abbrev pub HoldShorts : List (List Literal) → List Assigned → Watching → Type 0
HoldShorts known trail w = All (λ (s : Short). IsImpliedShort known trail s.number true) w.shorts

abbrev pub AreShortsImplied : List (List Literal) → List Assigned → Watching → Option ℕ → Type 0
AreShortsImplied known trail w None = HoldShorts known trail w
AreShortsImplied known trail w (Some n) = IsFalseAt known trail n
