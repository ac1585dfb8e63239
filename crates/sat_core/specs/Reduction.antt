-- What holds while literals are left out of a learnt clause, from the last decision to the first place.
use Rattle.std.specs.Prelude.{ℕ, ◌≡◌, ◌≢◌, ◌⊎◌, ◌<◌, List, Some, All, Contains, take, slice_get}
use Rattle.proof_steps.specs.declared.Literal.{Literal}
use Rattle.proof_steps.specs.Meaning.{at}
use Rattle.sat_core.specs.declared.assigned.Assigned.{Assigned}
use Rattle.sat_core.specs.Trail.{falses}
use Rattle.sat_core.specs.Analysis.{IsTraced, IsLow}

abbrev pub IsMarkedBut : List Literal → Literal → Literal → Type 0
IsMarkedBut marked but l = l ≢ but → Contains marked l

abbrev pub AreMarkedBut : List Literal → Literal → List Literal → Type 0
AreMarkedBut marked but clause = All (IsMarkedBut marked but) clause

-- the entry has a reason, whose other literals are marked
abbrev pub IsSpareAt : List (List Literal) → List Assigned → List Literal → ℕ → Type 0
IsSpareAt known trail marked i =
    (a : Assigned) → slice_get trail i ≡ Some a
    → (a.reason ≢ 0) × ((c : List Literal) → at known a.reason ≡ Some c → AreMarkedBut marked a.literal c)

-- down to place i the literals have what is needed of the marked ones: one that became false from
-- place n on, and others, the last of which became false just before place `low`
pub record IsReduced (known : List (List Literal)) (trail : List Assigned) (marked : List Literal) (n : ℕ) (last : Literal)
    (literals : List Literal) (low i : ℕ) (hints : List ℕ) : Type 0 where
  pub traced : IsTraced known trail marked literals i hints
  pub has_last : Contains literals last
  pub late : ¬ Contains (falses (take n trail)) last
  pub only : (l : Literal) → Contains literals l → (last ≡ l) ⊎ Contains (falses (take n trail)) l
  pub is_low : IsLow trail literals n low
  pub above : 0 < low → i < low
