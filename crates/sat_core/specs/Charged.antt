-- How many looks the visits of a literal's clauses may cost, how many they must, and which watched literals they leave.
use Rattle.std.specs.Prelude.{ℕ, ◌≡◌, ◌≢◌, ◌⊎◌, ◌+◌, ◌<◌, ◌≤◌, Bool, false, cond, List, [], ◌∷◌, Option, Some, None, count_by, drop, length, slice_get}
use Rattle.proof_steps.specs.declared.Literal.{Literal}
use Rattle.proof_steps.specs.Meaning.{at, opposite}
use Rattle.proof_checker.specs.Derived.{has}
use Rattle.sat_core.specs.declared.assigned.Assigned.{Assigned}
use Rattle.sat_core.specs.declared.visiting.Visit.{Visit}
use Rattle.sat_core.specs.declared.visiting.Visit.TheVariants.{Next, Failed}
use Rattle.sat_core.specs.declared.answer.Answer.{Answer}
use Rattle.sat_core.specs.declared.answer.Answer.TheVariants.{Full, Conflict, Empty}
use Rattle.sat_core.specs.Trail.{trues}
use Rattle.sat_core.specs.Looking.{moved, late, IsEarly, HaveRisen}
use Rattle.sat_core.specs.Watching.{Watching}

-- the literal is one of the two, neither of which is true
abbrev pub is_due : List Assigned → Literal → Option (Literal × Literal) → Bool
is_due trail f None = false
is_due trail f (Some p) = cond (has (trues trail) p.0) false (cond (has (trues trail) p.1) false (has (p.0 ∷ p.1 ∷ []) f))

-- how many clauses watch the literal and have no true watched literal
abbrev pub due : List Assigned → Watching → Literal → ℕ
due trail w f = count_by (is_due trail f) w.pairs

-- each look takes one from what is due; the one that finds a false clause may be owed
abbrev pub IsCharged : ℕ → ℕ → ℕ → ℕ → Visit → Type 0
IsCharged before after looks looks' (Next k) = (looks' + after ≤ looks + before) × (looks ≤ looks')
IsCharged before after looks looks' (Failed n) = (looks' ≤ looks + before) × (looks ≤ looks')

-- neither of the two became false before place n
abbrev pub IsClear : List Assigned → ℕ → Option (Option (Literal × Literal)) → Type 0
IsClear trail n q = (p : Literal × Literal) → q ≡ Some (Some p) → (l : Literal) → (p.0 ≡ l) ⊎ (p.1 ≡ l)
    → (i : ℕ) (a : Assigned) → i < n → slice_get trail i ≡ Some a → opposite a.literal ≢ l

-- each clause watches what it did, or neither before nor after what became false before place n
abbrev pub IsKept : List Assigned → ℕ → Watching → Watching → Type 0
IsKept trail n w w' = (m : ℕ) → (at w'.pairs m ≡ at w.pairs m) ⊎ (IsClear trail n (at w.pairs m) × IsClear trail n (at w'.pairs m))

-- a look for each literal that came late, seen from a trail before, for each clause that moved, and for so many false ones
pub record IsWorked (known : List (List Literal)) (before trail trail' : List Assigned) (w w' : Watching)
    (looks looks' failed : ℕ) : Type 0 where
  pub count : length w'.pairs ≡ length w.pairs
  pub at_least : (looks + late known before trail' + moved w.pairs w'.pairs + failed ≤ looks' + late known before trail)
      ⊎ (18446744073709551615 ≤ looks')

-- the look that found a false clause
abbrev pub failed_by : Visit → ℕ
failed_by (Next k) = 0
failed_by (Failed n) = 1

abbrev pub false_by : Option ℕ → ℕ
false_by None = 0
false_by (Some n) = 1

-- where a clause is false a look found it, or it was unit or false before
abbrev pub IsWorkedOut : List (List Literal) → List Assigned → List Assigned → List Assigned → Watching → Watching → ℕ → ℕ → Option ℕ
    → Type 0
IsWorkedOut known before trail trail' w w' looks looks' None = IsWorked known before trail trail' w w' looks looks' 0
IsWorkedOut known before trail trail' w w' looks looks' (Some n) =
    IsWorked known before trail trail' w w' looks looks' 1
    ⊎ (IsWorked known before trail trail' w w' looks looks' 0 × IsEarly known before n)

-- what an answer cost at least, by the trail and the watched literals before and after it
abbrev pub cost : List (List Literal) → List Assigned → List Assigned → List (Option (Literal × Literal))
    → List (Option (Literal × Literal)) → ℕ
cost known trail trail' pairs pairs' = late known trail (drop (length trail) trail') + moved pairs pairs'

abbrev pub HasCost : List (List Literal) → List Assigned → ℕ → ℕ → ℕ → ℕ → Type 0
HasCost known trail n by looks looks' = HaveRisen looks looks' (by + 1) ⊎ (HaveRisen looks looks' by × IsEarly known trail n)

abbrev pub AnswerCosts : List (List Literal) → List Assigned → ℕ → ℕ → ℕ → Answer → Type 0
AnswerCosts known trail by looks looks' Full = HaveRisen looks looks' by
AnswerCosts known trail by looks looks' (Conflict n) = HasCost known trail n by looks looks'
AnswerCosts known trail by looks looks' (Empty n) = HasCost known trail n by looks looks'
