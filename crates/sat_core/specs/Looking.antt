-- How often clauses are looked at.
use Rattle.std.specs.Prelude.{ℕ, ◌≡◌, ◌≢◌, ◌⊎◌, ◌+◌, ◌<◌, ◌≤◌, Bool, true, false, cond, List, [], ◌∷◌, ◌++◌, Option, Some, None, Contains, length, drop, take, count_by, sum_by}
use Rattle.proof_steps.specs.declared.Literal.{Literal}
use Rattle.proof_steps.specs.View.{derived}
use Rattle.proof_steps.specs.Meaning.{at, opposite}
use Rattle.proof_checker.specs.Derived.{has, same}
use Rattle.sat_core.specs.declared.assigned.Assigned.{Assigned}
use Rattle.sat_core.specs.Store.{IsLooked}
use Rattle.sat_core.specs.Trail.{falses, IsFalse}
use Rattle.sat_core.specs.Shown.{Shown, SomeFalse}

-- how many clauses hold the literal
abbrev pub holders : List (List Literal) → Literal → ℕ
holders known l = count_by (λ c. has c l) known

-- the sum, over the literals that the entries made false, of how many clauses hold the literal
abbrev pub weight : List (List Literal) → List Assigned → ℕ
weight known trail = sum_by (λ (a : Assigned). holders known (opposite a.literal)) trail

-- the looks rise by at most that sum over what became false; the entries before are those of the last
-- answer that were not cut off since, as nothing else makes the trail longer
pub record LooksAtHolders (old new : Shown) : Type 0 where
  pub grows : old.looks ≤ new.looks
  pub at_most : new.looks ≤ old.looks + weight old.known (drop (length old.trail) new.trail)

-- what the first entries weigh
abbrev pub spent : List (List Literal) → List Assigned → ℕ → ℕ
spent known trail n = weight known (take n trail)

-- what is learnt costs a look at each clause that its hints name, and no more than one besides for each of
-- its literals but one, whose reason had another literal; at the last number of 64 bits no more are counted
pub record LooksAtHints (old new : Shown) : Type 0 where
  pub clause : List Literal
  pub hints : List ℕ
  pub steps : new.log ≡ old.log ++ derived clause hints ∷ []
  pub at_least : (old.looks + length hints ≤ new.looks) ⊎ (18446744073709551615 ≤ new.looks)
  pub at_most : new.looks < old.looks + length hints + length clause

-- the looks rose by at least the hints that came, or to the last number of 64 bits, and by at most the
-- hints and literals that came
pub record IsPinned (looks looks' hints hints' literals literals' : ℕ) : Type 0 where
  pub at_least : (looks + hints' ≤ looks' + hints) ⊎ (18446744073709551615 ≤ looks')
  pub at_most : looks' + hints + literals ≤ looks + hints' + literals'
  pub grows : looks ≤ looks'

-- one look where the answer is yes, and at most one where it is no
abbrev pub IsLookedFor : Bool → ℕ → ℕ → Type 0
IsLookedFor true old new = IsLooked old new
IsLookedFor false old new = IsLooked old new ⊎ (new ≡ old)

-- whether two clauses' watched literals are the same, in the same order
abbrev pub same_pair : Option (Literal × Literal) → Option (Literal × Literal) → Bool
same_pair None None = true
same_pair None (Some q) = false
same_pair (Some p) None = false
same_pair (Some p) (Some q) = cond (same p.0 q.0) (same p.1 q.1) false

-- how many of the clauses before watch other literals now
abbrev pub moved : List (Option (Literal × Literal)) → List (Option (Literal × Literal)) → ℕ
moved [] new = 0
moved (p ∷ old) [] = 0
moved (p ∷ old) (q ∷ new) = cond (same_pair p q) 0 1 + moved old new

-- whether a clause has a literal beside this one that is not false
abbrev pub has_open_beside : List Assigned → Literal → List Literal → Bool
has_open_beside trail l [] = false
has_open_beside trail l (m ∷ ms) =
    cond (same m l) (has_open_beside trail l ms) (cond (has (falses trail) m) (has_open_beside trail l ms) true)

-- so it is with the numbered clause, if there is one
abbrev pub is_open_beside : List Assigned → Literal → Option (List Literal) → Bool
is_open_beside trail l None = false
is_open_beside trail l (Some c) = has_open_beside trail l c

-- how many of the entries were implied by clauses that were not unit, nor false, under a trail before
abbrev pub late : List (List Literal) → List Assigned → List Assigned → ℕ
late known before entries = count_by (λ (a : Assigned). is_open_beside before a.literal (at known a.reason)) entries

-- under the trail the numbered clause was unit or false: all its literals but one were false
abbrev pub IsEarly : List (List Literal) → List Assigned → ℕ → Type 0
IsEarly known before n = (c : List Literal) × (at known n ≡ Some c) × (l : Literal)
    × ((m : Literal) → Contains c m → m ≢ l → Contains (falses before) m)

-- the looks rose by at least so much, or to the last number of 64 bits
abbrev pub HaveRisen : ℕ → ℕ → ℕ → Type 0
HaveRisen looks looks' by = (looks + by ≤ looks') ⊎ (18446744073709551615 ≤ looks')

-- the looks rise by at least one for each literal that was implied by a clause which was neither unit nor false
-- before, and one for each clause that watches other literals than before; and by one more where a clause is false
-- and none such was unit or false before
pub record LooksAtWork (old new : Shown) : Type 0 where
  pub at_least : HaveRisen old.looks new.looks
      (late old.known old.trail (drop (length old.trail) new.trail) + moved old.watched new.watched)
  pub at_conflict : SomeFalse old.known new.trail
      → ((n : ℕ) (c : List Literal) → at old.known n ≡ Some c → IsFalse new.trail c → ¬ IsEarly old.known old.trail n)
      → HaveRisen old.looks new.looks
      (late old.known old.trail (drop (length old.trail) new.trail) + moved old.watched new.watched + 1)
