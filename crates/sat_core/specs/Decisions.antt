-- At which places decisions stand.
use Rattle.std.specs.Prelude.{ℕ, suc, ◌==◌, cond, nat_le, nat_lt, List, [], ◌∷◌}
use Rattle.sat_core.specs.declared.assigned.Assigned.{Assigned}

-- the places of the decisions among entries of which the first stands at place k
abbrev pub decisions_from : ℕ → List Assigned → List ℕ
decisions_from k [] = []
decisions_from k (a ∷ rest) = cond (a.reason == 0) (k ∷ decisions_from (suc k) rest) (decisions_from (suc k) rest)

-- the first of the places from `low` on, and no later one than the end
abbrev pub first_from : ℕ → ℕ → List ℕ → ℕ
first_from low end [] = end
first_from low end (place ∷ places) = cond (nat_le low place) (cond (nat_lt place end) place end) (first_from low end places)
