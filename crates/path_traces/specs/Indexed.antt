-- Tables of the places of names in a list.
use Rattle.std.specs.Prelude.{◌≡◌, ℕ, suc, cond, List, [], ◌∷◌, Option, Some, None}
use Rattle.std.specs.Borrow.{Bor}
use Rattle.std.specs.Str.{bytes_eq}
use Rattle.indexmap.specs.IndexMap.{IndexMap, get_by}
use Rattle.lus_tree.specs.Tree.{Name}

-- what a table has for a name
abbrev pub by_name : {V S : Type 0} → IndexMap (Bor (List ℕ)) V S → Name → Option V
by_name m x = get_by (λ k. bytes_eq x k.now) m

-- the place of the first that is x, where the first of all has that place
abbrev pub place_from : ℕ → List Name → Name → Option ℕ
place_from k [] x = None
place_from k (y ∷ ys) x = cond (bytes_eq x y) (Some k) (place_from (suc k) ys x)

-- the table has the place of the first of each name, and of no other
abbrev pub IsIndex : {S : Type 0} → IndexMap (Bor (List ℕ)) ℕ S → List Name → Type 0
IsIndex m ys = (x : Name) → by_name m x ≡ place_from 0 ys x
