-- How often names stand in a list.
use Rattle.std.specs.Prelude.{ℕ, List, [], ◌∷◌, Bool, true, false, filter, Option, Some, None}
use Rattle.std.specs.Borrow.{Bor}
use Rattle.std.specs.Str.{bytes_eq}
use Rattle.indexmap.specs.IndexMap.{IndexMap, get_by}
use Rattle.lus_tree.specs.Tree.{Name}

-- what a table has for a name
abbrev pub by_bytes : {V S : Type 0} → IndexMap (Bor (List ℕ)) V S → Name → Option V
by_bytes m x = get_by (λ k. bytes_eq x k.now) m

-- whether there is more than one of them, where there is one
abbrev pub is_several : List Name → Option Bool
is_several [] = None
is_several (x ∷ []) = Some false
is_several (x ∷ y ∷ ys) = Some true

-- those of a place, where there can be any
abbrev pub all_of : Option (Bor (List Name)) → List Name
all_of None = []
all_of (Some c) = c.now

-- whether a name stands more than once among these, where it stands there
abbrev pub often_in : Name → List Name → Option Bool
often_in x ys = is_several (filter (bytes_eq x) ys)
