-- The right sides of equations by the names that they define.
use Rattle.std.specs.Prelude.{ℕ, suc, cond, List, [], ◌∷◌, Option, Some, None, option_map}
use Rattle.std.specs.Borrow.{Bor}
use Rattle.std.specs.Str.{bytes_eq}
use Rattle.indexmap.specs.IndexMap.{IndexMap}
use Rattle.lus_tree.specs.Tree.{Name, Expression}
use Rattle.sys_texts.specs.Views.{by_name}
use Rattle.sys_conditions.specs.declared.occurrences.Right.{Right as RightCode}
use Rattle.sys_conditions.specs.Named.{Right}
use Rattle.sys_conditions.specs.Views.{right_view}

-- what a table has for a name
abbrev pub right_in : {S : Type 0} → IndexMap (Bor (List ℕ)) RightCode S → Name → Option Right
right_in m x = option_map right_view (by_name m x)

-- the place of a name among left names, of which the first has that place
abbrev pub right_from : Expression → ℕ → List Name → Name → Option Right
right_from e k [] x = None
right_from e k (y ∷ ys) x = cond (bytes_eq x y) (Some record { side = e; place = k }) (right_from e (suc k) ys x)
