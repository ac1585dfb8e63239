-- Names, each once, in the order of their numbers.
use Rattle.std.specs.Prelude.{ℕ, suc, cond, List, [], ◌∷◌, ◌++◌}
use Rattle.std.specs.Str.{bytes_eq}
use Rattle.lus_tree.specs.Tree.{Name}
use Rattle.lus_meaning.specs.Depends.{named_in}

-- the names, and behind them x where it is new
abbrev pub add : List Name → Name → List Name
add ks x = cond (named_in x ks) ks (ks ++ x ∷ [])

-- the number of a name: how many names stand before the first that is x
abbrev pub number_of : List Name → Name → ℕ
number_of [] x = 0
number_of (y ∷ ys) x = cond (bytes_eq x y) 0 (suc (number_of ys x))
