-- Tables of the names that an equation or a caller gives.
use Rattle.std.specs.Prelude.{◌≡◌, ◌||◌, List, flat_map}
use Rattle.lus_tree.specs.Tree.{Name}
use Rattle.lus_meaning.specs.Depends.{named_in}
use Rattle.lus_meaning.specs.Run.{Equation}

abbrev pub lefts_of : List Equation → List Name
lefts_of es = flat_map (λ e. e.names) es

-- the names that there were, and these
abbrev pub HasThese : List Name → List Name → List Name → Type 0
HasThese old new xs = (x : Name) → named_in x new ≡ (named_in x old || named_in x xs)
