-- Where expressions have state, which a function may not have.
use Rattle.std.specs.Prelude.{◌≡◌, cond, List, [], ◌∷◌, ◌++◌}
use Rattle.lus_tree.specs.declared.place.Pos.{Pos}
use Rattle.lus_tree.specs.Tree.{Spelled, Expression, pre, arrow, call, condact, Program}
use Rattle.lus_meaning.specs.Scope.{node_named}
use Rattle.lus_meaning.specs.NameFaults.{callee_has_state}

-- the places are those before, and these behind them
abbrev pub PlacesOn : List Pos → List Pos → List Pos → Type 0
PlacesOn old new ps = new ≡ old ++ ps

abbrev pub callee_state : Program → Spelled → List Pos
callee_state r f = cond (callee_has_state (node_named r f.text)) (f.at ∷ []) []

-- where an expression has state, its parts left aside
abbrev pub state_of : Program → Expression → List Pos
state_of r (pre p k a) = p.at ∷ []
state_of r (arrow p k a b) = p.at ∷ []
state_of r (condact p k a f as_ ds) = p.at ∷ []
state_of r (call p k f as_) = callee_state r f
state_of r _ = []
