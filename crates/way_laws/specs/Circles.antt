-- The faults of circles by the own graph of a declaration.
use Rattle.std.specs.Prelude.{◌≡◌, ℕ, not, List, [], ◌∷◌, map, filter, Contains}
use Rattle.lus_tree.specs.Tree.{Name, text_of, Spelled, Variable, Component}
use Rattle.lus_tree.specs.Reason.{Refused, cycle}
use Rattle.lus_meaning.specs.Scene.{clock_of, variables}
use Rattle.lus_meaning.specs.Run.{equations}
use Rattle.lus_meaning.specs.Depends.{named_in, left_names}
use Rattle.lus_meaning.specs.Order.{left_at}
use Rattle.lus_meaning.specs.Faults.{fault}
use Rattle.lus_meaning.specs.EquationFaults.{sides, clock_names}
use Rattle.way_laws.specs.OwnGraph.{Summaries, own_edges, LeadsTo}

-- the name of its clock, where no equation defines this
abbrev pub free_clock : Component → Name → List Name
free_clock n x = filter (λ y. not (named_in y (left_names n))) (clock_names (clock_of n x))

-- at the first left name of an equation whose left names lead to themselves, or at a name whose clocks go in a circle
pub data IsOwnCircle (n : Component) (g : Summaries) (r : Refused) : Type 0 where
  of_equation : (w : Spelled) (ws : List Spelled) → Contains (sides n) (w ∷ ws) →
      LeadsTo (own_edges n g) (map text_of (w ∷ ws)) (map text_of (w ∷ ws)) → r ≡ fault cycle w.at → IsOwnCircle n g r
  of_clocks : (v : Variable) → Contains (variables n) v →
      LeadsTo (free_clock n) (v.name.text ∷ []) (v.name.text ∷ []) → r ≡ fault cycle v.name.at → IsOwnCircle n g r

-- left names of one equation lead to those of another
abbrev pub OwnNeeds : Component → Summaries → ℕ → ℕ → Type 0
OwnNeeds n g k j = LeadsTo (own_edges n g) (left_at (equations n) k) (left_at (equations n) j)
