-- In which order an instant is evaluated: what reads a value that is not there yet is late, and comes when it is there.
use Rattle.std.specs.Prelude.{◌≡◌, ℕ, Bool, true, false, ◌&&◌, List, [], ◌∷◌, map, pred, length, Some, slice_get, position, ◌==◌}
use Rattle.lus_tree.specs.Tree.{Name}
use Rattle.lus_meaning.specs.Scene.{Instance, component_of, call_instance}
use Rattle.lus_meaning.specs.Run.{equations}
use Rattle.lus_meaning.specs.Depends.{named_in}
use Rattle.lus_meaning.specs.Trace.{same_numbers}
use Rattle.lus_meaning.specs.Cycle.{Place, IsAt, IsWay, last_place}
use Rattle.lus_meaning.specs.Order.{IsLeastOrder, IsLeastEquationOrder}
use Rattle.lus_evaluation.specs.Part.{Part}
use Rattle.lus_evaluation.specs.Frame.{picked, Orders}
use Rattle.lus_evaluation.specs.Turn.{in_turn}

-- ---- what a part waits for

-- whether the one way of calls is the other, or leads to a frame on the way there
abbrev pub is_above : List ℕ → List ℕ → Bool
is_above [] v = true
is_above (k ∷ w) [] = false
is_above (k ∷ w) (j ∷ v) = (k == j) && is_above w v

-- whether a part gives a name of the frame at the end of a way of calls
abbrev pub gives_name : List ℕ → Name → Part → Bool
gives_name w x q = same_numbers w q.way && named_in x q.gives

abbrev pub place_named : List ℕ → Name → Place
place_named w x = (map pred w, Some x)

-- One of these places, or one to which a way of needs leads from one of them, is this place.
pub record NeedsPlace (i : Instance) (ps : List Place) (q : Place) : Type 0 where
  pub number : ℕ
  pub start : Place
  pub starts : IsAt number start ps
  pub rest : List (ℕ × Place)
  pub way : IsWay i start rest
  pub last : last_place start rest ≡ q

-- Of a list of parts the one with the number k waits for the one with the number j: the whole in which k stands needs at its own instant a name that an
-- equation gives, of the frame of k or of one on the way there, and j is the first part of the list that gives it.
pub record Waits (i : Instance) (ps : List Part) (k j : ℕ) : Type 0 where
  pub waiting : Part
  pub is_there : slice_get ps k ≡ Some waiting
  pub way : List ℕ
  pub name : Name
  pub above : is_above way waiting.way ≡ true
  pub given : position (gives_name way name) ps ≡ Some j
  pub needed : NeedsPlace i waiting.needs (place_named way name)

-- ---- the order

-- the instance of the frame at the end of a way of calls
abbrev pub instance_on : Instance → List ℕ → Instance
instance_on i [] = i
instance_on i (k ∷ w) = instance_on (call_instance i k) w

-- The parts of an instant in the order in which they are evaluated. Each frame has the least order of its equations; and again and again the first part, in
-- the order in which they would come if nothing had to wait, comes that waits for none that is still to come.
pub record IsEvaluation (i : Instance) (qs : List Part) : Type 0 where
  pub orders : Orders
  pub least : (w : List ℕ) → IsLeastEquationOrder (instance_on i w) (equations (component_of (instance_on i w))) (orders w)
  pub numbers : List ℕ
  pub turn : IsLeastOrder (length (in_turn orders i)) (Waits i (in_turn orders i)) numbers
  pub parts : qs ≡ picked numbers (in_turn orders i)
