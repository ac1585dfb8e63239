-- All that is evaluated at an instant of a declaration, where each frame has the least order of its equations.
use Rattle.std.specs.Prelude.{◌≡◌, ◌<◌, ℕ, List, [], Option, Some, None, length, slice_get}
use Rattle.lus_tree.specs.Tree.{Component, Program}
use Rattle.lus_meaning.specs.ClockFaults.{components}
use Rattle.lus_meaning.specs.Order.{IsLeastEquationOrder}
use Rattle.lus_meaning.specs.Program.{instance_of}
use Rattle.lus_meaning.specs.Run.{equations}
use Rattle.lus_meaning.specs.Scene.{Instance, component_of}
use Rattle.lus_checked.specs.Program.{IsOrderOf}
use Rattle.lus_evaluation.specs.Evaluation.{instance_on}
use Rattle.lus_evaluation.specs.Frame.{Orders}
use Rattle.lus_evaluation.specs.Part.{Part}
use Rattle.lus_evaluation.specs.Turn.{in_turn}
use Rattle.evaluation_parts.specs.Unfolded.{Declared}
use Rattle.evaluation_parts.specs.Framed.{order_at, turn_within}

-- each frame has the least order of its equations, as for an evaluation
abbrev pub AreLeast : Instance → Orders → Type 0
AreLeast i o = (w : List ℕ) → IsLeastEquationOrder (instance_on i w) (equations (component_of (instance_on i w))) (o w)

-- by such orders this is all, in the order in which it would come if nothing had to wait
pub record IsTurn (i : Instance) (qs : List Part) : Type 0 where
  pub orders : Orders
  pub least : AreLeast i orders
  pub parts : qs ≡ in_turn orders i

-- and so it is by all such orders
abbrev pub IsTurnByAll : Instance → List Part → Type 0
IsTurnByAll i qs = (o : Orders) → AreLeast i o → qs ≡ in_turn o i

-- of the instance of the declaration of that number, constants left out
abbrev pub OfDeclaration : Program → ℕ → (Instance → Type 0) → Type 0
OfDeclaration p k P = (n : Component) → slice_get (components p) k ≡ Some n → P (instance_of p n)

-- ---- by the declarations of the program

-- the orders of the first declarations, and of all
pub record AreFirstOrders (p : Program) (n : ℕ) (os : List (List ℕ)) : Type 0 where
  pub many : length os ≡ n
  pub each : (k : ℕ) → k < n → IsOrderOf p k (order_at os k)

abbrev pub AreOrders : Program → List (List ℕ) → Type 0
AreOrders p os = AreFirstOrders p (length (components p)) os

abbrev pub turn_if : (Declared → List Part) → Option Declared → List Part
turn_if f None = []
turn_if f (Some t) = f t

-- of the declaration of that place, with calls nested no deeper than the number
abbrev pub turn_at : Program → List Declared → List (List ℕ) → ℕ → ℕ → List Part
turn_at p ts os d k = turn_if (turn_within p ts os d k) (slice_get ts k)
