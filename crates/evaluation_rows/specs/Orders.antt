-- The order of the equations of each frame of a row: its own, and those of its calls.
use Rattle.std.specs.Prelude.{ℕ, zero, suc, List, [], ◌∷◌}
use Rattle.lus_evaluation.specs.Frame.{Orders}

mutual
  pub data OrderTree : Type 0 where
    order_tree : List ℕ → OrderTrees → OrderTree

  pub data OrderTrees : Type 0 where
    no_trees : OrderTrees
    with_tree : OrderTree → OrderTrees → OrderTrees

abbrev mutual
  pub orders_on : OrderTree → List ℕ → List ℕ
  orders_on (order_tree ks ts) [] = ks
  orders_on (order_tree ks ts) (zero ∷ w) = []
  orders_on (order_tree ks ts) (suc k ∷ w) = orders_in ts k w

  -- counted from 0
  pub orders_in : OrderTrees → ℕ → List ℕ → List ℕ
  orders_in no_trees k w = []
  orders_in (with_tree t ts) zero w = orders_on t w
  orders_in (with_tree t ts) (suc k) w = orders_in ts k w

abbrev pub orders_of : OrderTree → Orders
orders_of t w = orders_on t w
