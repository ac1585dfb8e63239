-- The node that a trace names, by its numbers.
use Rattle.std.specs.Prelude.{◌≡◌, ℕ, suc, cond, [], ◌∷◌, Option, Some, None, slice_get}
use Rattle.std.specs.Str.{bytes_eq}
use Rattle.lus_tree.specs.Tree.{Name, Component, Program, declared_constant, declared_node, declared_contract}
use Rattle.lus_tree.specs.Lookup.{nodes_of}
use Rattle.lus_meaning.specs.ClockFaults.{components}

-- a node or function, its number among these, and its number among all declarations with parts
pub record Numbered : Type 0 where
  pub node : Component
  pub number : ℕ
  pub place : ℕ

-- the first of that name, where the first ones have these numbers
abbrev pub numbers_from : ℕ → ℕ → Name → Program → Option Numbered
numbers_from k j x [] = None
numbers_from k j x (declared_constant c ∷ ds) = numbers_from k j x ds
numbers_from k j x (declared_contract n ∷ ds) = numbers_from k (suc j) x ds
numbers_from k j x (declared_node n ∷ ds) =
    cond (bytes_eq x n.name.text) (Some (record { node = n; number = k; place = j })) (numbers_from (suc k) (suc j) x ds)

-- it has these numbers in a program
pub record IsNumbered (p : Program) (m : Numbered) : Type 0 where
  pub number : slice_get (nodes_of p) m.number ≡ Some m.node
  pub place : slice_get (components p) m.place ≡ Some m.node
