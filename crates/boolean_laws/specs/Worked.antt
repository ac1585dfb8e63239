-- Small programs with and without integers.
use Rattle.std.specs.Prelude.{false, List, [], ◌∷◌, None}
use Rattle.lus_tree.specs.declared.expression.Operator.TheVariants.{Less}
use Rattle.lus_tree.specs.declared.place.Sort.{Sort}
use Rattle.lus_tree.specs.declared.place.Sort.TheVariants.{Bool as Flags, Int as Numbers}
use Rattle.lus_tree.specs.Tree.{Name, Spelled, Place, Expression, number, name, negation, binary, call, no_more, more, Variable, Statement, equation, Component, declared_node, Program}

abbrev pub spelled : Name → Spelled
spelled x = record { text = x; at = record { line = 1; column = 1 } }

abbrev pub here : Place
here = record { from = record { line = 1; column = 1 }; at = record { line = 1; column = 1 } }

abbrev pub stream : Name → Sort → Variable
stream x z = record { name = spelled x; sort = z; clock = None }

-- a node of this name with an input a and an output b of type bool, these locals and these equations
abbrev pub node : Name → List Variable → List Statement → Component
node x locals body = record {
  name = spelled x;
  function = false;
  inputs = stream (97 ∷ []) Flags ∷ [];
  outputs = stream (98 ∷ []) Flags ∷ [];
  locals = locals;
  constants = [];
  contract = None;
  body = body;
}

-- b = e
abbrev pub output_is : Expression → Statement
output_is e = equation (spelled (98 ∷ []) ∷ []) e

-- b = not a
abbrev pub negating : Component
negating = node (110 ∷ []) [] (output_is (negation here (name here (97 ∷ []))) ∷ [])

-- b = 1 < 2
abbrev pub comparing : Component
comparing = node (99 ∷ []) [] (output_is (binary here Less (number here 1) (number here 2)) ∷ [])

-- b = not a, with a local x of type int, x = 1
abbrev pub counting : Component
counting =
    node (107 ∷ []) (stream (120 ∷ []) Numbers ∷ [])
    (output_is (negation here (name here (97 ∷ []))) ∷ equation (spelled (120 ∷ []) ∷ []) (number here 1) ∷ [])

-- b = n(a), and b = k(a), of the nodes n and k above
abbrev pub calls_node : Name → Component
calls_node f = node (109 ∷ []) [] (output_is (call here 1 (spelled f) (more (name here (97 ∷ [])) no_more)) ∷ [])

abbrev pub flags_alone : Program
flags_alone = declared_node negating ∷ declared_node (calls_node (110 ∷ [])) ∷ []

abbrev pub with_literals : Program
with_literals = declared_node comparing ∷ []

abbrev pub with_a_counter : Program
with_a_counter = declared_node counting ∷ declared_node (calls_node (107 ∷ [])) ∷ []
