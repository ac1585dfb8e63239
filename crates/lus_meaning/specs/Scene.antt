-- Where an expression stands: an instance of a declaration, its frame, and the instants at which it is active.
use Rattle.std.specs.Prelude.{ℕ, zero, suc, Bool, false, cond, List, [], ◌∷◌, ◌++◌, map, Option, Some, None, find, option_map, unwrap_or}
use Rattle.std.specs.Str.{bytes_eq}
use Rattle.lus_tree.specs.Tree.{Name, Spelled, Expression, Variable, ContractStatement, ghost_variable, Component}
use Rattle.lus_meaning.specs.Value.{Value, Stream, Instants, is}
use Rattle.lus_meaning.specs.Frame.{Frame, entry}

-- the base clock, or the instants at which a name has that truth value
pub data Clock : Type 0 where
  base : Clock
  sampled_by : Bool → Name → Clock

-- how a call runs: where its clock is on, where besides a condition is true, or as an import with these outputs
pub data Manner : Type 0 where
  plain : Manner
  while_true : Expression → Manner
  as_import : List Name → Manner

-- a call occurrence: its number, its callee, the clock of its place, its arguments and defaults, and how it runs
pub record Site : Type 0 where
  pub number : ℕ
  pub callee : Name
  pub clock : Clock
  pub arguments : List Expression
  pub defaults : List Expression
  pub manner : Manner

-- A declaration with the values of its constants and, for each of its call occurrences, an instance of the callee.
mutual
  pub data Instance : Type 0 where
    instance : Component → List (Name × Value) → Instances → Instance

  pub data Instances : Type 0 where
    no_instances : Instances
    with_instance : Site → Instance → Instances → Instances

abbrev pub component_of : Instance → Component
component_of (instance n cs is) = n

abbrev pub constants_of : Instance → List (Name × Value)
constants_of (instance n cs is) = cs

abbrev pub calls_of : Instance → Instances
calls_of (instance n cs is) = is

abbrev pub outputs_of : Instance → List Name
outputs_of i = map (λ x. x.name.text) (component_of i).outputs

-- what stands for a declaration that is not there: it has no names
abbrev pub no_component : Component
no_component = record {
  name = record { text = []; at = record { line = 0; column = 0 } };
  function = false;
  inputs = [];
  outputs = [];
  locals = [];
  constants = [];
  contract = None;
  body = [];
}

abbrev pub no_instance : Instance
no_instance = instance no_component [] no_instances

-- counted from 0
abbrev pub instance_at : Instances → ℕ → Instance
instance_at no_instances k = no_instance
instance_at (with_instance s i is) zero = i
instance_at (with_instance s i is) (suc k) = instance_at is k

-- the instance of the call occurrence with this number, counted from 1; one that is not there has no names
abbrev pub call_instance : Instance → ℕ → Instance
call_instance i zero = no_instance
call_instance i (suc k) = instance_at (calls_of i) k

abbrev pub called_among : Instances → Name → Instance
called_among no_instances f = no_instance
called_among (with_instance s i is) f = cond (bytes_eq f s.callee) i (called_among is f)

-- the instance of the first call of this callee
abbrev pub instance_called : Instance → Name → Instance
instance_called i f = called_among (calls_of i) f

-- what `::m` and `::C::m` stand for: a mode goes by its name, and before it the imported contracts on the way to it
abbrev pub ModeStreams : Type 0
ModeStreams = List ((List Name × Name) × Stream)

-- what an expression is evaluated over
pub record Scene : Type 0 where
  pub place : Instance
  pub frame : Frame
  pub beat : Instants
  pub modes : ModeStreams

abbrev pub ghosts : List ContractStatement → List Variable
ghosts [] = []
ghosts (ghost_variable x e ∷ cs) = x ∷ ghosts cs
ghosts (_ ∷ cs) = ghosts cs

abbrev pub contract_statements : Component → List ContractStatement
contract_statements n = unwrap_or n.contract []

-- the streams of a declaration: inputs, outputs, locals and ghost variables
abbrev pub variables : Component → List Variable
variables n = n.inputs ++ n.outputs ++ n.locals ++ ghosts (contract_statements n)

abbrev pub clock_from : Option (Bool × Spelled) → Clock
clock_from None = base
clock_from (Some c) = sampled_by c.0 c.1.text

-- the clock of a name
abbrev pub clock_of : Component → Name → Clock
clock_of n x = clock_from (unwrap_or (option_map (λ v. v.clock) (find (λ v. bytes_eq x v.name.text) (variables n))) None)

-- the clock of an equation is that of its names
abbrev pub clock_of_names : Component → List Name → Clock
clock_of_names n [] = base
clock_of_names n (x ∷ xs) = clock_of n x

-- the instants at which a clock is on
abbrev pub is_on : Scene → Clock → Instants
is_on s base = s.beat
is_on s (sampled_by b c) = λ t. is b (entry s.frame c t)
