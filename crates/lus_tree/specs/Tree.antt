-- The syntax tree as contracts see it: numbers, variants and lists. A text is the list of its bytes.
use Rattle.std.specs.Prelude.{ℕ, Bool, List, Option}
use Rattle.lus_tree.specs.declared.place.Pos.{Pos}
use Rattle.lus_tree.specs.declared.place.Sort.{Sort}
use Rattle.lus_tree.specs.declared.expression.Operator.{Operator}

abbrev pub Name : Type 0
Name = List ℕ

-- a name and its place
pub record Spelled : Type 0 where
  pub text : Name
  pub at : Pos

abbrev pub text_of : Spelled → Name
text_of w = w.text

-- where an expression begins, and where its own token stands
pub record Place : Type 0 where
  pub from : Pos
  pub at : Pos

mutual
  pub data Expression : Type 0 where
    truth : Place → Bool → Expression
    number : Place → ℕ → Expression
    name : Place → Name → Expression
    negation : Place → Expression → Expression
    minus : Place → Expression → Expression
    pre : Place → ℕ → Expression → Expression
    arrow : Place → ℕ → Expression → Expression → Expression
    binary : Place → Operator → Expression → Expression → Expression
    choice : Place → Expression → Expression → Expression → Expression
    sampled : Place → Expression → Bool → Spelled → Expression
    merged : Place → Spelled → Expression → Expression → Expression
    call : Place → ℕ → Spelled → Expressions → Expression
    condact : Place → ℕ → Expression → Spelled → Expressions → Expressions → Expression
    mode_name : Place → Option Spelled → Spelled → Expression

  pub data Expressions : Type 0 where
    no_more : Expressions
    more : Expression → Expressions → Expressions

-- a declared stream; its clock is none, or a name and whether it is to be true
pub record Variable : Type 0 where
  pub name : Spelled
  pub sort : Sort
  pub clock : Option (Bool × Spelled)

pub record Constant : Type 0 where
  pub name : Spelled
  pub sort : Option Sort
  pub value : Expression

pub record Labelled : Type 0 where
  pub label : Option Name
  pub at : Pos
  pub value : Expression

pub data Statement : Type 0 where
  equation : List Spelled → Expression → Statement
  assertion : Expression → Statement
  property : Labelled → Statement
  main_mark : Pos → Statement

pub data ContractStatement : Type 0 where
  assume : Labelled → ContractStatement
  guarantee : Labelled → ContractStatement
  ghost_variable : Variable → Expression → ContractStatement
  constant : Constant → ContractStatement
  mode : Spelled → List Labelled → List Labelled → ContractStatement
  «import» : ℕ → Spelled → List Expression → List Spelled → ContractStatement

-- A node, a function or a contract node. A contract node is no function and has no body and no locals.
pub record Component : Type 0 where
  pub name : Spelled
  pub function : Bool
  pub inputs : List Variable
  pub outputs : List Variable
  pub locals : List Variable
  pub constants : List Constant
  pub contract : Option (List ContractStatement)
  pub body : List Statement

pub data Declaration : Type 0 where
  declared_constant : Constant → Declaration
  declared_node : Component → Declaration
  declared_contract : Component → Declaration

abbrev pub Program : Type 0
Program = List Declaration
