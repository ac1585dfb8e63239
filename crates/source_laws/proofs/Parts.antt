-- What is shown of each part of a source's tree.
use Rattle.std.proofs.Common.{◌≡◌, ℕ, ◌^◌, nat_lt, Bool, true, List, Option, Some, None}
use Rattle.std.specs.List.{AllByRecursion}
use Rattle.lus_tree.specs.Tree.{Name, Spelled, Expression, Expressions, truth, number, name, negation, minus, pre, arrow, binary, choice, sampled, merged, call, condact, mode_name, no_more, more, Variable, Constant, Labelled, Statement, equation, assertion, property, main_mark, ContractStatement, assume, guarantee, ghost_variable, constant, mode, «import», Component, Declaration, declared_constant, declared_node, declared_contract, Program}
use Rattle.lus_lexer.specs.Names.{is_name}
use Rattle.lus_meaning.specs.Scene.{contract_statements}
use Rattle.lus_meaning.specs.Grammatical.{has_left_name, is_printable, IsContractNode}

abbrev pub IsWord : Name → Type 0
IsWord x = is_name x ≡ true

abbrev pub AreWords : List Spelled → Type 0
AreWords ws = AllByRecursion (λ w. IsWord w.text) ws

-- ---- expressions

abbrev pub IsSmall : ℕ → Type 0
IsSmall n = nat_lt n (2 ^ 63) ≡ true

-- its words are names, and its literals are small
abbrev mutual
  pub IsPlain : Expression → Type 0
  IsPlain (truth p b) = Unit {0}
  IsPlain (number p n) = IsSmall n
  IsPlain (name p x) = IsWord x
  IsPlain (negation p a) = IsPlain a
  IsPlain (minus p a) = IsPlain a
  IsPlain (pre p k a) = IsPlain a
  IsPlain (arrow p k a b) = IsPlain a × IsPlain b
  IsPlain (binary p o a b) = IsPlain a × IsPlain b
  IsPlain (choice p a b c) = IsPlain a × IsPlain b × IsPlain c
  IsPlain (sampled p a b x) = IsPlain a × IsWord x.text
  IsPlain (merged p x a b) = IsWord x.text × IsPlain a × IsPlain b
  IsPlain (call p k f as_) = IsWord f.text × ArePlain as_
  IsPlain (condact p k a f as_ ds) = IsPlain a × IsWord f.text × ArePlain as_ × ArePlain ds
  IsPlain (mode_name p None m) = IsWord m.text
  IsPlain (mode_name p (Some c) m) = IsWord c.text × IsWord m.text

  pub ArePlain : Expressions → Type 0
  ArePlain no_more = Unit {0}
  ArePlain (more a as_) = IsPlain a × ArePlain as_

-- ---- items

abbrev pub IsPrintable : Option Name → Type 0
IsPrintable None = Unit {0}
IsPrintable (Some x) = is_printable x ≡ true

pub record IsItem (l : Labelled) : Type 0 where
  pub label : IsPrintable l.label
  pub value : IsPlain l.value

pub record IsConstant (c : Constant) : Type 0 where
  pub name : IsWord c.name.text
  pub value : IsPlain c.value

abbrev pub IsStream : Variable → Type 0
IsStream v = IsWord v.name.text

-- a stream on that clock, and on the base clock
pub record IsOnClock (c : Option (Bool × Spelled)) (v : Variable) : Type 0 where
  pub name : IsStream v
  pub clock : v.clock ≡ c

-- a local's clock, where it has one
abbrev pub IsClock : Option (Bool × Spelled) → Type 0
IsClock None = Unit {0}
IsClock (Some c) = IsWord c.1.text

pub record IsLocal (v : Variable) : Type 0 where
  pub name : IsStream v
  pub clock : IsClock v.clock

abbrev pub IsParameter : Variable → Type 0
IsParameter v = IsOnClock None v

abbrev pub IsContractStatement : ContractStatement → Type 0
IsContractStatement (assume l) = IsItem l
IsContractStatement (guarantee l) = IsItem l
IsContractStatement (ghost_variable v e) = IsParameter v × IsPlain e
IsContractStatement (constant c) = IsConstant c
IsContractStatement (mode m rs es) = IsWord m.text × AllByRecursion IsItem rs × AllByRecursion IsItem es
IsContractStatement («import» k c as_ xs) = IsWord c.text × AreWords xs × AllByRecursion IsPlain as_

abbrev pub IsStatement : Statement → Type 0
IsStatement (equation xs e) = (has_left_name (equation xs e) ≡ true) × AreWords xs × IsPlain e
IsStatement (assertion e) = IsPlain e
IsStatement (property l) = IsItem l
IsStatement (main_mark p) = Unit {0}

-- ---- declarations

pub record IsComponent (n : Component) : Type 0 where
  pub name : IsWord n.name.text
  pub inputs : AllByRecursion IsParameter n.inputs
  pub outputs : AllByRecursion IsParameter n.outputs
  pub locals : AllByRecursion IsLocal n.locals
  pub constants : AllByRecursion IsConstant n.constants
  pub contract : AllByRecursion IsContractStatement (contract_statements n)
  pub body : AllByRecursion IsStatement n.body

abbrev pub IsDeclaration : Declaration → Type 0
IsDeclaration (declared_constant c) = IsConstant c
IsDeclaration (declared_node n) = IsComponent n
IsDeclaration (declared_contract n) = IsComponent n × IsContractNode n

abbrev pub IsProgram : Program → Type 0
IsProgram p = AllByRecursion IsDeclaration p
