-- What the grammar is written in: the operators of an extended Backus-Naur form.
use Rattle.std.specs.Prelude.{List, [], ◌∷◌}
use Rattle.lus_lexer.specs.declared.token.Class.{Class}
use Rattle.lus_lexer.specs.declared.token.Class.TheVariants as C
use Rattle.lus_lexer.specs.declared.token.Keyword.{Keyword}
use Rattle.lus_lexer.specs.declared.token.Sign.{Sign}

-- the levels at which operators are repeated, grouped to the left
pub data Level : Type 0 where
  Products Sums Conjunctions Disjunctions : Level

-- the names of the grammar's lines
pub data Part : Type 0 where
  Program Declaration Constant Node ContractNode Parameters Groups Group Names Sort Locals LocalGroup Item Left Contract ContractItem ModeItem Arguments : Part
  Expression Condition Arrow Implication Relation Unary Primary Expressions : Part
  Chain : Level → Part

-- the occurrences that are numbered, each kind by itself
pub data Counter : Type 0 where
  pres arrows calls : Counter

infixr 40 ◌∣◌
infixr 50 ◌⨾◌
pub data Phrase : Type 0 where
  -- one token of one of these classes
  one_of : List Class → Phrase
  -- one token of this class, an occurrence that is numbered
  counted : Counter → Class → Phrase
  -- a text of that line of the grammar
  part : Part → Phrase
  -- the same, where the limit on the tokens of an expression holds
  limited : Part → Phrase
  -- the same, where occurrences are numbered from 1
  fresh : Part → Phrase
  -- one and then the other
  ◌⨾◌ : Phrase → Phrase → Phrase
  -- one or the other
  ◌∣◌ : Phrase → Phrase → Phrase
  -- at most once
  optional : Phrase → Phrase
  -- any number of times
  repeated : Phrase → Phrase

abbrev pub word : Keyword → Phrase
word k = one_of (C.Keyword k ∷ [])

abbrev pub sign : Sign → Phrase
sign s = one_of (C.Sign s ∷ [])

abbrev pub identifier : Phrase
identifier = one_of (C.Ident ∷ [])
