-- Which operator a token is between operands.
use Rattle.std.specs.Prelude.{◌≡◌, ℕ, Option, Some, None}
use Rattle.lus_tree.specs.declared.expression.Operator.{Operator}
use Rattle.lus_tree.specs.declared.expression.Operator.TheVariants as O
use Rattle.lus_lexer.specs.declared.token.Class.{Class}
use Rattle.lus_lexer.specs.declared.token.Class.TheVariants as C
use Rattle.lus_lexer.specs.declared.token.Keyword.TheVariants as K
use Rattle.lus_lexer.specs.declared.token.Sign.TheVariants as S
use Rattle.lus_grammar.specs.Stream.{Stream}
use Rattle.lus_grammar.specs.Phrase.{Level, Products, Sums, Conjunctions, Disjunctions, one_of}
use Rattle.lus_grammar.specs.Grammar.{signs, relations}
use Rattle.lus_grammar.specs.Text.{IsOneOf}
use Rattle.lus_grammar.specs.Trees as T
use Rattle.lus_grammar.specs.Starts.{Enters, Passes}

abbrev pub operator_of : Level → Option Class → Option Operator
operator_of Products (Some (C.Sign S.Times)) = Some O.Mul
operator_of Products (Some (C.Keyword K.Div)) = Some O.Div
operator_of Products (Some (C.Keyword K.Mod)) = Some O.Mod
operator_of Sums (Some (C.Sign S.Plus)) = Some O.Add
operator_of Sums (Some (C.Sign S.Minus)) = Some O.Sub
operator_of Conjunctions (Some (C.Keyword K.And)) = Some O.And
operator_of Disjunctions (Some (C.Keyword K.Or)) = Some O.Or
operator_of Disjunctions (Some (C.Keyword K.Xor)) = Some O.Xor
operator_of _ _ = None

abbrev pub relation_of : Option Class → Option Operator
relation_of (Some (C.Sign S.Less)) = Some O.Less
relation_of (Some (C.Sign S.AtMost)) = Some O.AtMost
relation_of (Some (C.Sign S.Equals)) = Some O.Equal
relation_of (Some (C.Sign S.Differs)) = Some O.Differs
relation_of (Some (C.Sign S.AtLeast)) = Some O.AtLeast
relation_of (Some (C.Sign S.More)) = Some O.More
relation_of _ = None

-- the mark is an operator of that level, and which
pub record IsOperator (s : Stream) (i : ℕ) (l : Level) (o : Operator) : Type 0 where
  pub one : IsOneOf s i (signs l)
  pub enters : Enters s i (one_of (signs l))
  pub is : T.operator_of (s i).class ≡ o

abbrev pub Joins : Stream → ℕ → Level → Option Operator → Type 0
Joins s i l (Some o) = IsOperator s i l o
Joins s i l None = Passes s i (one_of (signs l))

pub record IsRelation (s : Stream) (i : ℕ) (o : Operator) : Type 0 where
  pub one : IsOneOf s i relations
  pub enters : Enters s i (one_of relations)
  pub is : T.operator_of (s i).class ≡ o

abbrev pub Relates : Stream → ℕ → Option Operator → Type 0
Relates s i (Some o) = IsRelation s i o
Relates s i None = Passes s i (one_of relations)
