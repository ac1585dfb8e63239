-- The tree of an expression's text.
use Rattle.std.specs.Prelude.{ℕ, Bool, true, false, Option, Some, None, length}
use Rattle.lus_tree.specs.declared.place.Pos.{Pos}
use Rattle.lus_tree.specs.declared.expression.Operator.{Operator}
use Rattle.lus_tree.specs.declared.expression.Operator.TheVariants as O
use Rattle.lus_tree.specs.Tree.{Name, Spelled, Place, Expression, truth, number, name, negation, minus, pre, arrow, binary, choice, sampled, merged, call, condact, mode_name, Expressions, no_more, more}
use Rattle.lus_lexer.specs.Tokens.{byte, value}
use Rattle.lus_lexer.specs.declared.token.Class.{Class}
use Rattle.lus_lexer.specs.declared.token.Class.TheVariants as C
use Rattle.lus_lexer.specs.declared.token.Keyword.TheVariants as K
use Rattle.lus_lexer.specs.declared.token.Sign.TheVariants as S
use Rattle.lus_grammar.specs.Stream.{Mark}
use Rattle.lus_grammar.specs.Phrase as P
use Rattle.lus_grammar.specs.Syntax.{Syntax, leaf, numbered, node, ◌·◌, this, that, absent, present, some}

abbrev pub spelled : Mark → Spelled
spelled t = record { text = t.text; at = t.at }

-- the value of a number's digits
abbrev pub digits_value : Name → ℕ
digits_value w = value (byte w) 0 (length w)

-- the place of an expression that begins with its own token
abbrev pub here : Mark → Place
here t = record { from = t.at; at = t.at }

abbrev pub place_of : Expression → Place
place_of (truth s b) = s
place_of (number s n) = s
place_of (name s x) = s
place_of (negation s a) = s
place_of (minus s a) = s
place_of (pre s k a) = s
place_of (arrow s k a b) = s
place_of (binary s o a b) = s
place_of (choice s a b c) = s
place_of (sampled s a b w) = s
place_of (merged s w a b) = s
place_of (call s k w xs) = s
place_of (condact s k a w xs ds) = s
place_of (mode_name s c m) = s

abbrev pub put_at : Place → Expression → Expression
put_at s (truth _ b) = truth s b
put_at s (number _ n) = number s n
put_at s (name _ x) = name s x
put_at s (negation _ a) = negation s a
put_at s (minus _ a) = minus s a
put_at s (pre _ k a) = pre s k a
put_at s (arrow _ k a b) = arrow s k a b
put_at s (binary _ o a b) = binary s o a b
put_at s (choice _ a b c) = choice s a b c
put_at s (sampled _ a b w) = sampled s a b w
put_at s (merged _ w a b) = merged s w a b
put_at s (call _ k w xs) = call s k w xs
put_at s (condact _ k a w xs ds) = condact s k a w xs ds
put_at s (mode_name _ c m) = mode_name s c m

-- the same expression in parentheses, of which the first stands at p
abbrev pub begun : Pos → Expression → Expression
begun p e = put_at (record { from = p; at = (place_of e).at }) e

-- the place of an operator behind its left operand
abbrev pub behind : Expression → Mark → Place
behind e t = record { from = (place_of e).from; at = t.at }

-- the operator that a token is
abbrev pub operator_of : Option Class → Operator
operator_of (Some (C.Sign S.Implies)) = O.Implies
operator_of (Some (C.Keyword K.Or)) = O.Or
operator_of (Some (C.Keyword K.Xor)) = O.Xor
operator_of (Some (C.Keyword K.And)) = O.And
operator_of (Some (C.Sign S.Less)) = O.Less
operator_of (Some (C.Sign S.AtMost)) = O.AtMost
operator_of (Some (C.Sign S.Equals)) = O.Equal
operator_of (Some (C.Sign S.Differs)) = O.Differs
operator_of (Some (C.Sign S.AtLeast)) = O.AtLeast
operator_of (Some (C.Sign S.More)) = O.More
operator_of (Some (C.Sign S.Plus)) = O.Add
operator_of (Some (C.Sign S.Minus)) = O.Sub
operator_of (Some (C.Sign S.Times)) = O.Mul
operator_of (Some (C.Keyword K.Div)) = O.Div
operator_of _ = O.Mod

abbrev pub is_true : Option Class → Bool
is_true (Some (C.Keyword K.True)) = true
is_true _ = false

-- an operator, or a `when`, behind an operand
abbrev pub joined : Expression → Mark → Expression → Expression
joined a t b = binary (behind a t) (operator_of t.class) a b

-- The tree of a text of an expression's line; the last clause never comes.
abbrev mutual
  pub expression_of : Syntax → Expression
  -- expr = cond { "when" [ "not" ] ID }
  expression_of (node P.Expression (c · ws)) = sampled_by (expression_of c) ws
  -- cond = "if" expr "then" expr "else" cond | arrow
  expression_of (node P.Condition (this (leaf t · a · _ · b · _ · c))) = choice (here t) (expression_of a) (expression_of b) (expression_of c)
  expression_of (node P.Condition (that a)) = expression_of a
  -- arrow = impl [ "->" cond ]
  expression_of (node P.Arrow (a · present (numbered t k · b))) = arrow (behind (expression_of a) t) k (expression_of a) (expression_of b)
  expression_of (node P.Arrow (a · absent)) = expression_of a
  -- impl = disj [ "=>" impl ]
  expression_of (node P.Implication (a · present (leaf t · b))) = joined (expression_of a) t (expression_of b)
  expression_of (node P.Implication (a · absent)) = expression_of a
  -- disj, conj, sum, prod
  expression_of (node (P.Chain l) (a · rest)) = grouped (expression_of a) rest
  -- rel = sum [ RELATION sum ]
  expression_of (node P.Relation (a · present (leaf t · b))) = joined (expression_of a) t (expression_of b)
  expression_of (node P.Relation (a · absent)) = expression_of a
  -- unary = ("not" | "-" | "pre") unary | primary
  expression_of (node P.Unary (this (leaf t · a))) = negation (here t) (expression_of a)
  expression_of (node P.Unary (that (this (leaf t · a)))) = minus (here t) (expression_of a)
  expression_of (node P.Unary (that (that (this (numbered t k · a))))) = pre (here t) k (expression_of a)
  expression_of (node P.Unary (that (that (that a)))) = expression_of a
  -- primary = NUMBER | "true" | "false" | ID [ "(" [ exprs ] ")" ] | "::" ID [ "::" ID ] | ..
  expression_of (node P.Primary (this (leaf t))) = number (here t) (digits_value t.text)
  expression_of (node P.Primary (that (this (leaf t)))) = truth (here t) (is_true t.class)
  expression_of (node P.Primary (that (that (this (leaf t · absent))))) = name (here t) t.text
  expression_of (node P.Primary (that (that (this (leaf t · present (numbered _ k · xs · _)))))) = call (here t) k (spelled t) (arguments_of xs)
  expression_of (node P.Primary (that (that (that (this (leaf t · leaf m · absent)))))) = mode_name (here t) None (spelled m)
  expression_of (node P.Primary (that (that (that (this (leaf t · leaf c · present (_ · leaf m))))))) = mode_name (here t) (Some (spelled c)) (spelled m)
  expression_of (node P.Primary (that (that (that (that (this (leaf t · leaf c · _ · _ · _ · a · _ · _ · _ · _ · b · _))))))) = merged
      (here t) (spelled c) (expression_of a) (expression_of b)
  expression_of (node P.Primary (that (that (that (that (that (this (numbered t k · _ · a · _ · leaf f · (_ · xs · _) · ds · _)))))))) =
      condact (here t) k (expression_of a) (spelled f) (arguments_of xs) (listed_of ds)
  expression_of (node P.Primary (that (that (that (that (that (that
      (leaf o · this (numbered t k · leaf f · _ · a · _ · _ · (_ · ds · _) · _ · (_ · xs · _))))))))))
      = condact (record { from = o.at; at = t.at }) k (expression_of a) (spelled f) (arguments_of xs) (arguments_of ds)
  expression_of (node P.Primary (that (that (that (that (that (that (leaf o · that (a · _))))))))) = begun o.at (expression_of a)
  expression_of _ = truth (record { from = record { line = 0; column = 0 }; at = record { line = 0; column = 0 } }) false

  -- operands behind their operators, grouped to the left
  pub grouped : Expression → Syntax → Expression
  grouped a (some (leaf t · b) rest) = grouped (joined a t (expression_of b)) rest
  grouped a _ = a

  -- clocks behind an expression
  pub sampled_by : Expression → Syntax → Expression
  sampled_by a (some (leaf t · absent · leaf c) ws) = sampled_by (sampled (behind a t) a true (spelled c)) ws
  sampled_by a (some (leaf t · present _ · leaf c) ws) = sampled_by (sampled (behind a t) a false (spelled c)) ws
  sampled_by a _ = a

  -- [ exprs ], with exprs = expr { "," expr }
  pub arguments_of : Syntax → Expressions
  arguments_of (present (node P.Expressions (a · as_))) = more (expression_of a) (listed_of as_)
  arguments_of _ = no_more

  -- { "," expr }
  pub listed_of : Syntax → Expressions
  listed_of (some (_ · a) as_) = more (expression_of a) (listed_of as_)
  listed_of _ = no_more
