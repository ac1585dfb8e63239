-- Rows worked by hand: some texts and their trees.
use Rattle.std.specs.Prelude.{◌≡◌, ℕ, zero, suc, ◌+◌, true, List, [], ◌∷◌, codes, None, Some}
use Rattle.lus_tree.specs.declared.place.Pos.{Pos}
use Rattle.lus_tree.specs.declared.expression.Operator.TheVariants as O
use Rattle.lus_tree.specs.Tree.{Name, Place, Expression, name, arrow, binary, sampled}
use Rattle.lus_lexer.specs.declared.token.Class.{Class}
use Rattle.lus_lexer.specs.declared.token.Class.TheVariants as C
use Rattle.lus_lexer.specs.declared.token.Keyword.TheVariants as K
use Rattle.lus_lexer.specs.declared.token.Sign.TheVariants as S
use Rattle.lus_grammar.specs.Stream.{Stream}
use Rattle.lus_grammar.specs.Phrase.{part, Expression as ExpressionPart}
use Rattle.lus_grammar.specs.Syntax.{Counts, none_before, Syntax}
use Rattle.lus_grammar.specs.Text.{Text}
use Rattle.lus_grammar.specs.Trees.{expression_of}
use Rattle.lus_grammar.specs.Source.{limit}

-- a token of a row; the k-th of a row stands at the column k of line 1
pub record RowToken : Type 0 where
  pub class : Class
  pub text : Name

abbrev pub column : ℕ → Pos
column k = record { line = 1; column = k }

abbrev pub row_from : ℕ → List RowToken → Stream
row_from k [] i = record { class = None; at = column k; text = [] }
row_from k (w ∷ ws) zero = record { class = Some w.class; at = column k; text = w.text }
row_from k (w ∷ ws) (suc i) = row_from (k + 1) ws i

abbrev pub ident : Name → RowToken
ident x = record { class = C.Ident; text = x }

abbrev pub minus_sign : RowToken
minus_sign = record { class = C.Sign S.Minus; text = codes "-" }

abbrev pub arrow_sign : RowToken
arrow_sign = record { class = C.Sign S.Arrow; text = codes "->" }

-- the expression's line has these words as a text, and this is its tree
pub record IsTree (words : List RowToken) (size : ℕ) (e : Expression) : Type 0 where
  pub counts : Counts
  pub syntax : Syntax
  pub text : Text limit size (row_from 1 words) (part ExpressionPart) 0 size none_before counts syntax
  pub is : e ≡ expression_of syntax

abbrev pub place : (from at : ℕ) → Place
place from at = record { from = column from; at = column at }

abbrev pub named : ℕ → Name → Expression
named k x = name (place k k) x

-- a - b - c is (a - b) - c
abbrev pub GroupedToTheLeft : Type 0
GroupedToTheLeft = IsTree (ident (codes "a") ∷ minus_sign ∷ ident (codes "b") ∷ minus_sign ∷ ident (codes "c") ∷ []) 5
    (binary (place 1 4) O.Sub (binary (place 1 2) O.Sub (named 1 (codes "a")) (named 3 (codes "b"))) (named 5 (codes "c")))

-- a -> b -> c is a -> (b -> c), and its arrows are numbered from the left
abbrev pub ArrowsToTheRight : Type 0
ArrowsToTheRight = IsTree (ident (codes "a") ∷ arrow_sign ∷ ident (codes "b") ∷ arrow_sign ∷ ident (codes "c") ∷ []) 5
    (arrow (place 1 2) 1 (named 1 (codes "a")) (arrow (place 3 4) 2 (named 3 (codes "b")) (named 5 (codes "c"))))

-- a -> b when c is (a -> b) when c
abbrev pub ClockOfTheWhole : Type 0
ClockOfTheWhole = IsTree (ident (codes "a") ∷ arrow_sign ∷ ident
    (codes "b") ∷ record { class = C.Keyword K.When; text = codes "when" } ∷ ident (codes "c") ∷ []) 5
    (sampled (place 1 4) (arrow (place 1 2) 1 (named 1 (codes "a")) (named 3 (codes "b"))) true (record { text = codes "c"; at = column 5 }))
