-- What a function that reads a phrase answers.
use Rattle.std.specs.Prelude.{◌≡◌, ℕ, ◌+◌, ◌<◌, ◌≤◌, IfOk, List, [], ◌∷◌, length, map, Some, Result, MatchResult}
use Rattle.lus_tree.specs.Tree.{Expression as Tree, Expressions as Trees, more}
use Rattle.lus_tree.specs.View.{expr_view, joined}
use Rattle.lus_lexer.specs.declared.token.Token.{Token}
use Rattle.lus_lexer.specs.declared.token.Class.TheVariants as C
use Rattle.lus_lexer.specs.declared.token.Keyword.{Keyword}
use Rattle.lus_lexer.specs.declared.token.Sign.TheVariants as S
use Rattle.lus_grammar.specs.Answers.{Reads}
use Rattle.lus_grammar.specs.Grammar.{when, bracketed}
use Rattle.lus_grammar.specs.Phrase.{Part, Expression, Expressions, Phrase, part, optional, repeated, ◌⨾◌, sign, word}
use Rattle.lus_grammar.specs.Run.{Run, read}
use Rattle.lus_grammar.specs.Source.{limit}
use Rattle.lus_grammar.specs.Stream.{Stream, stream}
use Rattle.lus_grammar.specs.Syntax.{Counts, Syntax, some, ◌·◌}
use Rattle.lus_grammar.specs.Trees.{expression_of, sampled_by, arguments_of, listed_of}
use Rattle.lus_reader.specs.Look.{Stopped}
use Rattle.lus_reader.specs.View.{counts_view}
use Rattle.lus_reader.specs.declared.stop.Found.{Found}
use Rattle.lus_reader.specs.declared.stop.List.{List as Exprs}
use Rattle.lus_reader.specs.declared.stop.Stop.{Stop}
use Rattle.lus_reader.specs.declared.counts.Counts.{Counts as CountsCode}

abbrev pub tree_of : Found → Tree
tree_of f = expr_view f.expr.value

-- what stands in a list, in front of more
abbrev pub onto : List Tree → Trees → Trees
onto [] ys = ys
onto (x ∷ xs) ys = more x (onto xs ys)

abbrev pub trees_of : Exprs → List Tree
trees_of l = map expr_view l.items.items

-- a text of the part, and its tree
abbrev pub IsRead : Stream → Part → ℕ → Counts → Found → Type 0
IsRead s p i n f = Reads expression_of s (part p) i n f.next (counts_view f.counts) (tree_of f)

abbrev pub Answers : Stream → Part → ℕ → Counts → Result Found Stop → Type 0
Answers s p i n r = MatchResult r (λ f. IsRead s p i n f) (λ e. Stopped s (part p) i n e)

abbrev pub Outcome : List ℕ → List Token → Part → ℕ → CountsCode → Result Found Stop → Type 0
Outcome bytes tokens p i n r = Answers (stream bytes tokens) p i (counts_view n) r

-- where what was read so far is a text of q, the answer is that of p
abbrev pub Goes : List ℕ → List Token → Part → Part → Found → Result Found Stop → Type 0
Goes bytes tokens q p of r = (i : ℕ) (n : Counts) → IsRead (stream bytes tokens) q i n of → Answers (stream bytes tokens) p i n r

-- one more clock behind an expression
pub record IsSampled (s : Stream) (of found : Found) : Type 0 where
  pub syntax : Syntax
  pub run : Run limit s when of.next (counts_view of.counts) (read found.next (counts_view found.counts) syntax)
  pub is : (ws : Syntax) → sampled_by (tree_of of) (some syntax ws) ≡ sampled_by (tree_of found) ws

abbrev pub Turn : List ℕ → List Token → Found → Result Found Stop → Type 0
Turn bytes tokens of r = MatchResult r (λ f. IsSampled (stream bytes tokens) of f) (λ e. Stopped (stream bytes tokens) when of.next (counts_view of.counts) e)

-- the start of a branch of a merge, up to its expression; what follows is told by its reader
pub record IsBranch (s : Stream) (k : Keyword) (i : ℕ) (n : Counts) (f : Found) : Type 0 where
  pub first : (s i).class ≡ Some (C.Sign S.Open)
  pub value : (s (i + 1)).class ≡ Some (C.Keyword k)
  pub arrow : (s (i + 1 + 1)).class ≡ Some (C.Sign S.Arrow)
  pub reads : IsRead s Expression (i + 1 + 1 + 1) n f

abbrev pub Branch : List ℕ → List Token → Keyword → ℕ → CountsCode → Result Found Stop → Type 0
Branch bytes tokens k i n r = MatchResult r (λ f. IsBranch (stream bytes tokens) k i (counts_view n) f)
    (λ e. (rest : Phrase) → Stopped (stream bytes tokens) (sign S.Open ⨾ word k ⨾ sign S.Arrow ⨾ part Expression ⨾ rest) i (counts_view n) e)

-- { "," expr }
abbrev pub more_expressions : Phrase
more_expressions = repeated (sign S.Comma ⨾ part Expression)

-- the list goes on with { "," expr }
abbrev pub More : List ℕ → List Token → Exprs → Result Exprs Stop → Type 0
More bytes tokens of r = MatchResult r
    (λ l. Reads (λ x. onto (trees_of of) (listed_of x)) (stream bytes tokens) more_expressions of.next (counts_view of.counts) l.next
    (counts_view l.counts) (joined (trees_of l)))
    (λ e. Stopped (stream bytes tokens) more_expressions of.next (counts_view of.counts) e)

-- [ exprs ]
abbrev pub Argued : List ℕ → List Token → ℕ → CountsCode → Result Exprs Stop → Type 0
Argued bytes tokens i n r = MatchResult r
    (λ l. Reads arguments_of (stream bytes tokens) (optional (part Expressions)) i (counts_view n) l.next (counts_view l.counts) (joined (trees_of l)))
    (λ e. Stopped (stream bytes tokens) (optional (part Expressions)) i (counts_view n) e)

-- "(" [ exprs ] ")"
pub record IsBracketed (s : Stream) (i : ℕ) (n : Counts) (l : Exprs) : Type 0 where
  pub first : Syntax
  pub inner : Syntax
  pub last : Syntax
  pub run : Run limit s bracketed i n (read l.next (counts_view l.counts) (first · inner · last))
  pub is : joined (trees_of l) ≡ arguments_of inner

abbrev pub Bracketed : List ℕ → List Token → ℕ → CountsCode → Result Exprs Stop → Type 0
Bracketed bytes tokens i n r = MatchResult r (λ l. IsBracketed (stream bytes tokens) i (counts_view n) l)
    (λ e. Stopped (stream bytes tokens) bracketed i (counts_view n) e)

-- tokens were taken, and no more than there are
abbrev pub Onward : List Token → ℕ → Result Found Stop → Type 0
Onward tokens i r = IfOk r (λ f. (i < f.next) × (f.next ≤ length tokens))

abbrev pub Further : List Token → Found → Result Found Stop → Type 0
Further tokens of r = IfOk r (λ f. (of.next ≤ f.next) × (of.next ≤ length tokens → f.next ≤ length tokens))

abbrev pub OnwardList : List Token → ℕ → Result Exprs Stop → Type 0
OnwardList tokens i r = IfOk r (λ l. (i < l.next) × (l.next ≤ length tokens))

-- the same where none may be taken
abbrev pub FurtherList : List Token → ℕ → Result Exprs Stop → Type 0
FurtherList tokens i r = IfOk r (λ l. (i ≤ l.next) × (i ≤ length tokens → l.next ≤ length tokens))
