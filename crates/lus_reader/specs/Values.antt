-- What stands in a text, where a whole line of the grammar is needed to say it.
use Rattle.std.specs.Prelude.{◌≡◌, ℕ, Bool, List, [], ◌∷◌, ◌++◌, Option}
use Rattle.lus_tree.specs.Tree.{Spelled, Expression, Variable, Statement}
use Rattle.lus_lexer.specs.declared.token.Class.{Class}
use Rattle.lus_lexer.specs.declared.token.Class.TheVariants as C
use Rattle.lus_lexer.specs.declared.token.Keyword.TheVariants as K
use Rattle.lus_lexer.specs.declared.token.Annotation.TheVariants as A
use Rattle.lus_grammar.specs.Stream.{Mark, Stream}
use Rattle.lus_grammar.specs.Phrase.{◌⨾◌, limited}
use Rattle.lus_grammar.specs.Phrase as P
use Rattle.lus_grammar.specs.Grammar.{semicolon}
use Rattle.lus_grammar.specs.Syntax.{Counts, Syntax, leaf, node, ◌·◌, this, that, some}
use Rattle.lus_grammar.specs.Run.{read, Run}
use Rattle.lus_grammar.specs.Source.{limit}
use Rattle.lus_grammar.specs.Trees.{expression_of}
use Rattle.lus_grammar.specs.Programs.{group_of, items_of}

-- a group on any clock
abbrev pub typed_of : Syntax → Option (Bool × Spelled) → List Variable
typed_of x c = group_of c x

-- a list behind others
abbrev pub more_of : {A : Type 0} → List A → (Syntax → List A) → Syntax → List A
more_of front f x = front ++ f x

-- an item before others, and its four forms
abbrev pub item_of : Syntax → Syntax → List Statement
item_of x is = items_of (some x is)

abbrev pub equation_of : Syntax → Syntax → List Statement
equation_of x = item_of (node P.Item (this x))

abbrev pub assertion_of : Syntax → Syntax → List Statement
assertion_of x = item_of (node P.Item (that (this x)))

abbrev pub property_of : Syntax → Syntax → List Statement
property_of x = item_of (node P.Item (that (that (this x))))

abbrev pub main_of : Syntax → Syntax → List Statement
main_of x = item_of (node P.Item (that (that (that x))))

-- what a property begins with
abbrev pub property_classes : List Class
property_classes = C.Keyword K.Check ∷ C.Annotation A.Property ∷ []

-- what an item is before others
abbrev pub before : Statement → Syntax → List Statement
before x is = x ∷ items_of is

-- a reading of expr ";" comes from i to j, and v is the expression
pub record ReadsEnded (s : Stream) (i : ℕ) (n : Counts) (j : ℕ) (m : Counts) (v : Expression) : Type 0 where
  pub syntax : Syntax
  pub last : Mark
  pub run : Run limit s (limited P.Expression ⨾ semicolon) i n (read j m (syntax · leaf last))
  pub is : v ≡ expression_of syntax
