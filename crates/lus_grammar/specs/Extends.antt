-- With which tokens a text of a phrase may go on. The readers go by this; the grammar's texts are defined without it.
use Rattle.std.specs.Prelude.{◌≡◌, ℕ, ◌+◌, ◌≤◌, false, List, [], ◌∷◌, ◌++◌, if◌then◌else◌}
use Rattle.lus_lexer.specs.declared.token.Class.{Class}
use Rattle.lus_lexer.specs.declared.token.Class.TheVariants as C
use Rattle.lus_lexer.specs.declared.token.Keyword.TheVariants as K
use Rattle.lus_lexer.specs.declared.token.Sign.TheVariants as S
use Rattle.lus_grammar.specs.Stream.{Stream, Agree}
use Rattle.lus_grammar.specs.Phrase.{Level, Products, Sums, Conjunctions, Disjunctions, Part, Program, Declaration, Constant, Node, ContractNode, Parameters, Groups, Group, Names, Sort, Locals, LocalGroup, Item, Left, Contract, ContractItem, ModeItem, Arguments, Expression, Condition, Arrow, Implication, Relation, Unary, Primary, Expressions, Chain, Phrase, one_of, counted, part, limited, fresh, ◌⨾◌, ◌∣◌, optional, repeated}
use Rattle.lus_grammar.specs.Grammar.{body, signs, relations}
use Rattle.lus_grammar.specs.Syntax.{Counts, Syntax}
use Rattle.lus_grammar.specs.Text.{Text}
use Rattle.lus_grammar.specs.Starts.{code, codes_of, listed, starts, may_be_nothing}

abbrev pub behind_unaries : List Class
behind_unaries = C.Sign S.Open ∷ C.Sign S.DoubleColon ∷ []

abbrev pub behind_sums : List Class
behind_sums = signs Sums ++ signs Products ++ behind_unaries

abbrev pub behind_chain : Level → List Class
behind_chain Products = signs Products ++ behind_unaries
behind_chain Sums = behind_sums
behind_chain Conjunctions = signs Conjunctions ++ relations ++ behind_sums
behind_chain Disjunctions = signs Disjunctions ++ signs Conjunctions ++ relations ++ behind_sums

abbrev pub behind_conditions : List Class
behind_conditions = C.Sign S.Arrow ∷ C.Sign S.Implies ∷ behind_chain Disjunctions

-- the classes that may go on with a text of a line
abbrev pub next_classes : Part → List Class
next_classes Program = C.Keyword K.Const ∷ C.Keyword K.Node ∷ C.Keyword K.Function ∷ C.Keyword K.Contract ∷ C.Sign S.Semicolon ∷ []
next_classes Declaration = C.Sign S.Semicolon ∷ []
next_classes Constant = []
next_classes Node = C.Sign S.Semicolon ∷ []
next_classes ContractNode = C.Sign S.Semicolon ∷ []
next_classes Parameters = []
next_classes Groups = C.Sign S.Semicolon ∷ C.Ident ∷ []
next_classes Group = []
next_classes Names = C.Sign S.Comma ∷ []
next_classes Sort = []
next_classes Locals = C.Ident ∷ []
next_classes LocalGroup = C.Keyword K.When ∷ []
next_classes Item = C.Sign S.Semicolon ∷ []
next_classes Left = C.Sign S.Comma ∷ []
next_classes Contract = []
next_classes ContractItem = []
next_classes ModeItem = []
next_classes Arguments = C.Sign S.Comma ∷ C.Keyword K.When ∷ behind_conditions
next_classes Expression = C.Keyword K.When ∷ behind_conditions
next_classes Condition = behind_conditions
next_classes Arrow = behind_conditions
next_classes Implication = C.Sign S.Implies ∷ behind_chain Disjunctions
next_classes Relation = relations ++ behind_sums
next_classes Unary = behind_unaries
next_classes Primary = behind_unaries
next_classes Expressions = C.Sign S.Comma ∷ C.Keyword K.When ∷ behind_conditions
next_classes (Chain l) = behind_chain l

-- the codes of the tokens that may go on with a text of a phrase
abbrev pub extends : Phrase → List ℕ
extends (one_of cs) = []
extends (counted k c) = []
extends (part p) = codes_of (next_classes p)
extends (limited p) = codes_of (next_classes p)
extends (fresh p) = codes_of (next_classes p)
extends (a ⨾ b) = if may_be_nothing b then extends a ++ extends b else extends b
extends (a ∣ b) = extends a ++ extends b
extends (optional a) = starts a ++ extends a
extends (repeated a) = starts a ++ extends a

-- The tokens from i on up to the one past the limit can begin a text of the line that takes them all, and no text ends before: not where the token behind it doesn't go on with it.
pub record Over (limit : ℕ) (s : Stream) (p : Part) (i : ℕ) (n : Counts) : Type 0 where
  pub t : Stream
  pub j : ℕ
  pub m : Counts
  pub x : Syntax
  pub agree : Agree s t (i + limit + 1)
  pub past : i + limit + 1 ≤ j
  pub text : Text limit (i + limit) t (body p) i j n m x
  pub none : (j' : ℕ) (m' : Counts) (x' : Syntax) → j' ≤ i + limit → Text limit 0 s (body p) i j' n m' x' → listed (code (s j').class)
      (extends (body p)) ≡ false → Prim.⊥
