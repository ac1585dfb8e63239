-- With which tokens a text of a phrase may begin. The readers go by this; the grammar's texts are defined without it.
use Rattle.std.specs.Prelude.{◌≡◌, ℕ, Bool, true, false, ◌||◌, ◌&&◌, ◌==◌, List, [], ◌∷◌, ◌++◌, map, Option, Some, None, if◌then◌else◌}
use Rattle.lus_lexer.specs.declared.token.Class.{Class}
use Rattle.lus_lexer.specs.declared.token.Class.TheVariants as C
use Rattle.lus_lexer.specs.declared.token.Keyword.{Keyword}
use Rattle.lus_lexer.specs.declared.token.Keyword.TheVariants as K
use Rattle.lus_lexer.specs.declared.token.Sign.{Sign}
use Rattle.lus_lexer.specs.declared.token.Sign.TheVariants as S
use Rattle.lus_lexer.specs.declared.token.Opening.TheVariants as O
use Rattle.lus_lexer.specs.declared.token.Closing.TheVariants as E
use Rattle.lus_lexer.specs.declared.token.Annotation.TheVariants as A
use Rattle.lus_grammar.specs.Stream.{Stream}
use Rattle.lus_grammar.specs.Phrase.{Part, Program, Declaration, Constant, Node, ContractNode, Parameters, Groups, Group, Names, Sort, Locals, LocalGroup, Item, Left, Contract, ContractItem, ModeItem, Arguments, Expression, Condition, Arrow, Implication, Relation, Unary, Primary, Expressions, Chain, Phrase, one_of, counted, part, limited, fresh, ◌⨾◌, ◌∣◌, optional, repeated}

-- a number for each class that the grammar has; those that it leaves out, and the end, have two numbers of their own
abbrev pub sign_code : Sign → ℕ
sign_code S.Open = 10
sign_code S.Close = 11
sign_code S.Comma = 12
sign_code S.Semicolon = 13
sign_code S.Colon = 14
sign_code S.DoubleColon = 15
sign_code S.Equals = 16
sign_code S.Less = 17
sign_code S.AtMost = 18
sign_code S.More = 19
sign_code S.AtLeast = 20
sign_code S.Differs = 21
sign_code S.Plus = 22
sign_code S.Minus = 23
sign_code S.Times = 24
sign_code S.Arrow = 25
sign_code S.Implies = 26

abbrev pub keyword_code : Keyword → ℕ
keyword_code K.Node = 40
keyword_code K.Function = 41
keyword_code K.Contract = 42
keyword_code K.Returns = 43
keyword_code K.Var = 44
keyword_code K.Const = 45
keyword_code K.Let = 46
keyword_code K.Tel = 47
keyword_code K.Import = 48
keyword_code K.Mode = 49
keyword_code K.Assume = 50
keyword_code K.Guarantee = 51
keyword_code K.Require = 52
keyword_code K.Ensure = 53
keyword_code K.Assert = 54
keyword_code K.Check = 55
keyword_code K.If = 56
keyword_code K.Then = 57
keyword_code K.Else = 58
keyword_code K.When = 59
keyword_code K.Merge = 60
keyword_code K.Condact = 61
keyword_code K.Activate = 62
keyword_code K.Every = 63
keyword_code K.Initial = 64
keyword_code K.Default = 65
keyword_code K.Pre = 66
keyword_code K.And = 67
keyword_code K.Or = 68
keyword_code K.Xor = 69
keyword_code K.Not = 70
keyword_code K.Div = 71
keyword_code K.Mod = 72
keyword_code K.True = 73
keyword_code K.False = 74
keyword_code K.Bool = 75
keyword_code K.Int = 76

abbrev pub class_code : Class → ℕ
class_code C.Ident = 2
class_code C.Number = 3
class_code C.Text = 4
class_code (C.Sign s) = sign_code s
class_code (C.ContractOpen O.Round) = 30
class_code (C.ContractOpen O.Slash) = 31
class_code (C.ContractClose E.Round) = 32
class_code (C.ContractClose E.Slash) = 33
class_code (C.Annotation A.Main) = 34
class_code (C.Annotation A.Property) = 35
class_code (C.LeftOut w) = 1
class_code (C.Keyword k) = keyword_code k

abbrev pub code : Option Class → ℕ
code None = 0
code (Some c) = class_code c

abbrev pub listed : ℕ → List ℕ → Bool
listed k [] = false
listed k (c ∷ cs) = k == c || listed k cs

abbrev pub may_be_empty : Part → Bool
may_be_empty Program = true
may_be_empty _ = false

abbrev pub primaries : List Class
primaries = C.Number ∷ C.Keyword K.True ∷ C.Keyword K.False ∷ C.Ident ∷ C.Sign S.DoubleColon ∷ C.Keyword K.Merge ∷ C.Keyword K.Condact ∷ C.Sign S.Open ∷ []

abbrev pub unaries : List Class
unaries = C.Keyword K.Not ∷ C.Sign S.Minus ∷ C.Keyword K.Pre ∷ primaries

abbrev pub conditions : List Class
conditions = C.Keyword K.If ∷ unaries

-- the classes with which a text of a line begins
abbrev pub first_classes : Part → List Class
first_classes Program = C.Keyword K.Const ∷ C.Keyword K.Node ∷ C.Keyword K.Function ∷ C.Keyword K.Contract ∷ []
first_classes Declaration = C.Keyword K.Const ∷ C.Keyword K.Node ∷ C.Keyword K.Function ∷ C.Keyword K.Contract ∷ []
first_classes Constant = C.Keyword K.Const ∷ []
first_classes Node = C.Keyword K.Node ∷ C.Keyword K.Function ∷ []
first_classes ContractNode = C.Keyword K.Contract ∷ []
first_classes Parameters = C.Sign S.Open ∷ []
first_classes Groups = C.Ident ∷ []
first_classes Group = C.Ident ∷ []
first_classes Names = C.Ident ∷ []
first_classes Sort = C.Keyword K.Bool ∷ C.Keyword K.Int ∷ []
first_classes Locals = C.Keyword K.Var ∷ C.Keyword K.Const ∷ []
first_classes LocalGroup = C.Ident ∷ []
first_classes Item = C.Ident ∷ C.Sign S.Open ∷ C.Keyword K.Assert ∷ C.Keyword K.Check ∷ C.Annotation A.Property ∷ C.Annotation A.Main ∷ []
first_classes Left = C.Ident ∷ C.Sign S.Open ∷ []
first_classes Contract = C.ContractOpen O.Round ∷ C.ContractOpen O.Slash ∷ []
first_classes ContractItem = C.Keyword K.Assume ∷ C.Keyword K.Guarantee ∷ C.Keyword K.Var ∷ C.Keyword K.Const ∷ C.Keyword K.Mode ∷ C.Keyword K.Import ∷ []
first_classes ModeItem = C.Keyword K.Require ∷ C.Keyword K.Ensure ∷ []
first_classes Arguments = conditions
first_classes Expression = conditions
first_classes Condition = conditions
first_classes Arrow = unaries
first_classes Implication = unaries
first_classes Relation = unaries
first_classes Unary = unaries
first_classes Primary = primaries
first_classes Expressions = conditions
first_classes (Chain l) = unaries

abbrev pub codes_of : List Class → List ℕ
codes_of cs = map class_code cs

abbrev pub may_be_nothing : Phrase → Bool
may_be_nothing (one_of cs) = false
may_be_nothing (counted k c) = false
may_be_nothing (part p) = may_be_empty p
may_be_nothing (limited p) = may_be_empty p
may_be_nothing (fresh p) = may_be_empty p
may_be_nothing (a ⨾ b) = may_be_nothing a && may_be_nothing b
may_be_nothing (a ∣ b) = may_be_nothing a || may_be_nothing b
may_be_nothing (optional a) = true
may_be_nothing (repeated a) = true

-- the codes of the tokens with which a text of a phrase begins
abbrev pub starts : Phrase → List ℕ
starts (one_of cs) = codes_of cs
starts (counted k c) = class_code c ∷ []
starts (part p) = codes_of (first_classes p)
starts (limited p) = codes_of (first_classes p)
starts (fresh p) = codes_of (first_classes p)
starts (a ⨾ b) = if may_be_nothing a then starts a ++ starts b else starts a
starts (a ∣ b) = starts a ++ starts b
starts (optional a) = starts a
starts (repeated a) = starts a

-- whether a text of the phrase may begin with the mark at i
abbrev pub Enters : Stream → ℕ → Phrase → Type 0
Enters s i a = listed (code (s i).class) (starts a) ≡ true

abbrev pub Passes : Stream → ℕ → Phrase → Type 0
Passes s i a = listed (code (s i).class) (starts a) ≡ false
