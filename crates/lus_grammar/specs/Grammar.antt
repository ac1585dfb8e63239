-- The grammar of the language, line by line.
use Rattle.std.specs.Prelude.{List, [], ◌∷◌}
use Rattle.lus_lexer.specs.declared.token.Class.{Class}
use Rattle.lus_lexer.specs.declared.token.Class.TheVariants as C
use Rattle.lus_lexer.specs.declared.token.Keyword.TheVariants as K
use Rattle.lus_lexer.specs.declared.token.Sign.TheVariants as S
use Rattle.lus_lexer.specs.declared.token.Opening.TheVariants as O
use Rattle.lus_lexer.specs.declared.token.Closing.TheVariants as E
use Rattle.lus_lexer.specs.declared.token.Annotation.TheVariants as A
use Rattle.lus_grammar.specs.Phrase.{Level, Products, Sums, Conjunctions, Disjunctions, Part, Program, Declaration, Constant, Node, ContractNode, Parameters, Groups, Group, Names, Sort, Locals, LocalGroup, Item, Left, Contract, ContractItem, ModeItem, Arguments, Expression, Condition, Arrow, Implication, Relation, Unary, Primary, Expressions, Chain, pres, arrows, calls, Phrase, one_of, counted, part, limited, fresh, ◌⨾◌, ◌∣◌, optional, repeated, word, sign, identifier}

-- the operators of a level
abbrev pub signs : Level → List Class
signs Products = C.Sign S.Times ∷ C.Keyword K.Div ∷ C.Keyword K.Mod ∷ []
signs Sums = C.Sign S.Plus ∷ C.Sign S.Minus ∷ []
signs Conjunctions = C.Keyword K.And ∷ []
signs Disjunctions = C.Keyword K.Or ∷ C.Keyword K.Xor ∷ []

-- what stands between them
abbrev pub operand : Level → Part
operand Products = Unary
operand Sums = Chain Products
operand Conjunctions = Relation
operand Disjunctions = Chain Conjunctions

abbrev pub relations : List Class
relations = C.Sign S.Less ∷ C.Sign S.AtMost ∷ C.Sign S.Equals ∷ C.Sign S.Differs ∷ C.Sign S.AtLeast ∷ C.Sign S.More ∷ []

abbrev pub semicolon : Phrase
semicolon = sign S.Semicolon

-- [ TEXT ] expr ";"
abbrev pub labelled : Phrase
labelled = optional (one_of (C.Text ∷ [])) ⨾ limited Expression ⨾ semicolon

-- "when" [ "not" ] ID
abbrev pub when : Phrase
when = word K.When ⨾ optional (word K.Not) ⨾ identifier

-- "(" [ exprs ] ")"
abbrev pub bracketed : Phrase
bracketed = sign S.Open ⨾ optional (part Expressions) ⨾ sign S.Close

abbrev pub body : Part → Phrase
-- program = { decl }
body Program = repeated (fresh Declaration)
-- decl = const | node | cnode
body Declaration = part Constant ∣ part Node ∣ part ContractNode
-- const = "const" ID [ ":" sort ] "=" expr ";"
body Constant = word K.Const ⨾ identifier ⨾ optional (sign S.Colon ⨾ part Sort) ⨾ sign S.Equals ⨾ limited Expression ⨾ semicolon
-- node = ("node" | "function") ID params "returns" params [";"] [ contract ] { locals } "let" { item } "tel" [";"]
body Node = one_of (C.Keyword K.Node ∷ C.Keyword K.Function ∷ []) ⨾ identifier ⨾ part Parameters ⨾ word K.Returns ⨾ part Parameters ⨾ optional semicolon
    ⨾ optional (part Contract) ⨾ repeated (part Locals) ⨾ word K.Let ⨾ repeated (part Item) ⨾ word K.Tel ⨾ optional semicolon
-- cnode = "contract" ID params "returns" params ";" "let" { citem } "tel" [";"]
body ContractNode = word K.Contract ⨾ identifier ⨾ part Parameters ⨾ word K.Returns ⨾ part Parameters ⨾ semicolon
    ⨾ word K.Let ⨾ repeated (part ContractItem) ⨾ word K.Tel ⨾ optional semicolon
-- params = "(" [ groups ] ")"
body Parameters = sign S.Open ⨾ optional (part Groups) ⨾ sign S.Close
-- groups = group { ";" group } [";"], which is group [ ";" [ groups ] ]
body Groups = part Group ⨾ optional (semicolon ⨾ optional (part Groups))
-- group = names ":" sort
body Group = part Names ⨾ sign S.Colon ⨾ part Sort
-- names = ID { "," ID }
body Names = identifier ⨾ repeated (sign S.Comma ⨾ identifier)
-- sort = "bool" | "int"
body Sort = one_of (C.Keyword K.Bool ∷ C.Keyword K.Int ∷ [])
-- locals = "var" lgroup ";" { lgroup ";" } | const
body Locals = (word K.Var ⨾ part LocalGroup ⨾ semicolon ⨾ repeated (part LocalGroup ⨾ semicolon)) ∣ part Constant
-- lgroup = group [ "when" [ "not" ] ID ]
body LocalGroup = part Group ⨾ optional when
-- item = left "=" expr ";" | "assert" expr ";" | "check" [ TEXT ] expr ";" | "--%PROPERTY" [ TEXT ] expr ";" | "--%MAIN" [";"]
body Item = (part Left ⨾ sign S.Equals ⨾ limited Expression ⨾ semicolon)
    ∣ (word K.Assert ⨾ limited Expression ⨾ semicolon)
    ∣ (one_of (C.Keyword K.Check ∷ C.Annotation A.Property ∷ []) ⨾ labelled)
    ∣ (one_of (C.Annotation A.Main ∷ []) ⨾ optional semicolon)
-- left = names | "(" names ")"
body Left = part Names ∣ (sign S.Open ⨾ part Names ⨾ sign S.Close)
-- contract = "(*@contract" { citem } "*)" | "/*@contract" { citem } "*/"
body Contract = (one_of (C.ContractOpen O.Round ∷ []) ⨾ repeated (part ContractItem) ⨾ one_of (C.ContractClose E.Round ∷ []))
    ∣ (one_of (C.ContractOpen O.Slash ∷ []) ⨾ repeated (part ContractItem) ⨾ one_of (C.ContractClose E.Slash ∷ []))
-- citem = ("assume" | "guarantee") [ TEXT ] expr ";" | "var" ID ":" sort "=" expr ";" | const
--   | "mode" ID "(" { ("require" | "ensure") [ TEXT ] expr ";" } ")" ";"
--   | "import" ID "(" [ exprs ] ")" "returns" "(" [ names ] ")" ";"
body ContractItem = (one_of (C.Keyword K.Assume ∷ C.Keyword K.Guarantee ∷ []) ⨾ labelled)
    ∣ (word K.Var ⨾ identifier ⨾ sign S.Colon ⨾ part Sort ⨾ sign S.Equals ⨾ limited Expression ⨾ semicolon)
    ∣ part Constant
    ∣ (word K.Mode ⨾ identifier ⨾ sign S.Open ⨾ repeated (part ModeItem) ⨾ sign S.Close ⨾ semicolon)
    ∣ (counted calls (C.Keyword K.Import) ⨾ identifier ⨾ sign S.Open ⨾ optional (part Arguments) ⨾ sign S.Close
    ⨾ word K.Returns ⨾ sign S.Open ⨾ optional (part Names) ⨾ sign S.Close ⨾ semicolon)
body ModeItem = one_of (C.Keyword K.Require ∷ C.Keyword K.Ensure ∷ []) ⨾ labelled
-- the exprs of an import, of which each has the limit for itself
body Arguments = limited Expression ⨾ repeated (sign S.Comma ⨾ limited Expression)
-- exprs = expr { "," expr }
body Expressions = part Expression ⨾ repeated (sign S.Comma ⨾ part Expression)
-- expr = cond { "when" [ "not" ] ID }
body Expression = part Condition ⨾ repeated when
-- cond = "if" expr "then" expr "else" cond | arrow
body Condition = (word K.If ⨾ part Expression ⨾ word K.Then ⨾ part Expression ⨾ word K.Else ⨾ part Condition) ∣ part Arrow
-- arrow = impl [ "->" cond ]
body Arrow = part Implication ⨾ optional (counted arrows (C.Sign S.Arrow) ⨾ part Condition)
-- impl = disj [ "=>" impl ]
body Implication = part (Chain Disjunctions) ⨾ optional (sign S.Implies ⨾ part Implication)
-- disj = conj { ("or" | "xor") conj }; conj = rel { "and" rel }; sum = prod { ("+" | "-") prod }; prod = unary { ("*" | "div" | "mod") unary }
body (Chain l) = part (operand l) ⨾ repeated (one_of (signs l) ⨾ part (operand l))
-- rel = sum [ ("<" | "<=" | "=" | "<>" | ">=" | ">") sum ]
body Relation = part (Chain Sums) ⨾ optional (one_of relations ⨾ part (Chain Sums))
-- unary = ("not" | "-" | "pre") unary | primary
body Unary = (word K.Not ⨾ part Unary) ∣ (sign S.Minus ⨾ part Unary) ∣ (counted pres (C.Keyword K.Pre) ⨾ part Unary) ∣ part Primary
-- primary = NUMBER | "true" | "false" | ID [ "(" [ exprs ] ")" ] | "::" ID [ "::" ID ]
--   | "merge" ID "(" "true" "->" expr ")" "(" "false" "->" expr ")"
--   | "condact" "(" expr "," ID "(" [ exprs ] ")" { "," expr } ")"
--   | "(" ( "activate" ID "every" expr "initial" "default" "(" [ exprs ] ")" ")" "(" [ exprs ] ")" | expr ")" )
body Primary = one_of (C.Number ∷ [])
    ∣ one_of (C.Keyword K.True ∷ C.Keyword K.False ∷ [])
    ∣ (identifier ⨾ optional (counted calls (C.Sign S.Open) ⨾ optional (part Expressions) ⨾ sign S.Close))
    ∣ (sign S.DoubleColon ⨾ identifier ⨾ optional (sign S.DoubleColon ⨾ identifier))
    ∣ (word K.Merge ⨾ identifier
    ⨾ sign S.Open ⨾ word K.True ⨾ sign S.Arrow ⨾ part Expression ⨾ sign S.Close
    ⨾ sign S.Open ⨾ word K.False ⨾ sign S.Arrow ⨾ part Expression ⨾ sign S.Close)
    ∣ (counted calls (C.Keyword K.Condact) ⨾ sign S.Open ⨾ part Expression ⨾ sign S.Comma ⨾ identifier ⨾ bracketed
    ⨾ repeated (sign S.Comma ⨾ part Expression) ⨾ sign S.Close)
    ∣ (sign S.Open ⨾ (
    (counted calls (C.Keyword K.Activate) ⨾ identifier ⨾ word K.Every ⨾ part Expression ⨾ word K.Initial ⨾ word K.Default ⨾ bracketed
    ⨾ sign S.Close ⨾ bracketed)
    ∣ (part Expression ⨾ sign S.Close)))
