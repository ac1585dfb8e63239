-- What is made of parts of lines.
use Rattle.std.specs.Prelude.{Bool, true, false, List, ◌++◌, Option}
use Rattle.lus_tree.specs.Tree.{Variable, Constant, Labelled, ContractStatement}
use Rattle.lus_lexer.specs.declared.token.Class.{Class}
use Rattle.lus_lexer.specs.declared.token.Class.TheVariants as C
use Rattle.lus_lexer.specs.declared.token.Keyword.TheVariants as K
use Rattle.lus_lexer.specs.declared.token.Sign.TheVariants as S
use Rattle.lus_lexer.specs.declared.token.Opening.{Opening}
use Rattle.lus_lexer.specs.declared.token.Opening.TheVariants as O
use Rattle.lus_lexer.specs.declared.token.Closing.{Closing}
use Rattle.lus_lexer.specs.declared.token.Closing.TheVariants as E
use Rattle.lus_grammar.specs.Phrase.{Phrase, Item, Names, part, sign, word, optional, repeated, ◌⨾◌}
use Rattle.lus_grammar.specs.Grammar.{semicolon}
use Rattle.lus_grammar.specs.Syntax.{Syntax, present}
use Rattle.lus_grammar.specs.Programs.{contract_of, local_variables_of, local_constants_of, requires_of, ensures_of}

-- with which word a node begins
abbrev pub node_class : Bool → Class
node_class true = C.Keyword K.Function
node_class false = C.Keyword K.Node

-- what closes a contract
abbrev pub closing_of : Opening → Closing
closing_of O.Round = E.Round
closing_of O.Slash = E.Slash

-- "(" [ names ] ")" ";"
abbrev pub outputs : Phrase
outputs = sign S.Open ⨾ optional (part Names) ⨾ sign S.Close ⨾ semicolon

-- "let" { item } "tel" [ ";" ]
abbrev pub node_body : Phrase
node_body = word K.Let ⨾ repeated (part Item) ⨾ word K.Tel ⨾ optional semicolon

-- both kinds of locals
abbrev pub locals_of : Syntax → List Variable × List Constant
locals_of x = (local_variables_of x, local_constants_of x)

-- both kinds of a mode's items
abbrev pub mode_items_of : Syntax → List Labelled × List Labelled
mode_items_of x = (requires_of x, ensures_of x)

-- a list behind others
abbrev pub behind : {A : Type 0} → (Syntax → List A) → List A → Syntax → List A
behind value xs x = xs ++ value x

-- a contract that is there
abbrev pub enclosed_of : Syntax → Option (List ContractStatement)
enclosed_of x = contract_of (present x)
