-- What the readers of contracts and nodes answer, of the bytes, the tokens and the code's counts.
use Rattle.std.specs.Prelude.{ℕ, List, [], ◌∷◌, map}
use Rattle.lus_tree.specs.Reason.{refusal_view}
use Rattle.lus_tree.specs.Tree.{Constant}
use Rattle.lus_tree.specs.View.{contract_item_view, decl_view, definition_view, item_view, named_view, param_view, word_view}
use Rattle.lus_tree.specs.declared.declaration.ContractItem.{ContractItem}
use Rattle.lus_tree.specs.declared.declaration.Decl.{Decl}
use Rattle.lus_tree.specs.declared.declaration.Item.{Item}
use Rattle.lus_tree.specs.declared.place.Param.{Param}
use Rattle.lus_tree.specs.declared.refusal.Refusal.{Refusal}
use Rattle.lus_lexer.specs.declared.token.Token.{Token}
use Rattle.lus_grammar.specs.Stream.{stream}
use Rattle.lus_grammar.specs.Phrase as P
use Rattle.lus_grammar.specs.Phrase.{Phrase, fresh, optional, part}
use Rattle.lus_grammar.specs.Grammar.{semicolon}
use Rattle.lus_grammar.specs.Syntax.{Counts, Syntax}
use Rattle.lus_grammar.specs.Run.{Run, read}
use Rattle.lus_grammar.specs.Source.{limit}
use Rattle.lus_grammar.specs.Answers.{Refuses}
use Rattle.lus_grammar.specs.Programs.{contract_statements_of, declarations_of, ensures_of, local_constants_of, local_variables_of, requires_of}
use Rattle.lus_reader.specs.declared.counts.Counts.{Counts as CountsCode}
use Rattle.lus_reader.specs.View.{counts_view}
use Rattle.contract_reader.specs.declared.locals.Locals.{Locals}
use Rattle.contract_reader.specs.declared.mode.ModeItems.{ModeItems}
use Rattle.contract_reader.specs.declared.node.Head.{Head}
use Rattle.contract_reader.specs.Parts.{Adds, GrowsBoth, IsGroup, IsHead, IsNodeBody, headed}

-- an item of a contract stands from i up to j
abbrev pub ReadsContractItem : List ℕ → List Token → ℕ → CountsCode → ℕ → CountsCode → ContractItem → Type 0
ReadsContractItem bytes tokens i n j m item =
    Adds contract_statements_of (stream bytes tokens) (part P.ContractItem) i (counts_view n) j (counts_view m) (contract_item_view item ∷ [])

-- a declaration stands from i up to j
abbrev pub ReadsDeclaration : List ℕ → List Token → ℕ → ℕ → Decl → Type 0
ReadsDeclaration bytes tokens i j decl = (n : Counts) → Adds declarations_of (stream bytes tokens) (fresh P.Declaration) i n j n (decl_view decl ∷ [])

-- locals stand from i up to j, behind the old ones, and make the new ones
abbrev pub GrowsLocals : List ℕ → List Token → ℕ → CountsCode → ℕ → CountsCode → Locals → Locals → Type 0
GrowsLocals bytes tokens i n j m old new =
    GrowsBoth local_variables_of local_constants_of (stream bytes tokens) (part P.Locals) i (counts_view n) j (counts_view m)
    (map param_view old.variables.items) (map param_view new.variables.items)
    (map definition_view old.constants.items) (map definition_view new.constants.items)

-- the same of streams alone
abbrev pub GrowsVariables : List ℕ → List Token → ℕ → ℕ → List Param → List Param → Type 0
GrowsVariables bytes tokens i j old new = (n : Counts) → (cs : List Constant)
    → GrowsBoth local_variables_of local_constants_of (stream bytes tokens) (part P.Locals) i n j n (map param_view old) (map param_view new) cs cs

-- lgroup ";" stands from i up to j, behind the old streams, and makes the new ones
abbrev pub GrowsGroup : List ℕ → List Token → ℕ → ℕ → List Param → List Param → Type 0
GrowsGroup bytes tokens i j old new = (n : Counts) → IsGroup (stream bytes tokens) i n j (map param_view old) (map param_view new)

-- an item of a mode stands from i up to j, behind the old ones, and makes the new ones
abbrev pub GrowsModeItems : List ℕ → List Token → ℕ → CountsCode → ℕ → CountsCode → ModeItems → ModeItems → Type 0
GrowsModeItems bytes tokens i n j m old new =
    GrowsBoth requires_of ensures_of (stream bytes tokens) (part P.ModeItem) i (counts_view n) j (counts_view m)
    (map named_view old.required.items) (map named_view new.required.items)
    (map named_view old.ensured.items) (map named_view new.ensured.items)

-- ID params "returns" params stands from i up to j
abbrev pub ReadsHead : List ℕ → List Token → ℕ → ℕ → Head → Type 0
ReadsHead bytes tokens i j head = (n : Counts)
    → IsHead (stream bytes tokens) i n j (word_view head.name) (map param_view head.inputs.items) (map param_view head.outputs.items)

-- "let" { item } "tel" [ ";" ] stands from i up to j
abbrev pub ReadsNodeBody : List ℕ → List Token → ℕ → CountsCode → ℕ → CountsCode → List Item → Type 0
ReadsNodeBody bytes tokens i n j m items = IsNodeBody (stream bytes tokens) i (counts_view n) j (counts_view m) (map item_view items)

-- with whatever behind, the phrase that f makes of it is refused
abbrev pub RefusesBefore : (Phrase → Phrase) → List ℕ → List Token → ℕ → Refusal → Type 0
RefusesBefore f bytes tokens i r = (n : Counts) (h : Phrase) → Refuses (stream bytes tokens) (f h) i n (refusal_view r)

-- [ ";" ] stands from i up to j
abbrev pub SkipsSemicolon : List ℕ → List Token → ℕ → ℕ → Type 0
SkipsSemicolon bytes tokens i j = (n : Counts) → (x : Syntax) × Run limit (stream bytes tokens) (optional semicolon) i n (read j n x)
