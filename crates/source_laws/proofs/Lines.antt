-- What is shown of the text of each line of the grammar, and of the marks that it stands on.
use Rattle.std.proofs.Common.{◌≡◌, ℕ, true, List, [], Bool, Option, Some, unwrap_or}
use Rattle.std.proofs.Math.Logic.{◌⊎◌, inl, inr}
use Rattle.std.specs.List.{AllByRecursion}
use Rattle.lus_tree.specs.Tree.{Spelled, Expression, equation}
use Rattle.lus_lexer.specs.declared.token.Class.TheVariants as C
use Rattle.lus_grammar.specs.Stream.{Stream}
use Rattle.lus_grammar.specs.Phrase as P
use Rattle.lus_grammar.specs.Phrase.{Part, Phrase}
use Rattle.lus_grammar.specs.Syntax.{Syntax, present, some}
use Rattle.lus_grammar.specs.Trees.{digits_value, expression_of, arguments_of}
use Rattle.lus_grammar.specs.Programs.{unquoted, names_of, group_of, groups_of, parameters_of, local_group_of, local_variables_of, local_constants_of, left_of, items_of, requires_of, ensures_of, constants_of, import_arguments_of, contract_statements_of, contract_of, nodes_of, contract_nodes_of, declaration_of, program_of}
use Rattle.lus_meaning.specs.Grammatical.{has_left_name}
use Rattle.source_laws.proofs.Parts.{IsWord, AreWords, IsSmall, IsPlain, ArePlain, IsPrintable, IsItem, IsConstant, IsLocal, IsOnClock, IsParameter, IsContractStatement, IsStatement, IsDeclaration, IsProgram}
use Rattle.source_laws.proofs.Made.{Made}

-- what names, numbers and texts are in a stream
pub record AreMarks (s : Stream) : Type 0 where
  pub name : (k : ℕ) → (s k).class ≡ Some C.Ident → IsWord (s k).text
  pub number : (k : ℕ) → (s k).class ≡ Some C.Number → IsSmall (digits_value (s k).text)
  pub text : (k : ℕ) → (s k).class ≡ Some C.Text → IsPrintable (Some (unquoted (s k).text))

-- some words
pub record AreNames (ws : List Spelled) : Type 0 where
  pub words : AreWords ws
  pub some_left : (e : Expression) → has_left_name (equation ws e) ≡ true

-- the streams and constants of some lines of locals
pub record AreLocals (x : Syntax) : Type 0 where
  pub streams : AllByRecursion IsLocal (local_variables_of x)
  pub constants : AllByRecursion IsConstant (local_constants_of x)

-- what the lines of a mode require and ensure
pub record AreModeItems (x : Syntax) : Type 0 where
  pub required : AllByRecursion IsItem (requires_of x)
  pub ensured : AllByRecursion IsItem (ensures_of x)

abbrev pub AreItems : Syntax → Type 0
AreItems x = AllByRecursion IsStatement (items_of x)

abbrev pub AreContractStatements : Syntax → Type 0
AreContractStatements x = AllByRecursion IsContractStatement (contract_statements_of x)

-- before others of its kind it leaves them such
abbrev pub Adds : (Syntax → Type 0) → Syntax → Type 0
Adds F x = (xs : Syntax) → F xs → F (some x xs)

abbrev pub IsLine : Part → Syntax → Type 0
IsLine P.Program x = IsProgram (program_of x)
IsLine P.Declaration x = AllByRecursion IsDeclaration (declaration_of x)
IsLine P.Constant x = AllByRecursion IsConstant (constants_of x)
IsLine P.Node x = AllByRecursion IsDeclaration (nodes_of x)
IsLine P.ContractNode x = AllByRecursion IsDeclaration (contract_nodes_of x)
IsLine P.Parameters x = AllByRecursion IsParameter (parameters_of x)
IsLine P.Groups x = AllByRecursion IsParameter (groups_of x)
IsLine P.Group x = (c : Option (Bool × Spelled)) → AllByRecursion (IsOnClock c) (group_of c x)
IsLine P.Names x = AreNames (names_of x)
IsLine P.Sort x = Unit {0}
IsLine P.Locals x = Adds AreLocals x
IsLine P.LocalGroup x = AllByRecursion IsLocal (local_group_of x)
IsLine P.Item x = Adds AreItems x
IsLine P.Left x = AreNames (left_of x)
IsLine P.Contract x = AllByRecursion IsContractStatement (unwrap_or (contract_of (present x)) [])
IsLine P.ContractItem x = Adds AreContractStatements x
IsLine P.ModeItem x = Adds AreModeItems x
IsLine P.Arguments x = AllByRecursion IsPlain (import_arguments_of (present x))
IsLine P.Expressions x = ArePlain (arguments_of (present x))
IsLine P.Expression x = IsPlain (expression_of x)
IsLine P.Condition x = IsPlain (expression_of x)
IsLine P.Arrow x = IsPlain (expression_of x)
IsLine P.Implication x = IsPlain (expression_of x)
IsLine P.Relation x = IsPlain (expression_of x)
IsLine P.Unary x = IsPlain (expression_of x)
IsLine P.Primary x = IsPlain (expression_of x)
IsLine (P.Chain l) x = IsPlain (expression_of x)

-- a text of a phrase in whose lines all this holds
abbrev pub Shown : Stream → Phrase → Syntax → Type 0
Shown s g x = Made IsLine s g x

-- one of a single class is of that class
pub the_one : {A : Type 0} → A ⊎ ⊥ → A
the_one (inl a) = a
the_one (inr b) = absurd b
