-- What holds of the tree of every source.
use Rattle.std.specs.Prelude.{◌≡◌, ℕ, true, List}
use Rattle.std.specs.List.{AllByRecursion}
use Rattle.lus_tree.specs.Tree.{Component, Declaration, declared_constant, declared_node, declared_contract, Program}
use Rattle.lus_lexer.specs.Names.{is_name}
use Rattle.lus_grammar.specs.Source.{IsSource}
use Rattle.lus_meaning.specs.Rules.{declared_names}
use Rattle.lus_meaning.specs.Grammatical.{IsGrammatical}

-- a node or contract node and the streams that it declares are named by identifiers
pub record IsIdentified (d : Component) : Type 0 where
  pub node : is_name d.name.text ≡ true
  pub declared : AllByRecursion (λ x. is_name x ≡ true) (declared_names d)

abbrev pub IsIdentifiedDeclaration : Declaration → Type 0
IsIdentifiedDeclaration (declared_constant c) = is_name c.name.text ≡ true
IsIdentifiedDeclaration (declared_node n) = IsIdentified n
IsIdentifiedDeclaration (declared_contract n) = IsIdentified n

abbrev pub AreIdentified : Program → Type 0
AreIdentified p = AllByRecursion IsIdentifiedDeclaration p

-- A source's constants, its nodes and contract nodes, and the streams of these are named by identifiers.
abbrev pub IdentifiedSources : Type 0
IdentifiedSources = (bytes : List ℕ) (p : Program) → IsSource bytes p → AreIdentified p

-- Each source's tree is one that the grammar gives.
abbrev pub GrammaticalSources : Type 0
GrammaticalSources = (bytes : List ℕ) (p : Program) → IsSource bytes p → IsGrammatical p
