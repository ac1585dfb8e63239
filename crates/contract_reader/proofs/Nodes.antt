-- Into nodes and contract nodes, and what is made of them.
use Rattle.std.proofs.Common.{◌≡◌, ℕ, ◌+◌, refl, ap, inl, inr, Bool, true, false, List, [], ◌∷◌, Option, Some}
use Rattle.lus_tree.specs.Tree.{Spelled, Variable, Constant, Statement, ContractStatement, Component, declared_node, declared_contract}
use Rattle.lus_lexer.specs.declared.token.Class.{Class}
use Rattle.lus_lexer.specs.declared.token.Class.TheVariants as C
use Rattle.lus_lexer.specs.declared.token.Keyword.TheVariants as K
use Rattle.lus_grammar.specs.Stream.{Stream, Mark}
use Rattle.lus_grammar.specs.Phrase.{Phrase, Node, ContractNode, Contract, ContractItem, Locals, Item, optional, part, repeated, word, ◌⨾◌}
use Rattle.lus_grammar.specs.Grammar.{semicolon}
use Rattle.lus_grammar.specs.Syntax.{Counts, Syntax, leaf, node, ◌·◌}
use Rattle.lus_grammar.specs.Run.{Run, read}
use Rattle.lus_grammar.specs.Source.{limit}
use Rattle.lus_grammar.specs.Trees.{spelled}
use Rattle.lus_grammar.specs.Programs.{nodes_of, contract_nodes_of, is_function, parameters_of, contract_of, items_of, contract_statements_of}
use Rattle.lus_grammar.specs.Answers.{Reads}
use Rattle.contract_reader.specs.Parts.{IsNodeBody, Leads, headed}
use Rattle.contract_reader.specs.Values.{node_body, node_class, locals_of}
use Rattle.contract_reader.proofs.Leads.{into, behind_token}

-- what stands in a node behind its head
abbrev pub behind_head : Phrase
behind_head = optional semicolon ⨾ optional (part Contract) ⨾ repeated (part Locals) ⨾ node_body

-- and in a contract node
abbrev pub behind_contract_head : Phrase
behind_contract_head = semicolon ⨾ word K.Let ⨾ repeated (part ContractItem) ⨾ word K.Tel ⨾ optional semicolon

pub into_node : (s : Stream) (i : ℕ) (n : Counts) (b : Bool) → (s i).class ≡ Some (node_class b) → Leads s (part Node) i n
    (headed behind_head) (i + 1) n (λ x. node Node (leaf (s i) · x))
into_node s i n false e = behind_token into (inl e)
into_node s i n true e = behind_token into (inr (inl e))

pub into_contract_node : (s : Stream) (i : ℕ) (n : Counts) → (s i).class ≡ Some (C.Keyword K.Contract) → Leads s (part ContractNode) i n
    (headed behind_contract_head) (i + 1) n (λ x. node ContractNode (leaf (s i) · x))
into_contract_node s i n e = behind_token into (inl e)

function_is : (o : Option Class) (b : Bool) → o ≡ Some (node_class b) → b ≡ is_function o
function_is o false e = rw e refl
function_is o true e = rw e refl

abbrev component : Spelled → Bool → List Variable → List Variable → List Variable → List Constant → Option (List ContractStatement) → List Statement → Component
component a b c d e f g h = record { name = a; function = b; inputs = c; outputs = d; locals = e; constants = f; contract = g; body = h }

parts : (a a' : Spelled) (b b' : Bool) (c c' d d' e e' : List Variable) (f f' : List Constant) (g g' : Option (List ContractStatement))
    (h h' : List Statement) → a ≡ a' → b ≡ b' → c ≡ c' → d ≡ d' → e ≡ e' → f ≡ f' → g ≡ g' → h ≡ h'
    → component a b c d e f g h ≡ component a' b' c' d' e' f' g' h'
parts a a' b b' c c' d d' e e' f f' g g' h h' i j k l m n o p = rw (i, j, k, l, m, n, o, p) refl

made : (v v' : Component) → v.name ≡ v'.name → v.function ≡ v'.function → v.inputs ≡ v'.inputs → v.outputs ≡ v'.outputs
    → v.locals ≡ v'.locals → v.constants ≡ v'.constants → v.contract ≡ v'.contract → v.body ≡ v'.body → v ≡ v'
made v v' a b c d e f g h = parts v.name v'.name v.function v'.function v.inputs v'.inputs v.outputs v'.outputs v.locals v'.locals
    v.constants v'.constants v.contract v'.contract v.body v'.body a b c d e f g h

module _ {s : Stream} {i : ℕ} {n : Counts} {k j : ℕ} {m : Counts} {x : Mark} {ps r qs : Syntax} where
  pub reads_node : {a c ls : Syntax} {o : Counts} (v : Component) → (s i).class ≡ Some (node_class v.function)
      → Leads s (part Node) i n node_body k m (λ y. node Node (leaf (s i) · leaf x · ps · r · qs · a · c · ls · y))
      → v.name ≡ spelled x → v.inputs ≡ parameters_of ps → v.outputs ≡ parameters_of qs → v.contract ≡ contract_of c
      → (let pair : List Variable × List Constant = (v.locals, v.constants) in pair ≡ locals_of ls) → IsNodeBody s k m j o v.body
      → Reads nodes_of s (part Node) i n j o (declared_node v ∷ [])
  reads_node v w l e f g h p b = record {
    syntax = _;
    run = l.reads _ _ _ b.run;
    is = ap (λ y. declared_node y ∷ []) (made v _ e (function_is (s i).class v.function w) f g (ap (λ y. y.0) p) (ap (λ y. y.1) p) h b.is);
  }

  pub reads_contract_node : {t : Mark} {a b d is z : Syntax} (v : Component) → v.function ≡ false → v.locals ≡ [] → v.constants ≡ []
      → v.body ≡ [] → Leads s (part ContractNode) i n (optional semicolon) k m
      (λ y. node ContractNode (leaf t · leaf x · ps · r · qs · a · b · is · d · y)) → Run limit s (optional semicolon) k m (read j m z)
      → v.name ≡ spelled x → v.inputs ≡ parameters_of ps → v.outputs ≡ parameters_of qs → v.contract ≡ Some (contract_statements_of is)
      → Reads contract_nodes_of s (part ContractNode) i n j m (declared_contract v ∷ [])
  reads_contract_node v w' l' c' b' l q e f g h = record {
    syntax = _;
    run = l.reads _ _ _ q;
    is = ap (λ y. declared_contract y ∷ []) (made v _ e w' f g l' c' h b');
  }
