-- The first declaration of a name, as a node or as a contract node.
use Rattle.std.proofs.Common.{◌≡◌, ℕ, Bool, true, false, cond, not, List, [], ◌∷◌, Option, Some, None, option_map, refl, ap, ◌∙◌, sym}
use Rattle.std.specs.Borrow.{Bor}
use Rattle.std.specs.Option.{option_and_then}
use Rattle.std.specs.Str.{bytes_eq}
use Rattle.indexmap.specs.IndexMap.{IndexMap}
use Rattle.lus_tree.specs.Tree.{Name, Component, Declaration, declared_constant, declared_node, declared_contract, Program}
use Rattle.lus_meaning.specs.Scope.{component_where, contract_named, node_if, node_named}
use Rattle.lus_scopes.specs.declared.callee.Callee.{Callee}
use Rattle.lus_scopes.specs.declared.callee.Callee.TheVariants.{Node, Contract}
use Rattle.lus_scopes.specs.Meanings.{as_contract, as_node, by_name, callee_view, first_named}

-- a declaration where it is of the kind that is wanted
abbrev wanted : Bool → Declaration → Option Component
wanted node (declared_constant c) = None
wanted node (declared_node n) = node_if node n
wanted node (declared_contract n) = node_if (not node) n

first_where : (node : Bool) (p : Program) (x : Name) → component_where node p x ≡ option_and_then (wanted node) (first_named p x)
first_where node [] x = refl
first_where node (declared_constant c ∷ ds) x = first_where node ds x
first_where node (declared_node n ∷ ds) x = go (bytes_eq x n.name.text) (first_where node ds x)
  where
    go : (t : Bool) → component_where node ds x ≡ option_and_then (wanted node) (first_named ds x)
        → cond t (node_if node n) (component_where node ds x) ≡ option_and_then (wanted node) (cond t (Some (declared_node n)) (first_named ds x))
    go true h = refl
    go false h = h
first_where node (declared_contract n ∷ ds) x = go (bytes_eq x n.name.text) (first_where node ds x)
  where
    go : (t : Bool) → component_where node ds x ≡ option_and_then (wanted node) (first_named ds x)
        → cond t (node_if (not node) n) (component_where node ds x)
        ≡ option_and_then (wanted node) (cond t (Some (declared_contract n)) (first_named ds x))
    go true h = refl
    go false h = h

node_in : (o : Option Callee) → option_and_then (wanted true) (option_map callee_view o) ≡ option_and_then as_node o
node_in None = refl
node_in (Some (Node n)) = refl
node_in (Some (Contract n)) = refl

contract_in : (o : Option Callee) → option_and_then (wanted false) (option_map callee_view o) ≡ option_and_then as_contract o
contract_in None = refl
contract_in (Some (Node n)) = refl
contract_in (Some (Contract n)) = refl

pub nodes_by : {S : Type 0} (m : IndexMap (Bor (List ℕ)) Callee S) (p : Program)
    → ((x : Name) → option_map callee_view (by_name m x) ≡ first_named p x)
    → (x : Name) → node_named p x ≡ option_and_then as_node (by_name m x)
nodes_by m p h x = first_where true p x ∙ ap (option_and_then (wanted true)) (sym (h x)) ∙ node_in (by_name m x)

pub contracts_by : {S : Type 0} (m : IndexMap (Bor (List ℕ)) Callee S) (p : Program)
    → ((x : Name) → option_map callee_view (by_name m x) ≡ first_named p x)
    → (x : Name) → contract_named p x ≡ option_and_then as_contract (by_name m x)
contracts_by m p h x = first_where false p x ∙ ap (option_and_then (wanted false)) (sym (h x)) ∙ contract_in (by_name m x)
