-- A source's constants, nodes, contract nodes and streams are named by identifiers.
use Rattle.std.proofs.Common.{ℕ, List, [], ◌∷◌, ◌++◌}
use Rattle.std.specs.List.{AllByRecursion}
use Rattle.lus_tree.specs.Tree.{ContractStatement, assume, guarantee, ghost_variable, constant, mode, «import», Component, Declaration, declared_constant, declared_node, declared_contract, Program}
use Rattle.lus_grammar.specs.Source.{IsSource}
use Rattle.lus_meaning.specs.Scene.{ghosts, contract_statements, variables}
use Rattle.source_laws.specs.Laws.{IsIdentified, IsIdentifiedDeclaration, AreIdentified}
use Rattle.source_laws.proofs.Lists.{all_both, all_map, all_such}
use Rattle.source_laws.proofs.Parts.{IsWord, IsStream, IsLocal, IsParameter, IsContractStatement, IsComponent, IsDeclaration}
use Rattle.source_laws.proofs.Read.{source_parts}

ghosts_named : (cs : List ContractStatement) → AllByRecursion IsContractStatement cs → AllByRecursion IsStream (ghosts cs)
ghosts_named [] h = tt
ghosts_named (assume l ∷ cs) h = ghosts_named cs h.1
ghosts_named (guarantee l ∷ cs) h = ghosts_named cs h.1
ghosts_named (ghost_variable x e ∷ cs) h = (h.0.0.name, ghosts_named cs h.1)
ghosts_named (constant c ∷ cs) h = ghosts_named cs h.1
ghosts_named (mode m rs es ∷ cs) h = ghosts_named cs h.1
ghosts_named («import» k c as_ xs ∷ cs) h = ghosts_named cs h.1

-- the streams of a declaration
pub streams_named : (n : Component) → IsComponent n → AllByRecursion IsStream (variables n)
streams_named n h =
    let inputs = all_such IsParameter IsStream (λ v k. k.name) n.inputs h.inputs in
    let outputs = all_such IsParameter IsStream (λ v k. k.name) n.outputs h.outputs in
    let locals = all_such IsLocal IsStream (λ v k. k.name) n.locals h.locals in
    all_both IsStream (n.inputs ++ n.outputs ++ n.locals) (ghosts (contract_statements n))
    (all_both IsStream (n.inputs ++ n.outputs) n.locals (all_both IsStream n.inputs n.outputs inputs outputs) locals)
    (ghosts_named (contract_statements n) h.contract)

identified : (n : Component) → IsComponent n → IsIdentified n
identified n h =
    record { node = h.name; declared = all_map IsStream IsWord (λ v. v.name.text) (λ v k. k) (variables n) (streams_named n h) }

declaration : (d : Declaration) → IsDeclaration d → IsIdentifiedDeclaration d
declaration (declared_constant c) h = h.name
declaration (declared_node n) h = identified n h
declaration (declared_contract n) h = identified n h.0

pub identified_sources : (bytes : List ℕ) (p : Program) → IsSource bytes p → AreIdentified p
identified_sources bytes p s = all_such IsDeclaration IsIdentifiedDeclaration declaration p (source_parts bytes p s)
